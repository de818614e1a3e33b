use Rattle.std.proofs.Common.{arith}
use Rattle.loops.proofs.dfs.Dfs.new.Goals as goal

pub invariant_of-result-clause-few : goal.invariant_of-result-clause-few
invariant_of-result-clause-few g c = let finite = g.G.Digraph.finite c.args.graph.now in omega (arith, finite.few)
