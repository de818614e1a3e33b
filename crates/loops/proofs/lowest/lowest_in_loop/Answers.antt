use Rattle.std.proofs.Common.{arith}
use Rattle.loops.proofs.Closure.{path_inside}
use Rattle.loops.proofs.lowest.lowest_in_loop.Goals as goal

pub new-met-requires : goal.new-met-requires
new-met-requires g c = let finite = g.G.Digraph.finite c.args.graph.now in omega (arith, finite.few)

pub returns : goal.returns
returns g c v p =
    let graph = c.args.graph.now in
    c.loop-v.invariant.1 v (omega (arith, path_inside (g.G.Digraph.size graph) (g.G.Digraph.steps graph) (g.G.Digraph.finite graph) p)) p
