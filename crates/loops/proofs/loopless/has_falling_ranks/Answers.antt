use Rattle.std.proofs.Common.{arith}
use Rattle.loops.proofs.Falling.{falling_loopless}
use Rattle.loops.proofs.loopless.has_falling_ranks.Goals as goal

pub returns : goal.returns
returns g c holds =
    let graph = c.args.graph.now in
    falling_loopless (g.G.Digraph.steps graph) c.ranks.result.now (g.G.Digraph.size graph) (g.G.Digraph.finite graph) (c.ranks_fall.ensures.0 holds) (omega arith)
