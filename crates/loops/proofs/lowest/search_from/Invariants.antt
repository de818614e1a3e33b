use Rattle.std.proofs.Common.{◌≡◌, ◌-◌}
use Rattle.loops.proofs.Closure.{Spreads}
use Rattle.loops.proofs.lowest.search_from.Given as goal

abbrev pub invariant-loop-u : goal.invariant-loop-u
invariant-loop-u g l =
    (l.met.size ≡ g.G.Digraph.size l.graph) × Spreads (g.G.Digraph.size l.graph) (g.G.Digraph.steps l.graph) l.fn.start.0 l.met.nodes l.done

abbrev pub decreases-loop-u : goal.decreases-loop-u
decreases-loop-u g l = 1024 - l.done
