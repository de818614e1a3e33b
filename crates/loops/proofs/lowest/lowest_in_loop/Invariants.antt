use Rattle.std.proofs.Common.{◌≡◌, ℕ, ◌<◌}
use Rattle.flow.specs.Loops.{Path}
use Rattle.loops.proofs.lowest.lowest_in_loop.Given as goal

abbrev pub invariant-loop-v : goal.invariant-loop-v
invariant-loop-v g l =
    (l.met.size ≡ g.G.Digraph.size l.graph) × ((w : ℕ) → w < l.v → Path (g.G.Digraph.steps l.graph) w w → ⊥)
