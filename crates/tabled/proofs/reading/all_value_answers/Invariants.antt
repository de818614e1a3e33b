use Rattle.std.proofs.Common.{◌≡◌, take, vec_items}
use Rattle.tabled.specs.Tables.{nodes}
use Rattle.tabled.proofs.reading.all_value_answers.Given as goal

-- the answers so far are of the first values
abbrev pub invariant-loop-v : goal.invariant-loop-v
invariant-loop-v g l = nodes (vec_items l.values) ≡ take l.v (g.G.FlowGraph.meaning l.graph)
