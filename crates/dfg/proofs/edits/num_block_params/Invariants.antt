use Rattle.std.proofs.Common.{◌≡◌, ◌≤◌, take}
use Rattle.plain.specs.Attached.{param_count}
use Rattle.dfg.proofs.edits.num_block_params.Given as goal

abbrev pub invariant-loop-row : goal.invariant-loop-row
invariant-loop-row l = (l.count ≡ param_count (take l.row-index l.values) l.block.0) × (l.count ≤ l.row-index)
