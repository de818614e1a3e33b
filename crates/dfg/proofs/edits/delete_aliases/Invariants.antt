use Rattle.std.proofs.Common.{◌≡◌, ◌++◌, map, take, drop}
use Rattle.rows.specs.Rows.{erased}
use Rattle.dfg.proofs.edits.delete_aliases.Given as goal

-- the rows so far have no aliases, and those behind stay
abbrev pub invariant-loop-row : goal.invariant-loop-row
invariant-loop-row l = l.values ≡ map erased (take l.row-index l.initial.values) ++ drop l.row-index l.initial.values
