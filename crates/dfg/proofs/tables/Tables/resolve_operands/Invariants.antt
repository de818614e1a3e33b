use Rattle.std.proofs.Common.{◌≡◌, ◌++◌, map, take, drop, vec_items}
use Rattle.plain.specs.Attached.{rewritten}
use Rattle.dfg.specs.Held.{held}
use Rattle.rows.specs.Rows.{original}
use Rattle.dfg.proofs.tables.Tables.resolve_operands.Given as goal

-- the rows so far are rewritten, and those behind stay
abbrev pub invariant-loop-i : goal.invariant-loop-i
invariant-loop-i l =
    held l.self
    ≡ record (held l.initial.self) {
      insts =
          map (rewritten (original (held l.initial.self))) (take l.i (vec_items l.initial.self.insts))
          ++ drop l.i (vec_items l.initial.self.insts);
    }
