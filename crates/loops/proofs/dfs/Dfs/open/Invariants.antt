use Rattle.std.proofs.Common.{◌≡◌, ◌+◌, ◌≤◌, length}
use Rattle.ir.specs.Entities.{values}
use Rattle.arrayvec.specs.ArrayVec.{array_vec_len}
use Rattle.loops.proofs.dfs.Dfs.open.Given as goal

-- there is room for the targets that are left
abbrev pub invariant-loop-w : goal.invariant-loop-w
invariant-loop-w g l =
    (array_vec_len l.self.stack + length (values l.w-iterator) ≤ array_vec_len l.initial.self.stack + 3) × (l.self.states ≡ l.initial.self.states) × (l.self.size ≡ l.initial.self.size)
