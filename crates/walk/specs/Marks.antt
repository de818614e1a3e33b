-- The marks of a walk, a byte for each value number. Assumes nothing.
use Rattle.std.specs.Prelude.{ℕ, Bool, not, List, ◌==◌, slice_index}

-- The byte of a marked value is not zero.
abbrev pub marked : List ℕ → ℕ → Bool
marked marks v = not (slice_index marks v == 0)
