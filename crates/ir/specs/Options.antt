-- What may be there: one or else another, and what follows one. Assumes nothing.
use Rattle.std.specs.Prelude.{Some, None, Option}

-- the first, or else the other
abbrev pub or_else : {A : Type 0} → Option A → Option A → Option A
or_else (Some x) other = Some x
or_else None other = other

-- what follows from it, if it is there
abbrev pub and_then : {A B : Type 0} → Option A → (A → Option B) → Option B
and_then (Some x) f = f x
and_then None f = None
