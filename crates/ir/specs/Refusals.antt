-- How checks in their order come to a refusal. Assumes nothing.
use Rattle.std.specs.Prelude.{ℕ, zero, suc, Bool, cond, List, [], ◌∷◌, Some, None, Ok, Err, Option, Result}
use Rattle.std.specs.Option.{option_map}
use Rattle.ir.specs.Options.{or_else}
use Rattle.ir.specs.declared.refusal.Cause.{Cause}
use Rattle.ir.specs.declared.refusal.Refusal.{Refusal}

-- a refusal that speaks of no place
abbrev pub because : Cause → Refusal
because why = record { cause = why; place = 0 }

-- the first that stands of what may stand against something
abbrev pub first : {A : Type 0} → List (Bool × A) → Option A
first [] = None
first (c ∷ cs) = cond c.0 (Some c.1) (first cs)

-- the answer of checks, of which this is the first that stands, if one does
abbrev pub checked : Option Cause → Result (Unit {0}) Cause
checked None = Ok tt
checked (Some why) = Err why

-- the answer x, unless it is refused
abbrev pub answer_unless : {A : Type 0} → Option Refusal → A → Result A Refusal
answer_unless None x = Ok x
answer_unless (Some why) x = Err why

-- the first of n places from k on against which something stands
unfoldable pub first_fault : (ℕ → Option Cause) → ℕ → ℕ → Option Refusal
first_fault fault k zero = None
first_fault fault k (suc n) = or_else (option_map (λ why. record { cause = why; place = k }) (fault k)) (first_fault fault (suc k) n)
