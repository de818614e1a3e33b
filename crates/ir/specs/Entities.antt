-- Values by their numbers, operands, and the commonest refusals.
-- Assumes nothing.
use Rattle.std.specs.Prelude.{ℕ, min, List, [], ◌∷◌, Some, None, Option}
use Rattle.ir.specs.declared.entities.Value.{Value}
use Rattle.ir.specs.declared.instructions.Operands.{Operands}
use Rattle.ir.specs.declared.instructions.Operands.TheVariants.{Nullary, Unary, Binary, Ternary}
use Rattle.ir.specs.declared.refusal.Refusal.{Refusal}
use Rattle.ir.specs.declared.refusal.Cause.TheVariants.{NotLive, TooShort}

-- the value of a number
abbrev pub value : ℕ → Value
value n = record { 0 = n }

-- the numbers of the operands, in order
abbrev pub values : Operands → List ℕ
values Nullary = []
values (Unary a) = a.0 ∷ []
values (Binary a b) = a.0 ∷ b.0 ∷ []
values (Ternary a b c) = a.0 ∷ b.0 ∷ c.0 ∷ []

-- how many operands there are
abbrev pub arg_count : Operands → ℕ
arg_count Nullary = 0
arg_count (Unary a) = 1
arg_count (Binary a b) = 2
arg_count (Ternary a b c) = 3

-- the operands in a list, none where there are more than three
abbrev pub operands_of : List Value → Option Operands
operands_of [] = Some Nullary
operands_of (a ∷ []) = Some (Unary a)
operands_of (a ∷ b ∷ []) = Some (Binary a b)
operands_of (a ∷ b ∷ c ∷ []) = Some (Ternary a b c)
operands_of (a ∷ b ∷ c ∷ d ∷ more) = None

-- the widths of up to three operands, t telling widths: 0 where there is none
abbrev pub arg_widths : (ℕ → ℕ) → Operands → ℕ × ℕ × ℕ
arg_widths t Nullary = (0, 0, 0)
arg_widths t (Unary a) = (t a.0, 0, 0)
arg_widths t (Binary a b) = (t a.0, t b.0, 0)
arg_widths t (Ternary a b c) = (t a.0, t b.0, t c.0)

abbrev pub not_live : Refusal
not_live = record { cause = NotLive; place = 0 }

-- so much is needed
abbrev pub too_short : ℕ → Refusal
too_short n = record { cause = TooShort; place = n }

-- so much is needed, as far as 32 bits go
abbrev pub too_few : ℕ → Refusal
too_few n = too_short (min n 4294967295)
