-- A division: the quotient and the remainder at once. Assumes nothing.
use Rattle.std.specs.Prelude.{ℕ, ◌/◌, ◌%◌, Bool, true, false, ◌||◌, Some, None, Option, ◌==◌}
use Rattle.ir.specs.Bitvectors.{quotient_overflows, signed_div, signed_rem}
use Rattle.arith.specs.declared.division.Division.{Division}

-- a quotient and a remainder, or nothing where the test b is true
abbrev pub pair_unless : Bool → ℕ → ℕ → Option Division
pair_unless true q r = None
pair_unless false q r = Some (record { quotient = q; remainder = r })

-- unsigned: nothing by 0
abbrev pub unsigned_division : ℕ → ℕ → Option Division
unsigned_division x y = pair_unless (y == 0) (x / y) (x % y)

-- signed: nothing by 0, and nothing where the quotient is out of range
abbrev pub signed_division : ℕ → ℕ → ℕ → Option Division
signed_division w x y = pair_unless (y == 0 || quotient_overflows w x y) (signed_div w x y) (signed_rem w x y)
