-- How few operands an opcode takes, and that a type with a number is that of a live value. Assumes nothing.
use Rattle.std.proofs.Common.{◌≡◌, ℕ, ◌≤◌, true, ltb, is_some, Some, None, Option, unwrap_or, refl, arith}
use Rattle.std.proofs.lemmas.Bool.{eqb-true, false≢true, leb-true}
use Rattle.std.proofs.lemmas.Bool.Decides.{nat_tests}
use Rattle.ir.specs.Codes.{type_bits, type_at, type_or}
use Rattle.ir.specs.Constraints.{arg_count_fits}
use Rattle.ir.specs.declared.constraints.OpcodeConstraints.{OpcodeConstraints}
use Rattle.ir.specs.declared.constraints.OpcodeConstraints.TheVariants.{Constant, Unary, Binary, Shift, Select, Extend, Compare, Opaque}
use Rattle.ir.specs.declared.types.Type as T
use Rattle.ir.specs.declared.types.Type.TheVariants.{Invalid, Other, I8, I16, I32, I64}

type_live : (bits : ℕ) (t : Option T.Type) → t ≡ type_at bits → is_some t ≡ true → ltb 0 (type_bits (unwrap_or t Invalid)) ≡ true
type_live bits None e h = absurd (false≢true h)
type_live bits (Some Invalid) e h = absurd (never bits e)
  where
    never : (bits : ℕ) → Some Invalid ≡ type_at bits → ⊥
    never bits e = grind (arith, nat_tests)
type_live bits (Some Other) e h = refl
type_live bits (Some I8) e h = refl
type_live bits (Some I16) e h = refl
type_live bits (Some I32) e h = refl
type_live bits (Some I64) e h = refl

pub known_live : (bits : ℕ) → is_some (type_at bits) ≡ true → ltb 0 (type_bits (type_or bits)) ≡ true
known_live bits h = type_live bits (type_at bits) refl h

-- no opcode takes more than three operands
pub few_args : (s : OpcodeConstraints) (n : ℕ) → arg_count_fits s n ≡ true → n ≤ 3
few_args Constant n e = omega (arith, eqb-true n 0 e)
few_args Unary n e = omega (arith, eqb-true n 1 e)
few_args Binary n e = omega (arith, eqb-true n 2 e)
few_args Shift n e = omega (arith, eqb-true n 2 e)
few_args Select n e = omega (arith, eqb-true n 3 e)
few_args Extend n e = omega (arith, eqb-true n 1 e)
few_args Compare n e = omega (arith, eqb-true n 2 e)
few_args Opaque n e = leb-true n 3 e
