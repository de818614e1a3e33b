-- A test of all operands, as a test of their list. Assumes nothing.
use Rattle.std.proofs.Common.{◌≡◌, ℕ, Bool, true, false, ◌&&◌, ltb, refl}
use Rattle.std.specs.List.{list_all}
use Rattle.ir.specs.Entities.{values}
use Rattle.ir.specs.declared.instructions.Operands.{Operands}
use Rattle.ir.specs.declared.instructions.Operands.TheVariants.{Nullary, Unary, Binary, Ternary}
use Rattle.rows.specs.Rows.{all_live_by}

alone : (b : Bool) → (b && true) ≡ b
alone true = refl
alone false = refl

pub list_all_live : (t : ℕ → ℕ) (args : Operands) → list_all (λ v. ltb 0 (t v)) (values args) ≡ all_live_by t args
list_all_live t Nullary = refl
list_all_live t (Unary a) = alone (ltb 0 (t a.0))
list_all_live t (Binary a b) = rw alone refl
list_all_live t (Ternary a b c) = rw alone refl
