-- The number on a row follows from the numbers on the rows that it names. Assumes nothing.
use Rattle.std.proofs.Common.{◌≡◌, ℕ, ◌<◌, ◌≤◌, List, length, slice_get, Some, None, Option, ap, ◌∙◌}
use Rattle.std.proofs.lemmas.Option.{slice_get_past, slice_get-get_or}
use Rattle.ir.specs.Options.{and_then}
use Rattle.flow.proofs.Rounds.{rounds_settle, Monotone}
use Rattle.flow.proofs.Sequences.{and_then_more, and_then_some, all_of_more}
use Rattle.souper.specs.Rows.{RowUnfolds, listed, operand_number, operand_numbers, row_at, row_number, row_result, row_step, variable_of}
use Rattle.souper.specs.declared.rows.Operand.{Operand}
use Rattle.souper.specs.declared.rows.Operand.TheVariants as operand
use Rattle.souper.specs.declared.rows.Row.{Row}

-- f has no number that h has not
More : (ℕ → Option ℕ) → (ℕ → Option ℕ) → Type 0
More f h = (u m : ℕ) → f u ≡ Some m → h u ≡ Some m

operand_more : (f h : ℕ → Option ℕ) → More f h → (x : Operand) (m : ℕ) → operand_number f x ≡ Some m → operand_number h x ≡ Some m
unfolding More
operand_more f h k (operand.Row r) m e = k r m e
operand_more f h k (operand.Constant w z) m e = e
operand_more f h k operand.Zero m e = e

result_more : (rows : List Row) (f h : ℕ → Option ℕ) → More f h → (input : ℕ) (row : Row) (n : ℕ) → row_result rows f input row ≡ Some n → row_result rows h input row ≡ Some n
result_more rows f h k input row n e =
    and_then_more (operand_numbers f row.operands) (operand_numbers h row.operands) _ n
    (λ ns q. all_of_more (operand_number f) (operand_number h) (operand_more f h k) (listed row.operands) ns q) e

-- what a step gives at a row that is there, and at one that is not
pub step_at : (rows : List Row) (inputs : ℕ → ℕ) (number : ℕ → Option ℕ) (r : ℕ) → r < length rows → row_step rows inputs number r ≡ row_result rows number (inputs r) (row_at rows r)
unfolding row_step
step_at rows inputs number r h = ap (λ o. and_then o (row_result rows number (inputs r))) (slice_get-get_or rows r (variable_of 0) h)

pub step_past : (rows : List Row) (inputs : ℕ → ℕ) (number : ℕ → Option ℕ) (r : ℕ) → length rows ≤ r → row_step rows inputs number r ≡ None
unfolding row_step
step_past rows inputs number r h = ap (λ o. and_then o (row_result rows number (inputs r))) (slice_get_past rows r h)

monotone : (rows : List Row) (inputs : ℕ → ℕ) → Monotone (row_step rows inputs)
unfolding row_step More
monotone rows inputs f h k r n e =
    let a = and_then_some (slice_get rows r) (row_result rows f (inputs r)) n e in
    ap (λ o. and_then o (row_result rows h (inputs r))) a.1 ∙ result_more rows f h k (inputs r) a.0 n a.2

pub row_unfolds : RowUnfolds
unfolding row_number
row_unfolds rows inputs r h =
    rounds_settle (row_step rows inputs) (length rows) (monotone rows inputs) (step_past rows inputs) r ∙ step_at rows inputs (row_number rows inputs) r h
