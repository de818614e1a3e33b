-- What the rows of a walk are, without saying how they are made: one for each value but constants, a variable exactly where the
-- value has no translation, and only the named helpers besides. Assumes nothing.
use Rattle.std.specs.Prelude.{◌≡◌, ℕ, ◌+◌, ◌<◌, true, ◌⊎◌, ◌↔◌, List, length, slice_index}
use Rattle.ir.specs.declared.words.Word.{Word}
use Rattle.ir.specs.declared.words.Word.TheVariants.{Var}
use Rattle.flow.specs.Meaning.{Flow, Lawful, width_of}
use Rattle.flow.specs.Walk.{In, Topological}
use Rattle.souper.specs.Rows.{row_at}
use Rattle.souper.specs.Soundness.{is_variable_row}
use Rattle.souper.specs.Translation.{has_row, helpers, shape, rows_as, row_of, operand_of, is_nonzero, word_row, translation}
use Rattle.souper.specs.Widths.{WidthsPass}
use Rattle.souper.specs.declared.form.Form.{Form}
use Rattle.souper.specs.declared.form.Form.TheVariants.{Selected, Compared}
use Rattle.souper.specs.declared.rows.Row.{Row}

-- v is a value of the walk that has a row, which is the row r
pub record OwnRow (g : Flow) (walk : List ℕ) (v r : ℕ) : Type 0 where
  pub in_walk : In walk v
  pub no_constant : has_row (shape g v) ≡ true
  pub row : row_of g walk v ≡ r

-- A helper stands directly before the row of a value that it serves. It compares the condition of a select with zero, or it is the
-- comparison that the value's row extends.
pub data Helper (g : Flow) (walk : List ℕ) (row : Row) (v : ℕ) : Type 0 where
  nonzero_helper : (vs : List ℕ) → shape g v ≡ rows_as Selected vs → row ≡ is_nonzero (row_of g walk (slice_index vs 0)) → Helper g walk row v
  comparison_helper : (word : Word) (vs : List ℕ) → shape g v ≡ rows_as (Compared word) vs → row ≡ word_row (operand_of g walk) 1 word vs → Helper g walk row v

pub record RowsOfWalk (g : Flow) (walk : List ℕ) (rows : List Row) : Type 0 where
  -- each value but constants has its row, of its width
  pub there : (v r : ℕ) → OwnRow g walk v r → (r < length rows) × ((row_at rows r).width ≡ width_of g v)
  -- no two values have one row
  pub apart : (u v r : ℕ) → OwnRow g walk u r → OwnRow g walk v r → u ≡ v
  -- a value's row is a variable exactly where the value has no translation
  pub variables : (v r : ℕ) → OwnRow g walk v r → ((row_at rows r).word ≡ Var) ↔ (is_variable_row (shape g v) ≡ true)
  -- any row is a value's, or is the helper of the value whose row comes next
  pub only : (r : ℕ) → r < length rows → ((v : ℕ) × OwnRow g walk v r) ⊎ ((v : ℕ) × OwnRow g walk v (r + 1) × Helper g walk (row_at rows r) v)
  -- where a value has a helper, this is the row before the value's
  pub helped : (v r : ℕ) (f : Form) (vs : List ℕ) → OwnRow g walk v (r + 1) → shape g v ≡ rows_as f vs → helpers g f vs ≡ 1 → Helper g walk (row_at rows r) v
  -- operands are earlier rows, and the widths are right
  pub widths : WidthsPass rows

-- the rows of distinct live values, each behind what it uses
abbrev pub TranslationIsRowsOfWalk : Type 0
TranslationIsRowsOfWalk = (g : Flow) (walk : List ℕ) → Lawful g → Topological g walk → RowsOfWalk g walk (translation g walk)
