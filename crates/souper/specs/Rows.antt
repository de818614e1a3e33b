-- Rows, and the number on a row. Assumes nothing.
use Rattle.std.specs.Prelude.{◌≡◌, ℕ, ◌<◌, List, [], ◌∷◌, map, length, Some, Option, slice_get, slice_index_or}
use Rattle.ir.specs.Bitvectors.{unsigned}
use Rattle.ir.specs.declared.words.Word.TheVariants.{Var}
use Rattle.ir.specs.Options.{and_then}
use Rattle.flow.specs.Rounds.{all_of, Step, rounds}
use Rattle.souper.specs.Words.{apply}
use Rattle.souper.specs.declared.rows.Operand.{Operand}
use Rattle.souper.specs.declared.rows.Operand.TheVariants as operand
use Rattle.souper.specs.declared.rows.Row.{Row}
use Rattle.souper.specs.declared.rows.RowOperands.{RowOperands}
use Rattle.souper.specs.declared.rows.RowOperands.TheVariants.{Empty, One, Two, Three}

-- a variable of width w
abbrev pub variable_of : ℕ → Row
variable_of w = record { width = w; word = Var; operands = Empty }

-- the row r, and where there is none, one of no width
abbrev pub row_at : List Row → ℕ → Row
row_at rows r = slice_index_or rows r (variable_of 0)

-- ---- operands

-- the operands of a row, in order
abbrev pub listed : RowOperands → List Operand
listed Empty = []
listed (One x) = x ∷ []
listed (Two x y) = x ∷ y ∷ []
listed (Three x y z) = x ∷ y ∷ z ∷ []

-- up to three operands, as those of a row
abbrev pub given : List Operand → RowOperands
given [] = Empty
given (x ∷ []) = One x
given (x ∷ (y ∷ [])) = Two x y
given (x ∷ (y ∷ (z ∷ more))) = Three x y z

-- the width of an operand, 0 for the zero that has none
abbrev pub operand_width : List Row → Operand → ℕ
operand_width rows (operand.Row r) = (row_at rows r).width
operand_width rows (operand.Constant w z) = w
operand_width rows operand.Zero = 0

-- the width of the first operand
abbrev pub first_width : List Row → RowOperands → ℕ
first_width rows xs = operand_width rows (slice_index_or (listed xs) 0 operand.Zero)

-- the number of an operand, from the numbers on the rows: a constant is read modulo 2 ^ width
abbrev pub operand_number : (ℕ → Option ℕ) → Operand → Option ℕ
operand_number number (operand.Row r) = number r
operand_number number (operand.Constant w z) = Some (unsigned w z)
operand_number number operand.Zero = Some 0

-- the numbers of all operands, none where one of them is undefined
abbrev pub operand_numbers : (ℕ → Option ℕ) → RowOperands → Option (List ℕ)
operand_numbers number xs = all_of (map (operand_number number) (listed xs))

-- ---- numbers

-- What a row gives, from the numbers on the rows and from what it holds if it is a variable.
-- It is undefined where any operand is, a select too, and where its word is undefined at its operands.
abbrev pub row_result : List Row → (ℕ → Option ℕ) → ℕ → Row → Option ℕ
row_result rows number input row = and_then (operand_numbers number row.operands) (apply row.word input row.width (first_width rows row.operands))

unfoldable pub row_step : List Row → (ℕ → ℕ) → Step
row_step rows inputs number r = and_then (slice_get rows r) (row_result rows number (inputs r))

-- The number on a row, from a number for each variable row: none where it is undefined, or where there is no such row.
-- As many rounds as there are rows suffice (`RowUnfolds`).
unfoldable pub row_number : List Row → (ℕ → ℕ) → ℕ → Option ℕ
row_number rows inputs = rounds (row_step rows inputs) (length rows)

-- the number on a row follows from the numbers on the rows that it names
abbrev pub RowUnfolds : Type 0
RowUnfolds = (rows : List Row) (inputs : ℕ → ℕ) (r : ℕ) → r < length rows
    → row_number rows inputs r ≡ row_result rows (row_number rows inputs) (inputs r) (row_at rows r)
