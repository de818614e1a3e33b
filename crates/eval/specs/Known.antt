-- Numbers in a table, as the numbers that values and rows are worked out from. Assumes nothing.
use Rattle.std.specs.Prelude.{◌≡◌, ℕ, ◌<◌, ◌≤◌, ◌⊎◌, List, Some, None, Option, slice_index, slice_index_or}
use Rattle.flow.specs.Meaning.{Flow, node, def_of}
use Rattle.flow.specs.Number.{def_number}
use Rattle.ir.specs.declared.words.Word.TheVariants.{Var}
use Rattle.souper.specs.Rows.{first_width, row_number, row_result}
use Rattle.souper.specs.declared.rows.Operand.{Operand}
use Rattle.souper.specs.declared.rows.Operand.TheVariants as operand
use Rattle.souper.specs.declared.rows.Row.{Row}
use Rattle.souper.specs.declared.rows.RowOperands.{RowOperands}
use Rattle.souper.specs.declared.rows.RowOperands.TheVariants.{Empty, One, Two, Three}

-- a list of numbers as a number for each place
abbrev pub at : List ℕ → ℕ → ℕ
at xs k = slice_index xs k

-- the same, of which none is missing
abbrev pub known : List ℕ → ℕ → Option ℕ
known xs k = Some (slice_index xs k)

-- the same, of which some may be missing
abbrev pub perhaps : List (Option ℕ) → ℕ → Option ℕ
perhaps xs k = slice_index_or xs k None

-- the number of v, from the inputs and the numbers in a table
abbrev pub value_from : Flow → List ℕ → List ℕ → ℕ → Option ℕ
value_from g inputs numbers v = def_number g (at inputs) (known numbers) (node g v) (def_of g v)

-- ---- rows

-- bits that a number of a word can have
abbrev pub IsWidth : ℕ → Type 0
IsWidth w = (0 < w) × (w ≤ 64)

-- a constant has a width
abbrev pub Readable : Operand → Type 0
Readable (operand.Row r) = Unit {0}
Readable (operand.Constant w z) = IsWidth w
Readable operand.Zero = Unit {0}

abbrev pub AllReadable : RowOperands → Type 0
AllReadable Empty = Unit {0}
AllReadable (One x) = Readable x
AllReadable (Two x y) = Readable x × Readable y
AllReadable (Three x y z) = Readable x × Readable y × Readable z

-- what working out a row asks: it has a width, its constants have, and its first operand has, unless it is a variable
pub record RowReady (rows : List Row) (row : Row) : Type 0 where
  pub width : IsWidth row.width
  pub constants : AllReadable row.operands
  pub first : (row.word ≡ Var) ⊎ IsWidth (first_width rows row.operands)

-- the number on a row, from its input and the numbers in a table
abbrev pub row_from : List Row → List (Option ℕ) → ℕ → Row → Option ℕ
row_from rows numbers input row = row_result rows (perhaps numbers) input row

-- the table has the numbers on n rows
abbrev pub Holds : List Row → List ℕ → List (Option ℕ) → ℕ → Type 0
Holds rows inputs numbers n = (k : ℕ) → k < n → perhaps numbers k ≡ row_number rows (at inputs) k
