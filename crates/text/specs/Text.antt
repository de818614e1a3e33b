-- The text of a candidate: a heading with its root and a function's name, a line for each row, the row of the root, and an empty line.
-- Assumes nothing.
use Rattle.std.specs.Prelude.{ℕ, suc, ◌-◌, List, [], ◌∷◌, ◌++◌, length, codes}
use Rattle.std.specs.Fmt.{decimal, signed_decimal}
use Rattle.ir.specs.Codes.{word_text}
use Rattle.ir.specs.Printed.{value_text}
use Rattle.ir.specs.declared.entities.Value.{Value}
use Rattle.souper.specs.declared.rows.Operand.{Operand}
use Rattle.souper.specs.declared.rows.Operand.TheVariants as operand
use Rattle.souper.specs.declared.rows.Row.{Row}
use Rattle.souper.specs.declared.rows.RowOperands.{RowOperands}
use Rattle.souper.specs.declared.rows.RowOperands.TheVariants.{Empty, One, Two, Three}

-- a row by its number, a constant as the signed number that it holds and its width, the zero of a select's helper without one
abbrev pub operand_text : Operand → List ℕ
operand_text (operand.Row r) = codes "%" ++ decimal r
operand_text (operand.Constant w z) = signed_decimal z ++ codes ":i" ++ decimal w
operand_text operand.Zero = codes "0"

-- a space before the first operand, commas between them
abbrev pub operands_text : RowOperands → List ℕ
operands_text Empty = []
operands_text (One x) = codes " " ++ operand_text x
operands_text (Two x y) = codes " " ++ operand_text x ++ codes ", " ++ operand_text y
operands_text (Three x y z) = codes " " ++ operand_text x ++ codes ", " ++ operand_text y ++ codes ", " ++ operand_text z

-- a row's number, width, word and operands
unfoldable pub row_line : ℕ → Row → List ℕ
row_line r row = codes "%" ++ decimal r ++ codes ":i" ++ decimal row.width ++ codes " = " ++ word_text row.word ++ operands_text row.operands ++ codes "\n"

-- the lines of rows, of which the first has the number r
unfoldable pub row_lines : ℕ → List Row → List ℕ
row_lines r [] = []
row_lines r (row ∷ rows) = row_line r row ++ row_lines (suc r) rows

-- the root, and the name of the function that it is in
unfoldable pub heading : Value → List ℕ → List ℕ
heading root name = codes ";; Harvested from `" ++ value_text root ++ codes "` in `" ++ name ++ codes "`\n"

-- the number of the last row, which is the root's, and an empty line; the number is 0 where there are no rows
unfoldable pub ending : List Row → List ℕ
ending rows = codes "infer %" ++ decimal (length rows - 1) ++ codes "\n\n"

-- the whole text, which is defined for any name and any rows, also for those that are refused or make no sense
unfoldable pub text_of : Value → List ℕ → List Row → List ℕ
text_of root name rows = heading root name ++ row_lines 0 rows ++ ending rows
