-- Two worked candidates and their texts. Assumes nothing.
use Rattle.std.specs.Prelude.{◌≡◌, List, [], ◌∷◌, ◌++◌, codes, pos, negsuc}
use Rattle.ir.specs.Entities.{value}
use Rattle.ir.specs.declared.words.Word.TheVariants.{Var, Mul, Add, Ne, Select}
use Rattle.souper.specs.declared.rows.Operand.TheVariants as operand
use Rattle.souper.specs.declared.rows.Row.{Row}
use Rattle.souper.specs.declared.rows.RowOperands.TheVariants.{Empty, Two, Three}
use Rattle.text.specs.Text.{text_of}

-- x * 3 + 7
abbrev pub sum_rows : List Row
sum_rows = record { width = 32; word = Var; operands = Empty }
    ∷ record { width = 32; word = Mul; operands = Two (operand.Row 0) (operand.Constant 32 (pos 3)) }
    ∷ record { width = 32; word = Add; operands = Two (operand.Row 1) (operand.Constant 32 (pos 7)) }
    ∷ []

abbrev pub SumText : Type 0
SumText = text_of (value 4) (codes "f") sum_rows ≡ codes ";; Harvested from `v4` in `f`\n%0:i32 = var\n%1:i32 = mul %0, 3:i32\n%2:i32 = add %1, 7:i32\ninfer %2\n\n"

-- the same where it is not 0, and else -1
abbrev pub choice_rows : List Row
choice_rows = sum_rows
    ++ record { width = 1; word = Ne; operands = Two (operand.Row 2) operand.Zero }
    ∷ record { width = 32; word = Select; operands = Three (operand.Row 3) (operand.Row 2) (operand.Constant 32 (negsuc 0)) }
    ∷ []

abbrev pub ChoiceText : Type 0
ChoiceText = text_of (value 12) (codes "g") choice_rows ≡ codes ";; Harvested from `v12` in `g`\n%0:i32 = var\n%1:i32 = mul %0, 3:i32\n%2:i32 = add %1, 7:i32\n%3:i1 = ne %2, 0\n%4:i32 = select %3, %2, -1:i32\ninfer %4\n\n"
