-- How entities, operands and refusals are printed. Assumes nothing.
use Rattle.std.specs.Prelude.{ℕ, List, [], ◌++◌, codes}
use Rattle.std.specs.Fmt.{decimal}
use Rattle.ir.specs.Codes.{cause_number, cause_meaning}
use Rattle.ir.specs.declared.entities.Value.{Value}
use Rattle.ir.specs.declared.entities.Inst.{Inst}
use Rattle.ir.specs.declared.entities.Block.{Block}
use Rattle.ir.specs.declared.instructions.Operands.{Operands}
use Rattle.ir.specs.declared.instructions.Operands.TheVariants.{Nullary, Unary, Binary, Ternary}
use Rattle.ir.specs.declared.refusal.Refusal.{Refusal}

-- a letter or a word, and the number
abbrev pub value_text : Value → List ℕ
value_text v = codes "v" ++ decimal v.0

abbrev pub inst_text : Inst → List ℕ
inst_text i = codes "inst" ++ decimal i.0

abbrev pub block_text : Block → List ℕ
block_text b = codes "block" ++ decimal b.0

-- as behind the name of an operation: a space in front of the first, commas between them, nothing where there is none
abbrev pub operands_text : Operands → List ℕ
operands_text Nullary = []
operands_text (Unary a) = codes " " ++ value_text a
operands_text (Binary a b) = codes " " ++ value_text a ++ codes ", " ++ value_text b
operands_text (Ternary a b c) = codes " " ++ value_text a ++ codes ", " ++ value_text b ++ codes ", " ++ value_text c

-- the number of the refusal, its place, and what it means
abbrev pub refusal_text : Refusal → List ℕ
refusal_text r = codes "refused with " ++ decimal (cause_number r.cause) ++ codes " at " ++ decimal r.place ++ codes ": " ++ cause_meaning r.cause
