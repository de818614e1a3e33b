-- How a definition is printed: as the IR writes it. Assumes nothing.
use Rattle.std.specs.Prelude.{List, [], ℕ, ◌++◌, codes}
use Rattle.std.specs.Fmt.{signed_decimal}
use Rattle.ir.specs.Codes.{opcode_name, intcc_name}
use Rattle.ir.specs.Printed.{operands_text}
use Rattle.ir.specs.declared.condcodes.IntCC.{IntCC}
use Rattle.ir.specs.declared.opcodes.Opcode.{Opcode}
use Rattle.ir.specs.declared.opcodes.Opcode.TheVariants.{Icmp}
use Rattle.flow.specs.declared.definition.ValueDef.{ValueDef}
use Rattle.flow.specs.declared.definition.ValueDef.TheVariants.{Constant, Operation, Variable, Deleted}

-- the condition of a comparison, which alone reads it
abbrev pub condition_text : Opcode → IntCC → List ℕ
condition_text Icmp cond = codes " " ++ intcc_name cond
condition_text o cond = []

abbrev pub def_text : ValueDef → List ℕ
def_text (Constant imm) = codes "iconst " ++ signed_decimal imm
def_text (Operation o cond args) = opcode_name o ++ condition_text o cond ++ operands_text args
def_text Variable = codes "variable"
def_text Deleted = codes "deleted"
