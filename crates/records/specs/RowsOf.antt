-- The rows that records stand for. Assumes nothing.
use Rattle.std.specs.Prelude.{ℕ, suc, ◌%◌, max, cond, List, [], ◌∷◌, map, ◌==◌, slice_index}
use Rattle.std.specs.Option.{unwrap_or}
use Rattle.ir.specs.Codes.{opcode_at, intcc_at, type_or}
use Rattle.ir.specs.Entities.{value}
use Rattle.ir.specs.declared.condcodes.IntCC.TheVariants.{Equal}
use Rattle.ir.specs.declared.instructions.Operands.{Operands}
use Rattle.ir.specs.declared.instructions.Operands.TheVariants.{Nullary, Unary, Binary, Ternary}
use Rattle.ir.specs.declared.opcodes.Opcode.TheVariants.{Opaque}
use Rattle.rows.specs.Rows.{Rows}
use Rattle.rows.specs.declared.instruction.InstructionData.{InstructionData}
use Rattle.rows.specs.declared.instruction.Results.{Results}
use Rattle.rows.specs.declared.instruction.Results.TheVariants.{Empty, Single, Pair}
use Rattle.rows.specs.declared.value.ValueData.{ValueData}
use Rattle.rows.specs.declared.value.ValueData.TheVariants as row
use Rattle.records.specs.Fields.{record_at, value_record, inst_record}
use Rattle.records.specs.Kinds.{value_places, inst_places}
use Rattle.records.specs.declared.inst_record.InstRecord.{InstRecord}
use Rattle.records.specs.declared.value_record.ValueRecord.{ValueRecord}
use Rattle.records.specs.declared.value_record.ValueRecord.TheVariants.{Inst, Param, Alias, Union, Deleted}

-- the number of a value's type, 0 of a deleted value
abbrev pub type_number : ValueRecord → ℕ
type_number (Inst ty num inst) = ty
type_number (Param ty num block) = ty
type_number (Alias ty x original) = ty
type_number (Union ty x y) = ty
type_number (Deleted x) = 0

-- The row of a value. Unknown types and numbers past 16 bits are refused, and what is said here of them is not read.
abbrev pub value_row : ValueRecord → ValueData
value_row (Inst ty num inst) = row.Inst (type_or ty) (num % 65536) (record { 0 = inst })
value_row (Param ty num block) = row.Param (type_or ty) (num % 65536) (record { 0 = block })
value_row (Alias ty x original) = row.Alias (type_or ty) (value original)
value_row (Union ty x y) = row.Union (type_or ty) (value x) (value y)
value_row (Deleted x) = row.Deleted

-- the operands, as many as the count says: more than three are refused
abbrev pub args_of : InstRecord → Operands
args_of i =
    cond (i.arg_count == 0) Nullary
    (cond (i.arg_count == 1) (Unary (value (slice_index i.args 0)))
    (cond (i.arg_count == 2) (Binary (value (slice_index i.args 0)) (value (slice_index i.args 1)))
    (Ternary (value (slice_index i.args 0)) (value (slice_index i.args 1)) (value (slice_index i.args 2)))))

-- the listed results, as many as the count says: more than two are refused
abbrev pub results_of : InstRecord → Results
results_of i =
    cond (i.result_count == 0) Empty
    (cond (i.result_count == 1) (Single (value (slice_index i.results 0))) (Pair (value (slice_index i.results 0)) (value (slice_index i.results 1))))

-- The row of an instruction. Unknown opcodes and conditions are refused, and what is said here of them is not read.
abbrev pub inst_row : InstRecord → InstructionData
inst_row i = record {
  opcode = unwrap_or (opcode_at i.opcode) Opaque;
  cond = unwrap_or (intcc_at i.cond) Equal;
  imm = i.imm;
  args = args_of i;
  results = results_of i;
  block = record { 0 = i.block };
}

-- the row in a record
abbrev pub value_row_at : List ℕ → ℕ → ValueData
value_row_at bs k = value_row (value_record (record_at bs k))

abbrev pub inst_row_at : List ℕ → ℕ → InstructionData
inst_row_at bs k = inst_row (inst_record (record_at bs k))

-- ---- blocks: as many as it takes for each block that a row names to exist

abbrev pub blocks_in : ValueData → ℕ
blocks_in (row.Inst ty num inst) = 0
blocks_in (row.Param ty num block) = suc block.0
blocks_in (row.Alias ty original) = 0
blocks_in (row.Union ty x y) = 0
blocks_in row.Deleted = 0

abbrev pub blocks_for : InstructionData → ℕ
blocks_for i = suc i.block.0

abbrev pub most : List ℕ → ℕ
most [] = 0
most (n ∷ ns) = max n (most ns)

abbrev pub blocks_named : List ValueData → List InstructionData → ℕ
blocks_named values insts = max (most (map blocks_in values)) (most (map blocks_for insts))

-- ---- all rows: values and instructions are numbered by the records of their kind

abbrev pub rows_from : List ValueData → List InstructionData → Rows
rows_from values insts = record { values = values; insts = insts; blocks = blocks_named values insts }

unfoldable pub rows_of : List ℕ → Rows
rows_of bs = rows_from (map (value_row_at bs) (value_places bs)) (map (inst_row_at bs) (inst_places bs))
