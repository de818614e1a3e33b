-- What is refused of records: the checks of each record in their order, and the first record at which one stands. Assumes nothing.
use Rattle.std.specs.Prelude.{ℕ, ◌%◌, Bool, true, false, cond, not, ◌&&◌, ◌||◌, List, [], ◌∷◌, map, length, is_some, Some, None, Option, ◌==◌, nat_le, nat_lt, slice_index, slice_index_or}
use Rattle.std.specs.Option.{option_map}
use Rattle.ir.specs.Codes.{opcode_at, intcc_at, type_at}
use Rattle.ir.specs.Constraints.{constraints_of, arg_count_fits}
use Rattle.ir.specs.Refusals.{because, first, first_fault}
use Rattle.ir.specs.Widths.{is_zero}
use Rattle.ir.specs.declared.constraints.OpcodeConstraints.{OpcodeConstraints}
use Rattle.ir.specs.declared.constraints.OpcodeConstraints.TheVariants.{Constant, Unary, Binary, Shift, Select, Extend, Compare, Opaque}
use Rattle.ir.specs.declared.refusal.Cause.{Cause}
use Rattle.ir.specs.declared.refusal.Cause.TheVariants.{NotLive, Unknown, WrongCount, NotRecords, BrokenLayout}
use Rattle.ir.specs.declared.refusal.Refusal.{Refusal}
use Rattle.records.specs.Fields.{record_at, record_count, zeros, value_record, inst_record}
use Rattle.records.specs.Kinds.{kind_at, value_places, inst_places}
use Rattle.records.specs.declared.check.Counts.{Counts}
use Rattle.records.specs.declared.inst_record.InstRecord.{InstRecord}
use Rattle.records.specs.declared.record.Kind.{Kind}
use Rattle.records.specs.declared.record.Kind.TheVariants as kind
use Rattle.records.specs.declared.value_record.ValueRecord.{ValueRecord}
use Rattle.records.specs.declared.value_record.ValueRecord.TheVariants.{Inst, Param, Alias, Union, Deleted}

-- ---- what other records say: a missing value reads as deleted, a missing instruction as opaque

abbrev pub value_at : List ℕ → ℕ → ValueRecord
value_at bs v = slice_index_or (map (λ k. value_record (record_at bs k)) (value_places bs)) v (Deleted 0)

-- what an opcode asks, none where it is unknown
abbrev pub asked_by : ℕ → Option OpcodeConstraints
asked_by code = option_map constraints_of (opcode_at code)

abbrev pub asked_at : List ℕ → ℕ → Option OpcodeConstraints
asked_at bs i = slice_index_or (map (λ k. asked_by (inst_record (record_at bs k)).opcode) (inst_places bs)) i (Some Opaque)

-- is record k that of instruction i
abbrev pub is_instruction : List ℕ → ℕ → ℕ → Bool
is_instruction bs i k = nat_lt i (length (inst_places bs)) && slice_index (inst_places bs) i == k

abbrev pub is_deleted : ValueRecord → Bool
is_deleted (Inst ty num inst) = false
is_deleted (Param ty num block) = false
is_deleted (Alias ty x original) = false
is_deleted (Union ty x y) = false
is_deleted (Deleted x) = true

-- the value exists and is not deleted
abbrev pub live_at : List ℕ → ℕ → Bool
live_at bs v = not (is_deleted (value_at bs v))

-- ---- opcodes

abbrev pub reads_condition : Option OpcodeConstraints → Bool
reads_condition (Some Constant) = false
reads_condition (Some Unary) = false
reads_condition (Some Binary) = false
reads_condition (Some Shift) = false
reads_condition (Some Select) = false
reads_condition (Some Extend) = false
reads_condition (Some Compare) = true
reads_condition (Some Opaque) = false
reads_condition None = false

abbrev pub reads_immediate : Option OpcodeConstraints → Bool
reads_immediate (Some Constant) = true
reads_immediate (Some Unary) = false
reads_immediate (Some Binary) = false
reads_immediate (Some Shift) = false
reads_immediate (Some Select) = false
reads_immediate (Some Extend) = false
reads_immediate (Some Compare) = false
reads_immediate (Some Opaque) = false
reads_immediate None = false

abbrev pub is_opaque : Option OpcodeConstraints → Bool
is_opaque (Some Constant) = false
is_opaque (Some Unary) = false
is_opaque (Some Binary) = false
is_opaque (Some Shift) = false
is_opaque (Some Select) = false
is_opaque (Some Extend) = false
is_opaque (Some Compare) = false
is_opaque (Some Opaque) = true
is_opaque None = false

-- an opaque instruction lists at most two results, any other at most one; an unknown one none
abbrev pub counts_fit : Option OpcodeConstraints → ℕ → ℕ → Bool
counts_fit (Some c) args results = arg_count_fits c args && nat_le results (cond (is_opaque (Some c)) 2 1)
counts_fit None args results = false

-- ---- a value record

-- an instruction record stands before record k
abbrev pub behind_inst : List ℕ → ℕ → Bool
behind_inst bs k = nat_lt (slice_index_or (inst_places bs) 0 k) k

-- an alias and a deleted value use no x; the block of a parameter is below 64
abbrev pub value_fields_fit : ValueRecord → Bool
value_fields_fit (Inst ty num inst) = true
value_fields_fit (Param ty num block) = nat_lt block 64
value_fields_fit (Alias ty x original) = x == 0
value_fields_fit (Union ty x y) = true
value_fields_fit (Deleted x) = x == 0

-- it stands before all instruction records, bytes 1 to 3 and 14 to 39 are unused
abbrev pub value_shape : List ℕ → ℕ → ValueRecord → Bool
value_shape bs k v = not (behind_inst bs k) && (zeros (record_at bs k) 1 4 && (zeros (record_at bs k) 14 40 && value_fields_fit v))

abbrev pub type_known : ValueRecord → Bool
type_known (Inst ty num inst) = is_some (type_at ty)
type_known (Param ty num block) = is_some (type_at ty)
type_known (Alias ty x original) = is_some (type_at ty)
type_known (Union ty x y) = is_some (type_at ty)
type_known (Deleted x) = true

-- a result is number 0, or number 1 of an opaque instruction; the number of a parameter has 16 bits
abbrev pub number_fits : List ℕ → ValueRecord → Bool
number_fits bs (Inst ty num inst) = num == 0 || (num == 1 && is_opaque (asked_at bs inst))
number_fits bs (Param ty num block) = nat_lt num 65536
number_fits bs (Alias ty x original) = true
number_fits bs (Union ty x y) = true
number_fits bs (Deleted x) = true

-- what a value names is there
abbrev pub names_live : List ℕ → ValueRecord → Bool
names_live bs (Inst ty num inst) = nat_lt inst (length (inst_places bs))
names_live bs (Param ty num block) = true
names_live bs (Alias ty x original) = live_at bs original
names_live bs (Union ty x y) = live_at bs x && live_at bs y
names_live bs (Deleted x) = true

abbrev pub value_checks : List ℕ → ℕ → ValueRecord → List (Bool × Cause)
value_checks bs k v =
    (not (value_shape bs k v), BrokenLayout)
    ∷ (not (type_known v), Unknown)
    ∷ (not (number_fits bs v), WrongCount)
    ∷ (not (names_live bs v), NotLive)
    ∷ []

-- ---- an instruction record

-- the operands and results behind the counts are zero
abbrev pub args_unused : InstRecord → Bool
args_unused i =
    (nat_lt 0 i.arg_count || slice_index i.args 0 == 0)
    && ((nat_lt 1 i.arg_count || slice_index i.args 1 == 0) && (nat_lt 2 i.arg_count || slice_index i.args 2 == 0))

abbrev pub results_unused : InstRecord → Bool
results_unused i =
    (nat_lt 0 i.result_count || slice_index i.results 0 == 0) && (nat_lt 1 i.result_count || slice_index i.results 1 == 0)

-- a condition and an immediate that the opcode does not read are zero
abbrev pub codes_unused : InstRecord → Bool
codes_unused i =
    (reads_condition (asked_by i.opcode) || i.cond == 0) && (reads_immediate (asked_by i.opcode) || is_zero i.imm)

-- does the record of a value name the instruction in record k, at a place among its results
abbrev pub names_record : List ℕ → ℕ → ℕ → ValueRecord → Bool
names_record bs k place (Inst ty num inst) = num == place && is_instruction bs inst k
names_record bs k place (Param ty num block) = false
names_record bs k place (Alias ty x original) = false
names_record bs k place (Union ty x y) = false
names_record bs k place (Deleted x) = false

-- each listed result, of the two that there is room for, names this record and its place
abbrev pub results_named : List ℕ → ℕ → InstRecord → Bool
results_named bs k i =
    (i.result_count == 0 || names_record bs k 0 (value_at bs (slice_index i.results 0)))
    && (nat_lt i.result_count 2 || names_record bs k 1 (value_at bs (slice_index i.results 1)))

-- bytes 5 to 7 are unused, and the block is below 64
abbrev pub inst_shape : List ℕ → ℕ → InstRecord → Bool
inst_shape bs k i = zeros (record_at bs k) 5 8 && (codes_unused i && (args_unused i && (results_unused i && (nat_lt i.block 64 && results_named bs k i))))

abbrev pub codes_known : InstRecord → Bool
codes_known i = is_some (asked_by i.opcode) && is_some (intcc_at i.cond)

-- the operands that the count tells are live
abbrev pub args_live : List ℕ → InstRecord → Bool
args_live bs i =
    (nat_lt i.arg_count 1 || live_at bs (slice_index i.args 0))
    && ((nat_lt i.arg_count 2 || live_at bs (slice_index i.args 1)) && (nat_lt i.arg_count 3 || live_at bs (slice_index i.args 2)))

abbrev pub inst_checks : List ℕ → ℕ → InstRecord → List (Bool × Cause)
inst_checks bs k i =
    (not (inst_shape bs k i), BrokenLayout)
    ∷ (not (codes_known i), Unknown)
    ∷ (not (counts_fit (asked_by i.opcode) i.arg_count i.result_count), WrongCount)
    ∷ (not (args_live bs i), NotLive)
    ∷ []

-- ---- all records

-- what stands against a record, by its kind
abbrev pub fault_by : List ℕ → ℕ → Kind → Option Cause
fault_by bs k kind.Value = first (value_checks bs k (value_record (record_at bs k)))
fault_by bs k kind.Inst = first (inst_checks bs k (inst_record (record_at bs k)))
fault_by bs k kind.Unknown = Some BrokenLayout

unfoldable pub record_fault : List ℕ → ℕ → Option Cause
record_fault bs k = fault_by bs k (kind_at bs k)

-- whole records, at most 1,024 of each kind
abbrev pub is_whole : List ℕ → Bool
is_whole bs = length bs % 40 == 0 && (nat_le (length (value_places bs)) 1024 && nat_le (length (inst_places bs)) 1024)

-- why the records are refused: they are not whole or too many, or else the first that something stands against
unfoldable pub records_refusal : List ℕ → Option Refusal
records_refusal bs = cond (is_whole bs) (first_fault (record_fault bs) 0 (record_count bs)) (Some (because NotRecords))

-- how many records there are of each kind
abbrev pub counts_of : List ℕ → Counts
counts_of bs = record { values = length (value_places bs); insts = length (inst_places bs) }
