-- What each building call does to the plain graph, which is its rows, and what it answers. Assumes nothing.
use Rattle.std.specs.Prelude.{ℕ, ◌+◌, Bool, not, ◌&&◌, ◌||◌, List, [], ◌∷◌, ◌++◌, map, length, is_some, Some, None, Option, Result, ◌==◌, nat_le, nat_lt, slice_set}
use Rattle.std.specs.List.{list_all}
use Rattle.std.specs.Option.{unwrap_or}
use Rattle.ir.specs.Codes.{opcode_at, intcc_at, type_at, type_bits, type_or}
use Rattle.ir.specs.Constraints.{constraints_of, arg_count_fits, result_count_fits, widths_fit, immediate_fits}
use Rattle.ir.specs.Entities.{operands_of, too_short}
use Rattle.ir.specs.Options.{or_else}
use Rattle.ir.specs.Refusals.{because, first, answer_unless}
use Rattle.ir.specs.declared.condcodes.IntCC.{IntCC}
use Rattle.ir.specs.declared.condcodes.IntCC.TheVariants.{Equal}
use Rattle.ir.specs.declared.constraints.OpcodeConstraints.{OpcodeConstraints}
use Rattle.ir.specs.declared.entities.Block.{Block}
use Rattle.ir.specs.declared.entities.Inst.{Inst as IrInst}
use Rattle.ir.specs.declared.entities.Value.{Value}
use Rattle.ir.specs.declared.instructions.Operands.{Operands}
use Rattle.ir.specs.declared.instructions.Operands.TheVariants.{Nullary}
use Rattle.ir.specs.declared.opcodes.Opcode.{Opcode}
use Rattle.ir.specs.declared.opcodes.Opcode.TheVariants.{Opaque}
use Rattle.ir.specs.declared.refusal.Cause.TheVariants.{NotLive, Unknown, WrongCount, Widths, Immediate, TableFull, Attached, ResolvesToDestination}
use Rattle.ir.specs.declared.refusal.Refusal.{Refusal}
use Rattle.ir.specs.declared.types.Type as T
use Rattle.ir.specs.declared.types.Type.TheVariants.{Invalid}
use Rattle.rows.specs.Rows.{Rows, value_at, inst_at, type_in, width_at, live, all_live, widths_of, original, erased}
use Rattle.rows.specs.declared.instruction.InstructionData.{InstructionData}
use Rattle.rows.specs.declared.instruction.Results.{Results}
use Rattle.rows.specs.declared.instruction.Results.TheVariants as results
use Rattle.rows.specs.declared.value.ValueData.{ValueData}
use Rattle.rows.specs.declared.value.ValueData.TheVariants.{Inst, Param, Alias}
use Rattle.plain.specs.Attached.{attached, param_count, cleared, rewritten}
use Rattle.plain.specs.Loops.{loop_refusal}
use Rattle.calls.specs.Calls.{InstCall, Call, MakeBlock, AppendBlockParam, AppendInst, ClearResults, ChangeToAlias, ResolveAllAliases}
use Rattle.calls.specs.declared.answer.Answer.{Answer}
use Rattle.calls.specs.declared.answer.Answer.TheVariants as made

-- ---- an instruction to append

-- What its codes and its list of operands stand for. Where one stands for nothing the call is refused, and what is said here for
-- that case is not read.
abbrev pub opcode_of : InstCall → Opcode
opcode_of n = unwrap_or (opcode_at n.opcode) Opaque

abbrev pub cond_of : InstCall → IntCC
cond_of n = unwrap_or (intcc_at n.cond) Equal

abbrev pub constraints_in : InstCall → OpcodeConstraints
constraints_in n = constraints_of (opcode_of n)

abbrev pub args_of : InstCall → Operands
args_of n = unwrap_or (operands_of n.args) Nullary

abbrev pub types_known : List ℕ → Bool
types_known types = list_all (λ ty. is_some (type_at ty)) types

-- the type of the first result, invalid where there is none
abbrev pub first_type : List ℕ → T.Type
first_type [] = Invalid
first_type (ty ∷ types) = type_or ty

-- are the codes those of an opcode, a condition and types
abbrev pub names_known : InstCall → Bool
names_known n = is_some (opcode_at n.opcode) && (is_some (intcc_at n.cond) && types_known n.types)

abbrev pub counts_fit : InstCall → Bool
counts_fit n = arg_count_fits (constraints_in n) (length n.args) && result_count_fits (constraints_in n) (length n.types)

-- the results of an instruction from value number v on, as it lists them: none, one or two
abbrev pub results_from : List ℕ → ℕ → Results
results_from [] v = results.Empty
results_from (a ∷ []) v = results.Single (record { 0 = v })
results_from (a ∷ b ∷ more) v = results.Pair (record { 0 = v }) (record { 0 = v + 1 })

-- the rows of the results of instruction number i
abbrev pub result_rows : List ℕ → ℕ → List ValueData
result_rows [] i = []
result_rows (a ∷ []) i = Inst (type_or a) 0 (record { 0 = i }) ∷ []
result_rows (a ∷ b ∷ more) i = Inst (type_or a) 0 (record { 0 = i }) ∷ Inst (type_or b) 1 (record { 0 = i }) ∷ []

abbrev pub inst_row : Rows → InstCall → InstructionData
inst_row p n =
    record {
      opcode = opcode_of n;
      cond = cond_of n;
      imm = n.imm;
      args = args_of n;
      results = results_from n.types (length p.values);
      block = n.block;
    }

-- do the widths of its operands go with that of its first result, which has the first of these types
abbrev pub row_widths_fit : Rows → InstructionData → List ℕ → Bool
row_widths_fit p row types =
    widths_fit (constraints_of row.opcode) (type_bits (first_type types)) (widths_of p row.args).0 (widths_of p row.args).1 (widths_of p row.args).2

-- what may stand against the row of an instruction to append, whose results have these types
abbrev pub row_checks : Rows → InstructionData → List ℕ → List (Bool × Refusal)
row_checks p row types =
    (nat_le p.blocks row.block.0 || not (all_live p row.args), because NotLive)
    ∷ (not (row_widths_fit p row types), because Widths)
    ∷ (not (immediate_fits (constraints_of row.opcode) (type_bits (first_type types)) row.imm), because Immediate)
    ∷ (nat_le 1024 (length p.insts) || nat_lt 1024 (length p.values + length types), because TableFull)
    ∷ []

-- ---- the calls

-- what may stand against a call over so many bytes of marks, in the order of the checks
abbrev pub checks : Rows → ℕ → Call → List (Bool × Refusal)
checks p marks MakeBlock = (nat_le 64 p.blocks, because TableFull) ∷ []
checks p marks (AppendBlockParam b ty) =
    (not (is_some (type_at ty)), because Unknown)
    ∷ (nat_le p.blocks b.0, because NotLive)
    ∷ (nat_le 1024 (length p.values), because TableFull)
    ∷ []
checks p marks (AppendInst n) =
    (not (names_known n), because Unknown)
    ∷ (not (counts_fit n), because WrongCount)
    ∷ row_checks p (inst_row p n) n.types
checks p marks (ClearResults i) = (nat_le (length p.insts) i.0, because NotLive) ∷ []
checks p marks (ChangeToAlias dest src) =
    (not (live p dest.0 && live p src.0), because NotLive)
    ∷ (not (width_at p dest.0 == width_at p src.0), because Widths)
    ∷ (attached p dest.0, because Attached)
    ∷ ((original p src.0 == dest.0), because ResolvesToDestination)
    ∷ (nat_lt marks 1024, too_short 1024)
    ∷ []
checks p marks ResolveAllAliases = []

-- what stands against a call that passes its checks
abbrev pub last_check : Rows → Call → Option Refusal
last_check p MakeBlock = None
last_check p (AppendBlockParam b ty) = None
last_check p (AppendInst n) = None
last_check p (ClearResults i) = None
last_check p (ChangeToAlias dest src) = loop_refusal p dest.0 (original p src.0)
last_check p ResolveAllAliases = None

-- why a call is refused
abbrev pub refusal : Rows → ℕ → Call → Option Refusal
refusal p marks c = or_else (first (checks p marks c)) (last_check p c)

-- the graph after a call that is not refused
abbrev pub grown : Rows → Call → Rows
grown p MakeBlock = record { values = p.values; insts = p.insts; blocks = p.blocks + 1 }
grown p (AppendBlockParam b ty) =
    record { values = p.values ++ Param (type_or ty) (param_count p.values b.0) b ∷ []; insts = p.insts; blocks = p.blocks }
grown p (AppendInst n) =
    record {
      values = p.values ++ result_rows n.types (length p.insts);
      insts = p.insts ++ inst_row p n ∷ [];
      blocks = p.blocks;
    }
grown p (ClearResults i) =
    record { values = p.values; insts = slice_set p.insts i.0 (cleared (inst_at p i.0)); blocks = p.blocks }
grown p (ChangeToAlias dest src) =
    record {
      values = slice_set p.values dest.0 (Alias (type_in (value_at p dest.0)) (record { 0 = original p src.0 }));
      insts = p.insts;
      blocks = p.blocks;
    }
grown p ResolveAllAliases =
    record { values = map erased p.values; insts = map (rewritten (original p)) p.insts; blocks = p.blocks }

-- ---- what a call answers

-- the numbers of the block, the value and the instruction that come next
abbrev pub next_block : Rows → Block
next_block p = record { 0 = p.blocks }

abbrev pub next_value : Rows → Value
next_value p = record { 0 = length p.values }

abbrev pub next_inst : Rows → IrInst
next_inst p = record { 0 = length p.insts }

-- what a call that is not refused answers: the number of what it makes
abbrev pub answer_to : Rows → Call → Answer
answer_to p MakeBlock = made.Block (next_block p)
answer_to p (AppendBlockParam b ty) = made.Value (next_value p)
answer_to p (AppendInst n) = made.Inst (next_inst p)
answer_to p (ClearResults i) = made.Done
answer_to p (ChangeToAlias dest src) = made.Done
answer_to p ResolveAllAliases = made.Done

abbrev pub fed_unless : Option Refusal → Rows → Rows → Rows
fed_unless None before after = after
fed_unless (Some why) before after = before

-- the graph after a call over so many bytes of marks: a refused call changes nothing
abbrev pub fed_with : ℕ → Rows → Call → Rows
fed_with marks p c = fed_unless (refusal p marks c) p (grown p c)

-- a call's answer over so many bytes of marks: the refusal, or x
abbrev pub answered : {A : Type 0} → ℕ → Rows → Call → A → Result A Refusal
answered marks p c x = answer_unless (refusal p marks c) x

-- ---- over marks that are long enough

abbrev pub fed : Rows → Call → Rows
fed = fed_with 1024

-- the graph after a list of calls, one after another, any of them refused
abbrev pub fed_all : Rows → List Call → Rows
fed_all p [] = p
fed_all p (c ∷ cs) = fed_all (fed p c) cs

-- and their answers
abbrev pub answers_to : Rows → List Call → List (Result Answer Refusal)
answers_to p [] = []
answers_to p (c ∷ cs) = answered 1024 p c (answer_to p c) ∷ answers_to (fed p c) cs
