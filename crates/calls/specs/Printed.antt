-- How an answer is printed: by the name of what was made; and how a call is: as a script writes it. Assumes nothing.
use Rattle.std.specs.Prelude.{ℕ, ◌&&◌, cond, not, List, [], ◌∷◌, ◌++◌, ℤ, Some, None, codes, Option, ◌==◌, vec_items}
use Rattle.std.specs.Fmt.{decimal, signed_decimal}
use Rattle.ir.specs.Codes.{intcc_at, intcc_name, opcode_at, opcode_name, type_at, type_name}
use Rattle.ir.specs.Printed.{value_text, inst_text, block_text}
use Rattle.ir.specs.Widths.{is_zero}
use Rattle.calls.specs.declared.answer.Answer.{Answer}
use Rattle.calls.specs.declared.answer.Answer.TheVariants as answer
use Rattle.calls.specs.declared.call.BuildCall.{BuildCall}
use Rattle.calls.specs.declared.call.BuildCall.TheVariants as call
use Rattle.calls.specs.declared.call.NewInst.{NewInst}

abbrev pub answer_text : Answer → List ℕ
answer_text (answer.Block block) = block_text block
answer_text (answer.Value value) = value_text value
answer_text (answer.Inst inst) = inst_text inst
answer_text answer.Done = codes "done"

-- ---- calls

-- the name of what a number stands for, or else the number itself behind a prefix
abbrev pub name_or : {X : Type 0} → (X → List ℕ) → Option X → List ℕ → ℕ → List ℕ
name_or name (Some x) prefix n = name x
name_or name None prefix n = prefix ++ decimal n

abbrev pub opcode_text : ℕ → List ℕ
opcode_text code = name_or opcode_name (opcode_at code) [] code

abbrev pub type_text : ℕ → List ℕ
type_text bits = name_or type_name (type_at bits) [] bits

-- the condition behind a space; the first is left out unless the opcode, 17 of `icmp`, reads it
abbrev pub condition_text : ℕ → ℕ → List ℕ
condition_text opcode code = cond (code == 0 && not (opcode == 17)) [] (codes " " ++ name_or intcc_name (intcc_at code) (codes "cc") code)

-- the immediate behind a space; 0 is left out unless the opcode, 0 of `iconst`, reads it
abbrev pub immediate_text : ℕ → ℤ → List ℕ
immediate_text opcode imm = cond (is_zero imm && not (opcode == 0)) [] (codes " " ++ signed_decimal imm)

-- each behind a space
abbrev pub each : {X : Type 0} → (X → List ℕ) → List X → List ℕ
each text [] = []
each text (x ∷ xs) = codes " " ++ text x ++ each text xs

-- block and opcode, then what else there is, the arrow, and the types
abbrev pub new_inst_text : NewInst → List ℕ
new_inst_text new =
    block_text new.block ++ codes " " ++ opcode_text new.opcode ++ condition_text new.opcode new.cond ++ each value_text (vec_items new.args)
    ++ immediate_text new.opcode new.imm ++ codes " ->" ++ each type_text (vec_items new.types)

abbrev pub call_text : BuildCall → List ℕ
call_text call.MakeBlock = codes "make_block"
call_text (call.AppendBlockParam block ty) = codes "append_block_param " ++ block_text block ++ codes " " ++ type_text ty
call_text (call.AppendInst new) = codes "append_inst " ++ new_inst_text new
call_text (call.ClearResults inst) = codes "clear_results " ++ inst_text inst
call_text (call.ChangeToAlias dest src) = codes "change_to_alias " ++ value_text dest ++ codes " " ++ value_text src
call_text call.ResolveAllAliases = codes "resolve_all_aliases"
