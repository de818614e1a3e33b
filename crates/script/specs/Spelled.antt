-- How building calls are written by numbers, and that what is so written reads as the calls. Assumes nothing.
use Rattle.std.specs.Prelude.{◌≡◌, ℕ, ◌^◌, ◌<◌, List, [], ◌∷◌, ◌++◌, map, Ok, codes, decimal}
use Rattle.std.specs.Int.Signed.{mag}
use Rattle.std.specs.Fmt.{signed_decimal}
use Rattle.std.specs.List.{AllByRecursion}
use Rattle.ir.specs.Printed.{block_text, inst_text, value_text}
use Rattle.calls.specs.Calls.{Call, InstCall, MakeBlock, AppendBlockParam, AppendInst, ClearResults, ChangeToAlias, ResolveAllAliases}
use Rattle.script.specs.Script.{script_of}

-- the words behind an opcode: the condition, the immediate, the operands, the arrow and the types
abbrev pub item_words : InstCall → List (List ℕ)
item_words new =
    (codes "cc" ++ decimal new.cond) ∷ signed_decimal new.imm ∷ (map value_text new.args ++ codes "->" ∷ map decimal new.types)

-- the words of a call: opcodes, types and conditions by their numbers
abbrev pub spelled : Call → List (List ℕ)
spelled MakeBlock = codes "make_block" ∷ []
spelled (AppendBlockParam block ty) = codes "append_block_param" ∷ block_text block ∷ decimal ty ∷ []
spelled (AppendInst new) = codes "append_inst" ∷ block_text new.block ∷ decimal new.opcode ∷ item_words new
spelled (ClearResults inst) = codes "clear_results" ∷ inst_text inst ∷ []
spelled (ChangeToAlias dest src) = codes "change_to_alias" ∷ value_text dest ∷ value_text src ∷ []
spelled ResolveAllAliases = codes "resolve_all_aliases" ∷ []

-- words with a space behind each
abbrev pub spaced : List (List ℕ) → List ℕ
spaced [] = []
spaced (w ∷ ws) = w ++ 32 ∷ spaced ws

-- calls with a line feed behind each
abbrev pub written : List Call → List ℕ
written [] = []
written (call ∷ calls) = spaced (spelled call) ++ 10 ∷ written calls

-- the numbers of an instruction fit their types
pub record InstFits (new : InstCall) : Type 0 where
  pub block : new.block.0 < 2 ^ 32
  pub opcode : new.opcode < 2 ^ 8
  pub cond : new.cond < 2 ^ 8
  pub imm : mag new.imm < 2 ^ 63
  pub args : AllByRecursion (λ v. v.0 < 2 ^ 32) new.args
  pub types : AllByRecursion (λ t. t < 2 ^ 16) new.types

abbrev pub Fits : Call → Type 0
Fits MakeBlock = Unit {0}
Fits (AppendBlockParam block ty) = (block.0 < 2 ^ 32) × (ty < 2 ^ 16)
Fits (AppendInst new) = InstFits new
Fits (ClearResults inst) = inst.0 < 2 ^ 32
Fits (ChangeToAlias dest src) = (dest.0 < 2 ^ 32) × (src.0 < 2 ^ 32)
Fits ResolveAllAliases = Unit {0}

-- every list of calls whose numbers fit can be written, and reads as itself
abbrev pub ReadsBack : Type 0
ReadsBack = (calls : List Call) → AllByRecursion Fits calls → script_of (written calls) ≡ Ok calls
