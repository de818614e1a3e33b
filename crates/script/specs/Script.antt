-- What a script says: the building calls of its lines, or the first line that says none. Assumes nothing.
use Rattle.std.specs.Prelude.{◌≡◌, ℕ, ◌+◌, Bool, false, cond, List, [], ◌∷◌, ◌++◌, map, ℤ, pos, Some, None, Ok, Err, vec_items, codes, Option, Result, Vec, ◌==◌}
use Rattle.std.specs.Str.{bytes_eq}
use Rattle.std.specs.Option.{option_map, unwrap_or}
use Rattle.std.specs.declared.alloc.Global.{Global}
use Rattle.ir.specs.declared.entities.Value.{Value}
use Rattle.calls.specs.Calls as calls
use Rattle.calls.specs.Calls.{Call, call_of}
use Rattle.calls.specs.declared.call.BuildCall.{BuildCall}
use Rattle.script.specs.declared.error.ScriptError.{ScriptError}
use Rattle.script.specs.declared.error.ScriptError.TheVariants as script_error
use Rattle.script.specs.declared.items.Item.{Item}
use Rattle.script.specs.declared.items.Item.TheVariants.{Operand, Immediate, Condition}
use Rattle.script.specs.declared.items.Items.{Items}
use Rattle.script.specs.declared.names.Keyword.{Keyword}
use Rattle.script.specs.declared.names.Keyword.TheVariants.{MakeBlock, AppendBlockParam, AppendInst, ClearResults, ChangeToAlias, ResolveAllAliases}
use Rattle.script.specs.Text.{words, lines}
use Rattle.ir.specs.Options.{and_then, or_else}
use Rattle.script.specs.Numbers.{block_of, inst_of, value_of, immediate_of}
use Rattle.script.specs.Names.{keyword_of, type_of, opcode_of, condition_of}

-- ---- the items of an instruction

abbrev pub item_of : List ℕ → Option Item
item_of word =
    or_else (option_map Operand (value_of word)) (or_else (option_map Immediate (immediate_of word)) (option_map Condition (condition_of word)))

-- the items so far: the operands in order, and at most one immediate and one condition
pub record ItemsSaid : Type 0 where
  pub args : List Value
  pub imm : Option ℤ
  pub cond : Option ℕ

abbrev pub no_items : ItemsSaid
no_items = record { args = []; imm = None; cond = None }

-- what comes once, where it has not come yet
abbrev pub once : {X Y : Type 0} → Option X → Y → Option Y
once None y = Some y
once (Some x) y = None

abbrev pub with_item : ItemsSaid → Item → Option ItemsSaid
with_item said (Operand v) = Some (record { args = said.args ++ v ∷ []; imm = said.imm; cond = said.cond })
with_item said (Immediate z) = once said.imm (record { args = said.args; imm = Some z; cond = said.cond })
with_item said (Condition n) = once said.cond (record { args = said.args; imm = said.imm; cond = Some n })

-- the items up to the arrow, and the words behind it
abbrev pub items_of : ItemsSaid → List (List ℕ) → Option (ItemsSaid × List (List ℕ))
items_of said [] = None
items_of said (w ∷ ws) =
    cond (bytes_eq w (codes "->")) (Some (said, ws)) (and_then (and_then (item_of w) (with_item said)) (λ more. items_of more ws))

-- the types behind those that came
abbrev pub types_of : List ℕ → List (List ℕ) → Option (List ℕ)
types_of types [] = Some types
types_of types (w ∷ ws) = and_then (type_of w) (λ t. types_of (types ++ t ∷ []) ws)

-- ---- the calls

-- no word, one word and two words behind the name of a call
abbrev pub none : {X : Type 0} → X → List (List ℕ) → Option X
none x [] = Some x
none x (w ∷ ws) = None

abbrev pub one : {X Y : Type 0} → (List ℕ → Option X) → (X → Y) → List (List ℕ) → Option Y
one f make [] = None
one f make (w ∷ ws) = and_then (f w) (λ x. none (make x) ws)

abbrev pub two : {X Y Z : Type 0} → (List ℕ → Option X) → (List ℕ → Option Y) → (X → Y → Z) → List (List ℕ) → Option Z
two f g make [] = None
two f g make (w ∷ ws) = and_then (f w) (λ x. one g (make x) ws)

-- BLOCK OPCODE {ITEM} -> {TYPE}
abbrev pub inst : List (List ℕ) → Option calls.InstCall
inst [] = None
inst (b ∷ []) = None
inst (b ∷ o ∷ ws) =
    and_then (block_of b) (λ block. and_then (opcode_of o) (λ opcode. and_then (items_of no_items ws) (λ p. and_then (types_of [] p.1) (λ types. Some (record {
      block = block;
      opcode = opcode;
      cond = unwrap_or p.0.cond 0;
      imm = unwrap_or p.0.imm (pos 0);
      args = p.0.args;
      types = types;
    })))))

-- what the words behind the name of a call say
abbrev pub call_behind : Keyword → List (List ℕ) → Option Call
call_behind MakeBlock = none calls.MakeBlock
call_behind AppendBlockParam = two block_of type_of calls.AppendBlockParam
call_behind AppendInst = λ ws. option_map calls.AppendInst (inst ws)
call_behind ClearResults = one inst_of calls.ClearResults
call_behind ChangeToAlias = two value_of value_of calls.ChangeToAlias
call_behind ResolveAllAliases = none calls.ResolveAllAliases

-- ---- the lines

pub data Line : Type 0 where
  Skipped : Line
  Says : Call → Line
  Unreadable : Line

-- a word that begins with '#'
abbrev pub is_comment : List ℕ → Bool
is_comment [] = false
is_comment (b ∷ bs) = b == 35

abbrev pub saying : Option Call → Line
saying None = Unreadable
saying (Some call) = Says call

abbrev pub line_of : List (List ℕ) → Line
line_of [] = Skipped
line_of (w ∷ ws) = cond (is_comment w) Skipped (saying (and_then (keyword_of w) (λ keyword. call_behind keyword ws)))

-- the calls of lines that stand behind n lines, of which `said` are the calls: all calls, or the number of the first line
-- that cannot be read
abbrev pub lines_of : List Call → ℕ → List (List ℕ) → Result (List Call) ℕ
lines_of said n [] = Ok said
lines_of said n (l ∷ ls) =
    elim (line_of (words l)) [
      | Skipped ↦ lines_of said (n + 1) ls
      | Says call ↦ lines_of (said ++ call ∷ []) (n + 1) ls
      | Unreadable ↦ Err (n + 1)
    ]

-- what a text says
abbrev pub script_of : List ℕ → Result (List Call) ℕ
script_of text = lines_of [] 0 (lines text)

-- ---- what a reader answers

-- a reading in line n, unless memory ran out
abbrev pub Reads : {X Y : Type 0} → ℕ → (X → Y) → Result X ScriptError → Option Y → Type 0
Reads n f (Ok x) said = said ≡ Some (f x)
Reads n f (Err (script_error.Line m)) said = (m ≡ n) × (said ≡ None)
Reads n f (Err script_error.Memory) said = Unit {0}

abbrev pub ReadsLine : ℕ → Result (Option BuildCall) ScriptError → Line → Type 0
ReadsLine n (Ok None) said = said ≡ Skipped
ReadsLine n (Ok (Some call)) said = said ≡ Says (call_of call)
ReadsLine n (Err (script_error.Line m)) said = (m ≡ n) × (said ≡ Unreadable)
ReadsLine n (Err script_error.Memory) said = Unit {0}

abbrev pub ReadsScript : Result (Vec BuildCall Global) ScriptError → Result (List Call) ℕ → Type 0
ReadsScript (Ok calls) said = said ≡ Ok (map call_of (vec_items calls))
ReadsScript (Err (script_error.Line n)) said = said ≡ Err n
ReadsScript (Err script_error.Memory) said = Unit {0}

-- what the items that were read say
abbrev pub items_said : Items → ItemsSaid
items_said items = record { args = vec_items items.args; imm = items.imm; cond = items.cond }
