-- The names of the calls, the types, the opcodes and the conditions. Assumes nothing.
use Rattle.std.specs.Prelude.{ℕ, cond, List, [], ◌∷◌, Some, None, codes, Option}
use Rattle.std.specs.List.{find}
use Rattle.std.specs.Option.{option_map}
use Rattle.std.specs.Str.{bytes_eq}
use Rattle.ir.specs.Codes.{opcodes, opcode_name, opcode_code, intccs, intcc_name, intcc_code}
use Rattle.ir.specs.Options.{and_then, or_else}
use Rattle.script.specs.Numbers.{number, behind}
use Rattle.script.specs.declared.names.Keyword.{Keyword}
use Rattle.script.specs.declared.names.Keyword.TheVariants.{MakeBlock, AppendBlockParam, AppendInst, ClearResults, ChangeToAlias, ResolveAllAliases}

-- what a word names in a table
abbrev pub named : {X : Type 0} → List (List ℕ × X) → List ℕ → Option X
named [] word = None
named (entry ∷ entries) word = cond (bytes_eq word entry.0) (Some entry.1) (named entries word)

abbrev pub keyword_of : List ℕ → Option Keyword
keyword_of =
    named ((codes "make_block", MakeBlock) ∷ (codes "append_block_param", AppendBlockParam) ∷ (codes "append_inst", AppendInst) ∷ (codes "clear_results", ClearResults) ∷ (codes "change_to_alias", ChangeToAlias) ∷ (codes "resolve_all_aliases", ResolveAllAliases) ∷ [])

-- the numbers of the types that have a name
abbrev pub type_named : List ℕ → Option ℕ
type_named = named ((codes "i8", 8) ∷ (codes "i16", 16) ∷ (codes "i32", 32) ∷ (codes "i64", 64) ∷ (codes "other", 1) ∷ [])

abbrev pub type_of : List ℕ → Option ℕ
type_of word = or_else (type_named word) (number 65536 word)

-- the code of the first case that has the word as its name
abbrev pub code_named : {X : Type 0} → (X → List ℕ) → (X → ℕ) → List X → List ℕ → Option ℕ
code_named name code xs word = option_map code (find (λ x. bytes_eq word (name x)) xs)

unfoldable pub opcode_named : List ℕ → Option ℕ
opcode_named = code_named opcode_name opcode_code opcodes

abbrev pub opcode_of : List ℕ → Option ℕ
opcode_of word = or_else (opcode_named word) (number 256 word)

unfoldable pub condition_named : List ℕ → Option ℕ
condition_named = code_named intcc_name intcc_code intccs

abbrev pub condition_of : List ℕ → Option ℕ
condition_of word = or_else (condition_named word) (and_then (behind (codes "cc") word) (number 256))
