-- Building calls, written shortly, the graph that they make, and calls that more than one table names. Assumes nothing.
use Rattle.std.specs.Prelude.{ℕ, List, [], ◌∷◌, ◌++◌, map, ℤ, pos}
use Rattle.ir.specs.Codes.{opcode_code, intcc_code}
use Rattle.ir.specs.Entities.{value}
use Rattle.ir.specs.declared.condcodes.IntCC.{IntCC}
use Rattle.ir.specs.declared.condcodes.IntCC.TheVariants.{Equal}
use Rattle.ir.specs.declared.opcodes.Opcode.{Opcode}
use Rattle.ir.specs.declared.opcodes.Opcode.TheVariants.{Iconst, Iadd, Imul, Icmp}
use Rattle.rows.specs.Rows.{Rows, empty}
use Rattle.calls.specs.Calls.{Call, MakeBlock, AppendBlockParam, AppendInst, ClearResults, ChangeToAlias}
use Rattle.plain.specs.Feed.{fed_all}

-- the graph that calls make
abbrev pub built : List Call → Rows
built cs = fed_all empty cs

-- ---- calls

-- a parameter of block 0, of so many bits
abbrev pub param : ℕ → Call
param w = AppendBlockParam (record { 0 = 0 }) w

-- an instruction of a block, with one result of so many bits
abbrev pub inst_in : ℕ → Opcode → IntCC → ℤ → ℕ → List ℕ → Call
inst_in b o c z w args =
    AppendInst
    (record { block = record { 0 = b }; opcode = opcode_code o; cond = intcc_code c; imm = z; args = map value args; types = w ∷ [] })

-- the same in block 0: an operation on values, a constant, a comparison
abbrev pub inst : Opcode → ℕ → List ℕ → Call
inst o w args = inst_in 0 o Equal (pos 0) w args

abbrev pub iconst : ℕ → ℤ → Call
iconst w z = inst_in 0 Iconst Equal z w []

abbrev pub icmp : IntCC → ℕ → ℕ → Call
icmp c a b = inst_in 0 Icmp c (pos 0) 8 (a ∷ b ∷ [])

-- an instruction that is to list no results any more
abbrev pub clear : ℕ → Call
clear i = ClearResults (record { 0 = i })

-- the first value as an alias of the second
abbrev pub alias : ℕ → ℕ → Call
alias dest src = ChangeToAlias (value dest) (value src)

-- ---- graphs that more than one table names

-- value 0 is a parameter, and value 4 is that times 3, plus 7
abbrev pub times_3_plus_7 : List Call
times_3_plus_7 =
    MakeBlock ∷ param 32 ∷ iconst 32 (pos 3) ∷ inst Imul 32 (0 ∷ 1 ∷ []) ∷ iconst 32 (pos 7) ∷ inst Iadd 32 (2 ∷ 3 ∷ []) ∷ []

-- value 0 is a parameter, and value 1 twice that, made by an instruction that lists it no more: it may become an alias
abbrev pub detached : List Call
detached = MakeBlock ∷ param 32 ∷ inst Iadd 32 (0 ∷ 0 ∷ []) ∷ clear 0 ∷ []

-- value 1 is an alias of the parameter, value 2 their product, and value 3 twice that
abbrev pub alias_used : List Call
alias_used = detached ++ alias 1 0 ∷ inst Imul 32 (0 ∷ 1 ∷ []) ∷ inst Iadd 32 (2 ∷ 2 ∷ []) ∷ []
