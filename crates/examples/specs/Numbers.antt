-- Worked numbers: of values by the IR's rules, and of their rows by Souper's. Assumes nothing.
use Rattle.std.specs.Prelude.{◌≡◌, ℕ, ◌-◌, List, [], ◌∷◌, ◌++◌, map, length, pos, negsuc, Some, None, Option, slice_index}
use Rattle.std.specs.List.{AllByRecursion, range_with_len}
use Rattle.ir.specs.declared.condcodes.IntCC.{IntCC}
use Rattle.ir.specs.declared.condcodes.IntCC.TheVariants.{Equal, SignedLessThan, UnsignedLessThan}
use Rattle.ir.specs.declared.opcodes.Opcode.{Opcode}
use Rattle.ir.specs.declared.opcodes.Opcode.TheVariants as op
use Rattle.flow.specs.Number.{number_of}
use Rattle.flow.specs.Walk.{walk}
use Rattle.rows.specs.Meaning.{flow}
use Rattle.rows.specs.Rows.{Rows}
use Rattle.calls.specs.Calls.{Call, MakeBlock}
use Rattle.souper.specs.Rows.{row_number}
use Rattle.souper.specs.Translation.{translation}
use Rattle.souper.specs.declared.rows.Row.{Row}
use Rattle.examples.specs.Building.{built, param, inst_in, inst, iconst, times_3_plus_7, alias_used}

pub record Run : Type 0 where
  pub calls : List Call
  -- the numbers of the variables, by their originals and by their rows: in each graph below they come first in both
  pub inputs : List ℕ
  -- the number of the last value: none where an operation traps
  pub number : Option ℕ
  -- the number on the last of its rows: none where a row is undefined
  pub on_row : Option ℕ

abbrev pub last_value : Rows → ℕ
last_value p = length p.values - 1

abbrev pub rows_of_last : Rows → List Row
rows_of_last p = translation (flow p) (walk (flow p) (last_value p))

abbrev pub number_on_last : List Row → List ℕ → Option ℕ
number_on_last rows inputs = row_number rows (slice_index inputs) (length rows - 1)

-- the numbers of a run are those of the graph that its calls make
pub record RunHolds (r : Run) : Type 0 where
  pub number : number_of (flow (built r.calls)) (slice_index r.inputs) (last_value (built r.calls)) ≡ r.number
  pub on_row : number_on_last (rows_of_last (built r.calls)) r.inputs ≡ r.on_row

-- a run whose last value and last row have the same number
abbrev pub both : List Call → List ℕ → ℕ → Run
both calls inputs n = record { calls = calls; inputs = inputs; number = Some n; on_row = Some n }

-- one whose last value and last row have none
abbrev pub neither : List Call → List ℕ → Run
neither calls inputs = record { calls = calls; inputs = inputs; number = None; on_row = None }

-- an operation alone, over parameters of these widths
abbrev pub alone_if : Opcode → IntCC → ℕ → List ℕ → List Call
alone_if o c w widths = MakeBlock ∷ (map param widths ++ inst_in 0 o c (pos 0) w (range_with_len 0 (length widths)) ∷ [])

abbrev pub alone : Opcode → ℕ → List ℕ → List Call
alone o w widths = alone_if o Equal w widths

-- an operation alone, over two parameters, all of 8 bits
abbrev pub of_two : Opcode → List Call
of_two o = alone o 8 (8 ∷ 8 ∷ [])

abbrev pub of_one : Opcode → List Call
of_one o = alone o 8 (8 ∷ [])

abbrev pub compared : IntCC → List Call
compared c = alone_if op.Icmp c 8 (8 ∷ 8 ∷ [])

abbrev pub selected : List Call
selected = alone op.Select 32 (8 ∷ 32 ∷ 32 ∷ [])

-- 1 shifted left by a parameter
abbrev pub one_shifted : List Call
one_shifted = MakeBlock ∷ param 32 ∷ iconst 32 (pos 1) ∷ inst op.Ishl 32 (1 ∷ 0 ∷ []) ∷ []

abbrev pub runs : List Run
runs =
    -- 10 times 3, plus 7
    both times_3_plus_7 (10 ∷ []) 37
    -- sums and products are taken modulo 2 ^ width, and so is an immediate
    ∷ both (of_two op.Iadd) (200 ∷ 100 ∷ []) 44
    ∷ both (of_two op.Imul) (200 ∷ 100 ∷ []) 32
    ∷ both (MakeBlock ∷ param 64 ∷ iconst 64 (negsuc 0) ∷ inst op.Iadd 64 (0 ∷ 1 ∷ []) ∷ []) (0 ∷ []) 18446744073709551615
    -- quotients and remainders of 249: without a sign, and as -7, whose quotient is rounded toward zero, to -3, and leaves -1
    ∷ both (of_two op.Udiv) (249 ∷ 2 ∷ []) 124
    ∷ both (of_two op.Urem) (249 ∷ 2 ∷ []) 1
    ∷ both (of_two op.Sdiv) (249 ∷ 2 ∷ []) 253
    ∷ both (of_two op.Srem) (249 ∷ 2 ∷ []) 255
    -- by zero both trap
    ∷ neither (of_two op.Udiv) (5 ∷ 0 ∷ [])
    ∷ neither (of_two op.Urem) (5 ∷ 0 ∷ [])
    ∷ neither (of_two op.Sdiv) (5 ∷ 0 ∷ [])
    ∷ neither (of_two op.Srem) (5 ∷ 0 ∷ [])
    -- of the smallest number by -1 the quotient traps; the remainder is 0 in the IR, and undefined in Souper
    ∷ neither (of_two op.Sdiv) (128 ∷ 255 ∷ [])
    ∷ record { calls = of_two op.Srem; inputs = 128 ∷ 255 ∷ []; number = Some 0; on_row = None }
    -- bit by bit
    ∷ both (of_two op.Band) (12 ∷ 10 ∷ []) 8
    ∷ both (of_two op.Bor) (12 ∷ 10 ∷ []) 14
    ∷ both (of_two op.Bxor) (12 ∷ 10 ∷ []) 6
    ∷ both (of_one op.Bnot) (5 ∷ []) 250
    -- a shift by the width or more goes by the remainder in the IR, and is undefined in Souper
    ∷ both one_shifted (31 ∷ []) 2147483648
    ∷ record { calls = one_shifted; inputs = 33 ∷ []; number = Some 2; on_row = None }
    -- a shift to the right, with the sign and with zeros
    ∷ both (of_two op.Sshr) (128 ∷ 1 ∷ []) 192
    ∷ both (of_two op.Ushr) (128 ∷ 1 ∷ []) 64
    -- an extension, with the sign and with zeros
    ∷ both (alone op.Sextend 16 (8 ∷ [])) (128 ∷ []) 65408
    ∷ both (alone op.Uextend 16 (8 ∷ [])) (128 ∷ []) 128
    -- a comparison reads its operands as its condition says: 200 is not less than 1, but -56 is
    ∷ both (compared UnsignedLessThan) (200 ∷ 1 ∷ []) 0
    ∷ both (compared SignedLessThan) (200 ∷ 1 ∷ []) 1
    -- a select takes its third operand where the condition is zero, and else its second
    ∷ both selected (0 ∷ 5 ∷ 6 ∷ []) 6
    ∷ both selected (7 ∷ 5 ∷ 6 ∷ []) 5
    -- but has no number where the operand that it does not take has none
    ∷ neither (MakeBlock ∷ param 8 ∷ inst op.Udiv 8 (0 ∷ 0 ∷ []) ∷ inst op.Select 8 (0 ∷ 1 ∷ 0 ∷ []) ∷ []) (0 ∷ [])
    -- the bits counted, and turned round
    ∷ both (of_one op.Popcnt) (7 ∷ []) 3
    ∷ both (of_one op.Clz) (7 ∷ []) 5
    ∷ both (of_one op.Clz) (0 ∷ []) 8
    ∷ both (of_one op.Ctz) (8 ∷ []) 3
    ∷ both (of_one op.Bitrev) (3 ∷ []) 192
    -- sums and differences that stop at the largest and the smallest number
    ∷ both (of_two op.SaddSat) (100 ∷ 100 ∷ []) 127
    ∷ both (of_two op.SsubSat) (128 ∷ 1 ∷ []) 128
    ∷ both (of_two op.UsubSat) (5 ∷ 7 ∷ []) 0
    -- an alias has its original's number, while its row is a variable, and holds whatever it is given
    ∷ both alias_used (3 ∷ 3 ∷ []) 18
    ∷ record { calls = alias_used; inputs = 3 ∷ 5 ∷ []; number = Some 18; on_row = Some 30 }
    ∷ []

abbrev pub RunsHold : Type 0
RunsHold = AllByRecursion RunHolds runs
