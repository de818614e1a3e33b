-- Which bytes are accepted as an image, and why others are refused. Assumes nothing.
use Rattle.std.specs.Prelude.{◌≡◌, ℕ, ◌≤◌, Bool, cond, not, ◌⊎◌, List, [], ◌∷◌, length, Some, None, Ok, Err, Option, Result, ◌==◌}
use Rattle.ir.specs.Codes.{cause_number, type_bits}
use Rattle.ir.specs.Constraints.{constraints_of, widths_fit, immediate_fits}
use Rattle.ir.specs.Options.{or_else}
use Rattle.ir.specs.Refusals.{first, first_fault}
use Rattle.ir.specs.declared.refusal.Cause.{Cause}
use Rattle.ir.specs.declared.refusal.Cause.TheVariants.{Widths, Immediate}
use Rattle.ir.specs.declared.refusal.Refusal.{Refusal}
use Rattle.flow.specs.Loops.{InLoop}
use Rattle.rows.specs.Circles.{InCircle}
use Rattle.rows.specs.Meaning.{flow}
use Rattle.rows.specs.Rows.{Rows, empty, value_at, inst_at, width_at, widths_of}
use Rattle.rows.specs.declared.instruction.InstructionData.{InstructionData}
use Rattle.rows.specs.declared.value.ValueData.{ValueData}
use Rattle.rows.specs.declared.value.ValueData.TheVariants.{Inst, Param, Alias, Union, Deleted}
use Rattle.rows.specs.WellFormed.{WellFormed}
use Rattle.records.specs.Faults.{records_refusal, counts_of}
use Rattle.records.specs.RowsOf.{rows_of}
use Rattle.records.specs.declared.check.Counts.{Counts}

-- ---- widths and immediates, row by row

-- what may stand against a result of width w of an instruction, whose operands have the widths ws, in the order of the checks
abbrev pub result_checks : InstructionData → ℕ → ℕ × ℕ × ℕ → List (Bool × Cause)
result_checks i w ws =
    (not (widths_fit (constraints_of i.opcode) w ws.0 ws.1 ws.2), Widths)
    ∷ (not (immediate_fits (constraints_of i.opcode) w i.imm), Immediate)
    ∷ []

abbrev pub result_fault : Rows → ℕ → ℕ → Option Cause
result_fault p i w = first (result_checks (inst_at p i) w (widths_of p (inst_at p i).args))

-- widths are looked at where a row is output 0 of an instruction, and where it is an alias
abbrev pub row_fault_in : Rows → ValueData → Option Cause
row_fault_in p (Inst ty num inst) = cond (num == 0) (result_fault p inst.0 (type_bits ty)) None
row_fault_in p (Param ty num block) = None
row_fault_in p (Alias ty original) = first ((not (width_at p original.0 == type_bits ty), Widths) ∷ [])
row_fault_in p (Union ty x y) = None
row_fault_in p Deleted = None

unfoldable pub row_fault : Rows → ℕ → Option Cause
row_fault p v = row_fault_in p (value_at p v)

-- the first value row that something stands against: its place is the number of its record, and value records come first
unfoldable pub widths_refusal : Rows → Option Refusal
widths_refusal p = first_fault (row_fault p) 0 (length p.values)

-- ---- circles and loops

-- a value is in a circle of aliases, or in a loop of operands
abbrev pub GoesRound : Rows → ℕ → Type 0
GoesRound p v = InCircle p.values v ⊎ InLoop (flow p) v

pub record LowestRound (p : Rows) (v : ℕ) : Type 0 where
  pub goes_round : GoesRound p v
  pub lowest : (u : ℕ) → GoesRound p u → v ≤ u

abbrev pub NothingGoesRound : Rows → Type 0
NothingGoesRound p = (v : ℕ) → GoesRound p v → ⊥

-- rows in which something goes round are refused with 9, at the lowest value that does
abbrev pub RefusedByRounds : Rows → Refusal → Type 0
RefusedByRounds p why = (cause_number why.cause ≡ 9) × LowestRound p why.place

abbrev pub JudgedByRounds : Rows → Result (Unit {0}) Refusal → Type 0
JudgedByRounds p (Ok done) = NothingGoesRound p
JudgedByRounds p (Err why) = RefusedByRounds p why

-- ---- the verdict

-- why bytes are refused before anything is looked for that goes round: by their records, or else by the widths of their rows
unfoldable pub early_refusal : List ℕ → Option Refusal
early_refusal bs = or_else (records_refusal bs) (widths_refusal (rows_of bs))

abbrev pub Accepted : List ℕ → Type 0
Accepted bs = (early_refusal bs ≡ None) × NothingGoesRound (rows_of bs)

-- why bytes are refused: with that refusal if there is one, and else by what goes round
abbrev pub RefusedWith : Option Refusal → Rows → Refusal → Type 0
RefusedWith (Some early) p why = why ≡ early
RefusedWith None p why = RefusedByRounds p why

-- the answer: how many records of each kind accepted bytes have, or why bytes are refused
abbrev pub Verdict : List ℕ → Result Counts Refusal → Type 0
Verdict bs (Ok counts) = Accepted bs × (counts ≡ counts_of bs)
Verdict bs (Err why) = RefusedWith (early_refusal bs) (rows_of bs) why

-- bytes that are an image: nothing stands against their records, and these stand for well-formed rows
abbrev pub IsImage : List ℕ → Type 0
IsImage bs = (records_refusal bs ≡ None) × WellFormed (rows_of bs)

-- accepted bytes stand for their rows, all others for no rows
pub record StandsFor (bs : List ℕ) (p : Rows) : Type 0 where
  pub accepted : Accepted bs → p ≡ rows_of bs
  pub refused : (Accepted bs → ⊥) → p ≡ empty
