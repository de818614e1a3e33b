-- What a question for the number of a value is answered. Assumes nothing.
use Rattle.std.specs.Prelude.{ℕ, ◌^◌, Bool, true, not, List, [], ◌∷◌, length, find, is_none, unwrap_or, option_map, Option, Result, nat_lt, slice_index}
use Rattle.std.specs.List.{list_all}
use Rattle.ir.specs.Entities.{not_live, too_few}
use Rattle.ir.specs.Options.{or_else}
use Rattle.ir.specs.Refusals.{because, first, answer_unless}
use Rattle.ir.specs.Widths.{is_integer}
use Rattle.ir.specs.declared.refusal.Refusal.{Refusal}
use Rattle.ir.specs.declared.refusal.Cause.TheVariants.{NotInteger, InputTooWide, Trapped}
use Rattle.flow.specs.Meaning.{Flow, width_of, original_of, def_of, live}
use Rattle.flow.specs.Number.{number_of}
use Rattle.flow.specs.Walk.{walk}
use Rattle.flow.specs.declared.definition.ValueDef.{ValueDef}
use Rattle.flow.specs.declared.definition.ValueDef.TheVariants as def
use Rattle.ir.specs.declared.entities.Value.{Value}
use Rattle.walk.specs.declared.dfs.WalkError.{WalkError}
use Rattle.walk.specs.declared.dfs.WalkError.TheVariants as errors
use Rattle.eval.specs.Known.{at}

-- the input of a variable's original fits the variable's width; no other definition reads an input
abbrev pub def_input_fits : Flow → List ℕ → ℕ → ValueDef → Bool
def_input_fits g inputs v (def.Constant z) = true
def_input_fits g inputs v (def.Operation o c args) = true
def_input_fits g inputs v def.Variable = nat_lt (slice_index inputs (original_of g v)) (2 ^ width_of g v)
def_input_fits g inputs v def.Deleted = true

abbrev pub input_fits : Flow → List ℕ → ℕ → Bool
input_fits g inputs v = def_input_fits g inputs v (def_of g v)

-- each input that values of vs read fits
abbrev pub inputs_fit : Flow → List ℕ → List ℕ → Bool
inputs_fit g inputs vs = list_all (input_fits g inputs) vs

-- the first of the values vs that has no number: it is the first that traps, where what they use comes before them
abbrev pub first_trap : Flow → List ℕ → List ℕ → Option ℕ
first_trap g inputs vs = find (λ v. is_none (number_of g (at inputs) v)) vs

abbrev pub trapped_at : ℕ → Refusal
trapped_at v = record { cause = Trapped; place = v }

-- what stands against a walk of v, with room for so many marks
abbrev pub unasked : Flow → List ℕ → ℕ → ℕ → Option Refusal
unasked g inputs v room =
    first (
    (not (live g v), not_live)
    ∷ (nat_lt room 1024, too_few 1024)
    ∷ (nat_lt (length inputs) (length g), too_few (length g))
    ∷ (not (is_integer (width_of g v)), because NotInteger)
    ∷ []
    )

-- what stands against an answer, found on the walk
abbrev pub too_wide : Flow → List ℕ → ℕ → Option Refusal
too_wide g inputs v = first ((not (inputs_fit g inputs (walk g v)), because InputTooWide) ∷ [])

abbrev pub trapped : Flow → List ℕ → ℕ → Option Refusal
trapped g inputs v = option_map trapped_at (first_trap g inputs (walk g v))

-- the refusal of a walk that was refused, or was stopped at a value that traps
abbrev pub refusal_of : WalkError Value → Refusal
refusal_of (errors.Refused why) = why
refusal_of (errors.Stopped v) = trapped_at v.0

-- the number of v, which is there where nothing trapped
abbrev pub number_of_untrapped : Flow → List ℕ → ℕ → ℕ
number_of_untrapped g inputs v = unwrap_or (number_of g (at inputs) v) 0

-- the answer: the first refusal that stands, or the number of v
abbrev pub value_answer : Flow → List ℕ → ℕ → ℕ → Result ℕ Refusal
value_answer g inputs v room =
    answer_unless (or_else (unasked g inputs v room) (or_else (too_wide g inputs v) (trapped g inputs v))) (number_of_untrapped g inputs v)
