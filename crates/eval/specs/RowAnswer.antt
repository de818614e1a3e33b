-- What a question for the number on a row is answered. Assumes nothing.
use Rattle.std.specs.Prelude.{ℕ, ◌+◌, ◌^◌, Bool, true, not, ◌&&◌, List, [], ◌∷◌, length, take, zip, find, is_none, unwrap_or, option_map, Option, Result, nat_lt}
use Rattle.std.specs.List.{list_all, range_with_len}
use Rattle.ir.specs.Entities.{not_live, too_few}
use Rattle.ir.specs.Options.{or_else}
use Rattle.ir.specs.Refusals.{because, first, answer_unless}
use Rattle.ir.specs.declared.refusal.Refusal.{Refusal}
use Rattle.ir.specs.declared.refusal.Cause.TheVariants.{InputTooWide, Undefined}
use Rattle.souper.specs.Check.{broken_at, first_bad}
use Rattle.souper.specs.Rows.{row_number}
use Rattle.souper.specs.Words.{kind_of}
use Rattle.souper.specs.declared.kind.Kind.{Kind}
use Rattle.souper.specs.declared.kind.Kind.TheVariants as kind
use Rattle.souper.specs.declared.rows.Row.{Row}
use Rattle.eval.specs.Known.{at}

-- the input of a variable of width w fits it; no other kind of row reads an input
abbrev pub kind_input_fits : Kind → ℕ → ℕ → Bool
kind_input_fits kind.Variable w input = nat_lt input (2 ^ w)
kind_input_fits kind.Unary w input = true
kind_input_fits kind.Binary w input = true
kind_input_fits kind.Comparison w input = true
kind_input_fits kind.Inequality w input = true
kind_input_fits kind.Choice w input = true
kind_input_fits kind.Extension w input = true

abbrev pub row_input_fits : Row → ℕ → Bool
row_input_fits row input = kind_input_fits (kind_of row.word) row.width input

-- each input fits that the first n rows read
abbrev pub row_inputs_fit : List Row → List ℕ → ℕ → Bool
row_inputs_fit rows inputs n = list_all (λ (p : Row × ℕ). row_input_fits p.0 p.1) (zip (take n rows) inputs)

-- the first of the first n rows that is undefined
abbrev pub first_undefined : List Row → List ℕ → ℕ → Option ℕ
first_undefined rows inputs n = find (λ k. is_none (row_number rows (at inputs) k)) (range_with_len 0 n)

abbrev pub undefined_at : ℕ → Refusal
undefined_at r = record { cause = Undefined; place = r }

-- what the width check has against the rows
abbrev pub unfit : List Row → Option Refusal
unfit rows = option_map broken_at (first_bad rows 0 rows)

-- What stands against working out the row r. Rows are numbered from 0 to 2,047: one behind these is none.
abbrev pub unasked_row : List Row → List ℕ → ℕ → Option Refusal
unasked_row rows inputs r =
    first (
    (not (nat_lt r (length rows) && nat_lt r 2048), not_live)
    ∷ (nat_lt (length inputs) (length rows), too_few (length rows))
    ∷ (not (row_inputs_fit rows inputs (r + 1)), because InputTooWide)
    ∷ []
    )

abbrev pub undefined : List Row → List ℕ → ℕ → Option Refusal
undefined rows inputs r = option_map undefined_at (first_undefined rows inputs (r + 1))

-- the number on the row r, which is there where no row up to it is undefined
abbrev pub number_of_defined : List Row → List ℕ → ℕ → ℕ
number_of_defined rows inputs r = unwrap_or (row_number rows (at inputs) r) 0

-- the answer: the first refusal that stands, or the number on the row r
abbrev pub row_answer : List Row → List ℕ → ℕ → Result ℕ Refusal
row_answer rows inputs r = answer_unless (or_else (unfit rows) (or_else (unasked_row rows inputs r) (undefined rows inputs r))) (number_of_defined rows inputs r)
