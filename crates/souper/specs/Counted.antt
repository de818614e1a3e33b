-- Counted operations: values defined by an operation that has a translation. Assumes nothing.
use Rattle.std.specs.Prelude.{ℕ, ◌+◌, Bool, true, false, List, [], ◌∷◌}
use Rattle.ir.specs.Bitvectors.{truth}
use Rattle.flow.specs.Meaning.{Flow}
use Rattle.souper.specs.Translation.{Shape, no_row, rows_as, shape}
use Rattle.souper.specs.declared.form.Form.{Form}
use Rattle.souper.specs.declared.form.Form.TheVariants.{Untranslated, Plain, Inverted, Selected, Compared}

abbrev pub is_translated : Form → Bool
is_translated Untranslated = false
is_translated (Plain word) = true
is_translated Inverted = true
is_translated Selected = true
is_translated (Compared word) = true

abbrev pub is_counted : Shape → Bool
is_counted (no_row z) = false
is_counted (rows_as f vs) = is_translated f

-- the counted operations of a walk
abbrev pub counted : Flow → List ℕ → ℕ
counted g [] = 0
counted g (v ∷ vs) = truth (is_counted (shape g v)) + counted g vs
