-- The translation is sound: the number on a value's row is the value's number. Assumes nothing.
use Rattle.std.specs.Prelude.{◌≡◌, ℕ, ◌^◌, ◌<◌, ◌≤◌, Bool, true, false, not, List, [], ◌∷◌, ◌++◌, length, is_some, Some, slice_index}
use Rattle.ir.specs.declared.words.Word.TheVariants.{Var}
use Rattle.flow.specs.Meaning.{Flow, Lawful, uses}
use Rattle.flow.specs.Number.{number_of, InputsFit}
use Rattle.flow.specs.Walk.{Ordered, In}
use Rattle.souper.specs.Counted.{is_translated}
use Rattle.souper.specs.Rows.{row_at, row_number}
use Rattle.souper.specs.Translation.{Shape, no_row, rows_as, has_row, shape, row_of, translation, added_rows}
use Rattle.souper.specs.Widths.{WidthsPass}
use Rattle.souper.specs.declared.rows.Row.{Row}

-- the value's row is a variable: it is no constant, and has no translation
abbrev pub is_variable_row : Shape → Bool
is_variable_row (no_row z) = false
is_variable_row (rows_as f vs) = not (is_translated f)

-- the variable rows up to a row carry their values' numbers
abbrev pub VariablesCarry : Flow → List ℕ → (ℕ → ℕ) → (ℕ → ℕ) → ℕ → Type 0
VariablesCarry g walk originals inputs bound =
    (u : ℕ) → In walk u → is_variable_row (shape g u) ≡ true → row_of g walk u ≤ bound → number_of g originals u ≡ Some (inputs (row_of g walk u))

-- Where a value's row has a number, that is the value's number, whatever the numbers of the originals and of the variable rows:
-- those rows up to it have only to carry their values' numbers.
abbrev pub TranslationSound : Type 0
TranslationSound =
    (g : Flow) (walk : List ℕ) (originals inputs : ℕ → ℕ) → Lawful g → Ordered g walk → InputsFit g originals
    → (v : ℕ) → In walk v → has_row (shape g v) ≡ true → VariablesCarry g walk originals inputs (row_of g walk v)
    → (n : ℕ) → row_number (translation g walk) inputs (row_of g walk v) ≡ Some n → number_of g originals v ≡ Some n

-- The same where no row up to the value's is undefined: both numbers are there, and equal.
abbrev pub DefinedRowsSound : Type 0
DefinedRowsSound =
    (g : Flow) (walk : List ℕ) (originals inputs : ℕ → ℕ) → Lawful g → Ordered g walk → InputsFit g originals
    → (v : ℕ) → In walk v → has_row (shape g v) ≡ true → VariablesCarry g walk originals inputs (row_of g walk v)
    → ((r : ℕ) → r ≤ row_of g walk v → is_some (row_number (translation g walk) inputs r) ≡ true)
    → (n : ℕ) × (row_number (translation g walk) inputs (row_of g walk v) ≡ Some n) × (number_of g originals v ≡ Some n)

-- the rows of a translation keep the rules of the width check
abbrev pub TranslationFits : Type 0
TranslationFits = (g : Flow) (walk : List ℕ) → Lawful g → Ordered g walk → WidthsPass (translation g walk)

-- each variable row is given a number of its width
abbrev pub RowInputsFit : List Row → (ℕ → ℕ) → Type 0
RowInputsFit rows inputs = (r : ℕ) → (row_at rows r).word ≡ Var → inputs r < 2 ^ (row_at rows r).width

-- the number on a row fits its width
abbrev pub RowNumbersInRange : Type 0
RowNumbersInRange = (rows : List Row) (inputs : ℕ → ℕ) → WidthsPass rows → RowInputsFit rows inputs → (r n : ℕ) → row_number rows inputs r ≡ Some n → n < 2 ^ (row_at rows r).width

-- one value more: its rows come behind those of the walk, over the operands that its values have there
abbrev pub TranslationGrows : Type 0
TranslationGrows =
    (g : Flow) (walk : List ℕ) (v : ℕ) → Lawful g → Ordered g walk → (In walk v → ⊥) → ((k : ℕ) → k < length (uses g v) → In walk (slice_index (uses g v) k))
    → translation g (walk ++ v ∷ []) ≡ translation g walk ++ added_rows g walk v (shape g v)
