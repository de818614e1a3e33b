-- The rows of a value over a table of row numbers, as the translator writes them. Assumes nothing.
use Rattle.std.specs.Prelude.{ℕ, ◌+◌, List, [], ◌∷◌, slice_index, slice_set}
use Rattle.flow.specs.Meaning.{Flow}
use Rattle.souper.specs.Translation.{operand_at, shape}
use Rattle.souper.specs.declared.rows.Operand.{Operand}
use Rattle.souper.specs.declared.rows.Row.{Row}

-- a value as an operand, by a table of row numbers
abbrev pub placed_operand : Flow → List ℕ → ℕ → Operand
placed_operand g places v = operand_at g v (slice_index places v) (shape g v)

-- a table of rows with others put over those from the row `start` on
abbrev pub put : List Row → ℕ → List Row → List Row
put table start [] = table
put table start (row ∷ rows) = put (slice_set table start row) (start + 1) rows
