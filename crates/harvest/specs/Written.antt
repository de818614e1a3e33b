-- The rows and counts of a root, and what is written of them into a table. Assumes nothing.
use Rattle.std.specs.Prelude.{◌≡◌, ℕ, ◌+◌, ◌^◌, ◌<◌, ◌≤◌, true, ◌↔◌, List, ◌++◌, length, drop, is_some, Some, None, Ok, Err, Option, Result}
use Rattle.ir.specs.declared.entities.Value.{Value}
use Rattle.ir.specs.declared.refusal.Refusal.{Refusal}
use Rattle.flow.specs.Meaning.{Flow, Reach, width_of, original_of, def_of}
use Rattle.flow.specs.declared.definition.ValueDef.TheVariants.{Variable}
use Rattle.flow.specs.Number.{number_of}
use Rattle.flow.specs.Walk.{walk, step_count, operand_count, In, Reached}
use Rattle.souper.specs.Check.{width_check}
use Rattle.souper.specs.Counted.{counted}
use Rattle.souper.specs.Rows.{row_number}
use Rattle.souper.specs.Soundness.{VariablesCarry}
use Rattle.souper.specs.Translation.{has_row, shape, row_of, translation}
use Rattle.souper.specs.WalkRows.{RowsOfWalk}
use Rattle.souper.specs.declared.rows.Row.{Row}
use Rattle.harvest.specs.Roots.{ReachesTwo}
use Rattle.harvest.specs.declared.written.Written.{Written}

-- each variable that the root reaches is given, at its original, a number of its width
abbrev pub ReachedFit : Flow → ℕ → (ℕ → ℕ) → Type 0
ReachedFit g root originals = (u : ℕ) → Reach g root u → def_of g u ≡ Variable → originals (original_of g u) < 2 ^ width_of g u

-- The rows of a root mean what its values mean. Whatever numbers are given to the originals of the variables that it reaches, within their widths, and to the
-- variable rows: if the variable rows up to the row of a reached value carry their values' numbers, and no row up to it is undefined,
-- then the number on the row is the value's number.
abbrev pub RowsSound : Flow → ℕ → List Row → Type 0
RowsSound g root rows =
    (originals inputs : ℕ → ℕ) → ReachedFit g root originals → (v : ℕ) → Reach g root v → has_row (shape g v) ≡ true
    → VariablesCarry g (walk g root) originals inputs (row_of g (walk g root) v)
    → ((r : ℕ) → r ≤ row_of g (walk g root) v → is_some (row_number rows inputs r) ≡ true)
    → row_number rows inputs (row_of g (walk g root) v) ≡ number_of g originals v

-- The rows of a root, and how many counted operations and steps there are.
pub record LhsOf (g : Flow) (root : ℕ) (rows : List Row) (operations steps : ℕ) : Type 0 where
  -- the rows are those of the root's walk, which has just what the root reaches
  pub translated : rows ≡ translation g (walk g root)
  pub reached : (v : ℕ) → In (walk g root) v ↔ Reach g root v
  -- what they are: one for each value reached but constants, a variable exactly where there is no translation, the named helpers
  pub rows_of_walk : RowsOfWalk g (walk g root) rows
  pub checked : width_check rows ≡ Ok tt
  pub sound : RowsSound g root rows
  -- the root's row is the last; what reaches two counted operations has one
  pub root_row : has_row (shape g root) ≡ true → row_of g (walk g root) root + 1 ≡ length rows
  pub root_has_row : ReachesTwo g root → has_row (shape g root) ≡ true
  -- the counts, over any list of the values reached
  pub operations_are : (vs : List ℕ) → Reached g root vs → operations ≡ counted g vs
  pub steps_are : (vs : List ℕ) → Reached g root vs → steps ≡ 1 + (length vs + operand_count g vs)
  pub operations_of_walk : operations ≡ counted g (walk g root)
  pub steps_of_walk : steps ≡ step_count g root

-- What was written of a root: its rows come first in the table, and behind them is what was there before.
pub record WrittenOf (g : Flow) (before after : List Row) (w : Written) : Type 0 where
  pub count : w.rows ≡ length (translation g (walk g w.root.0))
  pub few : w.rows ≤ 2048
  pub table : after ≡ translation g (walk g w.root.0) ++ drop w.rows before
  pub lhs : LhsOf g w.root.0 (translation g (walk g w.root.0)) w.counted w.steps

-- ---- one value

-- What the harvest of one integer answers, and what the table then holds. There is nothing where it reaches fewer than two counted operations.
abbrev pub OneValue : Flow → Value → List Row → List Row → Result (Option Written) Refusal → Type 0
OneValue g v before after (Err why) = ⊥
OneValue g v before after (Ok None) = (ReachesTwo g v.0 → ⊥) × (after ≡ before)
OneValue g v before after (Ok (Some w)) = ReachesTwo g v.0 × (w.root ≡ v) × WrittenOf g before after w
