-- What the visitors that look for loops have found. Assumes nothing.
use Rattle.std.specs.Prelude.{◌≡◌, ℕ, ◌<◌, Bool, false, not, ◌&&◌, List, [], length, ◌==◌, slice_index_or, refl}
use Rattle.flow.specs.Meaning.{has}
use Rattle.flow.specs.Walk.{Topological}
use Rattle.rows.specs.Meaning.{flow}
use Rattle.rows.specs.Rows.{Rows}
use Rattle.dfg.specs.Plain.{plain}
use Rattle.dfg.specs.declared.alias_loops.NewAlias.{NewAlias}
use Rattle.plain.specs.Loops.{any_through, reaches_through}

-- an alias finder that was shown some values and has not stopped: the aliases of none lead through the destination
pub record NoneThrough (a : NewAlias) (shown : List ℕ) (b : NewAlias) : Type 0 where
  pub same : b ≡ a
  pub none : any_through (plain a.graph.now).values a.dest.0 shown ≡ false

pub none_yet : (a : NewAlias) → NoneThrough a [] a
none_yet a = record { same = refl; none = refl }

-- marked are, among the values shown, those that reach a value whose aliases lead through d
pub record MarksOf (p : Rows) (d : ℕ) (shown : List ℕ) (marked : List Bool) : Type 0 where
  pub long : length marked ≡ 1024
  pub each : (u : ℕ) → u < 1024 → slice_index_or marked u false ≡ (has shown u && reaches_through p d u)

-- a loop marker after it was shown some values, each behind what it uses
pub record Marked (a : NewAlias) (before : List Bool) (shown : List ℕ) (b : NewAlias) (after : List Bool) : Type 0 where
  pub same : b ≡ a
  pub marks : MarksOf (plain a.graph.now) a.dest.0 [] before → Topological (flow (plain a.graph.now)) shown
      → MarksOf (plain a.graph.now) a.dest.0 shown after

pub unmarked : (a : NewAlias) (marked : List Bool) → Marked a marked [] a marked
unmarked a marked = record { same = refl; marks = λ none order. none }

-- is v marked, and not the root
abbrev pub marked_but : List Bool → ℕ → ℕ → Bool
marked_but marked root v = not (v == root) && slice_index_or marked v false
