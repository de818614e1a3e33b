-- What a harvest is. Assumes nothing.
use Rattle.std.specs.Prelude.{◌≡◌, ℕ, true, ◌↔◌, List, [], ◌∷◌, map, vec_items}
use Rattle.std.specs.List.{AllByRecursion}
use Rattle.flow.specs.Layout.{Layout}
use Rattle.flow.specs.Meaning.{Flow, has}
use Rattle.harvest.specs.Candidates.{NextRoot}
use Rattle.harvest.specs.Roots.{IsCandidate, roots, roots_from}
use Rattle.harvest.specs.Written.{LhsOf}
use Rattle.harvest.specs.declared.harvest.Lhs.{Lhs}
use Rattle.harvest.specs.declared.place.Place.{Place}

-- where a harvest begins
abbrev pub start : Place
start = record { block = 0; index = 0 }

-- each is the next from the place behind the one before it, and there is none behind the last
abbrev pub InTurn : Flow → Layout → Place → List Lhs → Type 0
InTurn g l from [] = roots_from g l from ≡ []
InTurn g l from (lhs ∷ rest) = NextRoot g l from lhs.root lhs.next × InTurn g l lhs.next rest

-- The candidates of a graph.
pub record Harvested (g : Flow) (l : Layout) (all : List Lhs) : Type 0 where
  -- they come in layout order, one for each instruction whose single result is a root, and none besides
  pub order : map (λ (lhs : Lhs). lhs.root) all ≡ roots g l
  pub exactly : (v : ℕ) → (has (map (λ (lhs : Lhs). lhs.root.0) all) v ≡ true) ↔ IsCandidate g l v
  -- they are found one after another, each from the place behind the one before
  pub in_turn : InTurn g l start all
  -- each has the rows and the counts of its root
  pub each : AllByRecursion (λ (lhs : Lhs). LhsOf g lhs.root.0 (vec_items lhs.rows) lhs.counted lhs.steps) all
