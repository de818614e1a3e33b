-- What a search has met. Assumes nothing.
use Rattle.std.specs.Prelude.{◌≡◌, ℕ, ◌+◌, ◌<◌, ◌≤◌, Bool, true, false, cond, not, ◌&&◌, List, [], ◌∷◌, ◌++◌, length, count_by, nat_lt, slice_index_or}
use Rattle.flow.specs.Loops.{Path}
use Rattle.flow.specs.Meaning.{has}

-- what is marked is what was met, and there is a place for each node that was not
pub record Marks (marks : List Bool) (met : List ℕ) : Type 0 where
  pub room : length met + count_by not marks ≡ 1024
  pub marked : (w : ℕ) → slice_index_or marks w false ≡ has met w

-- what a search has met in a graph with so many nodes, in order
pub record Meeting : Type 0 where
  pub size : ℕ
  pub nodes : List ℕ

-- how it keeps that: nodes alone, and they are what is marked
pub record Kept (size : ℕ) (marks : List Bool) (met : List ℕ) : Type 0 where
  pub few : size ≤ 1024
  pub inside : (w : ℕ) → has met w ≡ true → w < size
  pub agree : Marks marks met

-- w is met too, if it is a node that was not met before
unfoldable pub meet : ℕ → List ℕ → ℕ → List ℕ
meet size met w = cond (nat_lt w size && not (has met w)) (met ++ (w ∷ [])) met

abbrev pub meet_all : ℕ → List ℕ → List ℕ → List ℕ
meet_all size met [] = met
meet_all size met (w ∷ ws) = meet_all size (meet size met w) ws

-- met are the nodes that v reaches in one step or more
pub record Reached (size : ℕ) (targets : ℕ → List ℕ) (v : ℕ) (met : List ℕ) : Type 0 where
  pub reached : (w : ℕ) → has met w ≡ true → Path targets v w
  pub complete : (w : ℕ) → w < size → Path targets v w → has met w ≡ true
