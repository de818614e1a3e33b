-- Directed graphs with few nodes, and their loops. Assumes nothing.
use Rattle.std.specs.Prelude.{◌≡◌, ℕ, ◌<◌, ◌≤◌, true, List, Some, None, Option}
use Rattle.ir.specs.declared.entities.Value.{Value}
use Rattle.flow.specs.Loops.{Path, Loopless}
use Rattle.flow.specs.Meaning.{has}

-- Only nodes, the numbers below the size, have targets. A target may lie past the nodes.
pub record Finite (size : ℕ) (targets : ℕ → List ℕ) : Type 0 where
  pub few : size ≤ 1024
  pub inside : (v w : ℕ) → has (targets v) w ≡ true → v < size

-- the lowest value in a loop, none where there is no loop
abbrev pub LowestLoop : (ℕ → List ℕ) → Option Value → Type 0
LowestLoop targets (Some v) = Path targets v.0 v.0 × ((w : ℕ) → Path targets w w → v.0 ≤ w)
LowestLoop targets None = Loopless targets
