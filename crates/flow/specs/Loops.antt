-- Paths from value to value, and loops. Assumes nothing.
use Rattle.std.specs.Prelude.{◌≡◌, ℕ, ◌≤◌, true, List}
use Rattle.flow.specs.Meaning.{Flow, Reach, uses, has}

-- from v to w in one step or more, where targets tells the steps from each value
pub data Path (targets : ℕ → List ℕ) : ℕ → ℕ → Type 0 where
  one : {v w : ℕ} → has (targets v) w ≡ true → Path targets v w
  more : {v a w : ℕ} → has (targets v) a ≡ true → Path targets a w → Path targets v w

abbrev pub Loopless : (ℕ → List ℕ) → Type 0
Loopless targets = (v : ℕ) → Path targets v v → ⊥

-- a value of a flow graph is in a loop if it uses a value that reaches it
abbrev pub InLoop : Flow → ℕ → Type 0
InLoop g v = (w : ℕ) × (has (uses g v) w ≡ true) × Reach g w v

pub record LowestInLoop (g : Flow) (v : ℕ) : Type 0 where
  pub in_loop : InLoop g v
  pub lowest : (u : ℕ) → InLoop g u → v ≤ u
