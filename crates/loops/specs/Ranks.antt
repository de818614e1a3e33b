-- How far a depth-first search has come, and the ranks that it leaves. Assumes nothing.
use Rattle.std.specs.Prelude.{◌≡◌, ℕ, Bool, true, false, List, count_by, nat_lt, Option, Some, None, slice_get}
use Rattle.flow.specs.Meaning.{has}
use Rattle.loops.specs.declared.dfs.State.{State}
use Rattle.loops.specs.declared.dfs.State.TheVariants.{New, Open, Finished}

-- the search has not come to the node
abbrev pub is_new : State → Bool
is_new New = true
is_new Open = false
is_new Finished = false

-- how many nodes the search may still open
abbrev pub unopened : List State → ℕ
unopened states = count_by is_new states

-- the first is lower than the second, or is no node's rank
unfoldable pub is_below : Option ℕ → Option ℕ → Bool
is_below None v = true
is_below (Some rank) (Some bound) = nat_lt rank bound
is_below (Some rank) None = false

-- w is no node, or has a lower rank than v
abbrev pub is_lower : List ℕ → ℕ → ℕ → Bool
is_lower ranks v w = is_below (slice_get ranks w) (slice_get ranks v)

-- the ranks of the nodes fall along every step
abbrev pub RanksFall : (ℕ → List ℕ) → List ℕ → Type 0
RanksFall targets ranks = (v w : ℕ) → has (targets v) w ≡ true → is_lower ranks v w ≡ true
