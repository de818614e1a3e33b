-- How many nodes a depth-first search may still open. Assumes nothing.
use Rattle.std.proofs.Common.{ℕ, ◌<◌, ◌≤◌, cond, List, length, set, arith}
use Rattle.std.proofs.lemmas.List.Sums.{sum_by-set}
use Rattle.loops.specs.Ranks.{is_new, unopened}
use Rattle.loops.specs.declared.dfs.State.{State}
use Rattle.loops.specs.declared.dfs.State.TheVariants.{New, Finished}

-- no more than before, once a node is finished
pub no_more : (states : List State) (i : ℕ) → i < length states → unopened (set states i Finished) ≤ unopened states
no_more states i low =
    omega (arith, sum_by-set (λ s. cond (is_new s) 1 0) states i Finished New low)
