use Rattle.std.proofs.Common.{◌≡◌, ◌+◌, ◌*◌}
use Rattle.arrayvec.specs.ArrayVec.{array_vec_len}
use Rattle.loops.specs.Ranks.{unopened}
use Rattle.loops.proofs.dfs.Dfs.rank_from.Given as goal

-- the graph stays the same
abbrev pub invariant-loop-v : goal.invariant-loop-v
invariant-loop-v g l = l.self.size ≡ l.initial.self.size

-- a node that is opened pushes three at most
abbrev pub decreases-loop-v : goal.decreases-loop-v
decreases-loop-v g l = 4 * unopened l.self.states + array_vec_len l.self.stack
