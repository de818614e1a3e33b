use Rattle.std.proofs.Common.{◌≡◌}
use Rattle.loops.proofs.dfs.Dfs.rank_all.Given as goal

abbrev pub invariant-loop-v : goal.invariant-loop-v
invariant-loop-v g l = l.self.size ≡ l.initial.self.size
