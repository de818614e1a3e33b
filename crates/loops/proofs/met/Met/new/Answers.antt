use Rattle.std.proofs.Common.{ℕ, List, false, replicate, sym, subst}
use Rattle.loops.specs.Meeting.{Kept}
use Rattle.loops.proofs.Meetings.{none_kept}
use Rattle.loops.proofs.met.Met.new.Goals as goal

pub invariant_of-result : goal.invariant_of-result
invariant_of-result c = subst (λ (met : List ℕ). Kept c.args.size (replicate 1024 false) met) (sym c.new.ensures) (none_kept c.args.size c.requires)
