use Rattle.std.proofs.Common.{◌≡◌}
use Rattle.ir.specs.Entities.{values}
use Rattle.loops.specs.Meeting.{meet_all}
use Rattle.loops.proofs.met.Met.insert_all.Given as goal

-- the targets that are left do the rest
abbrev pub invariant-loop-w : goal.invariant-loop-w
invariant-loop-w l =
    (l.self.size ≡ l.fn.self.size) × (meet_all l.self.size l.self.nodes (values l.w-iterator) ≡ meet_all l.fn.self.size l.fn.self.nodes (values l.fn.targets))
