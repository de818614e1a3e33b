use Rattle.loops.proofs.Meetings.{none_left}
use Rattle.loops.proofs.met.Met.clear.Goals as goal

pub invariant_of-self : goal.invariant_of-self
invariant_of-self c =
    rw (c.clear.ensures, c.unmark.ensures) (none_left c.self.inside.size c.self.inside.marks c.self.inside.nodes.items c.self.invariant c.self.told)
