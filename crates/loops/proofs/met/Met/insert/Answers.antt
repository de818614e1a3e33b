use Rattle.std.proofs.Common.{◌≡◌, false, get_or, sym, ap, ◌∙◌, arith}
use Rattle.flow.specs.Meaning.{has}
use Rattle.loops.proofs.Meetings.{kept_more}
use Rattle.loops.proofs.met.Met.insert.Goals as goal

pub invariant_of-self : goal.invariant_of-self
invariant_of-self c =
    let m = c.self.inside in
    let w = c.in-Some.node in
    let new : has m.nodes.items w ≡ false =
    sym (c.self.invariant.agree.marked w) ∙ ap (λ i. get_or m.marks i false) (sym c.index.ensures.value) ∙ c.if-not-self-index.true in
    rw c.push.ensures.items (kept_more m.size m.marks m.nodes.items c.index-2.result w c.self.invariant (omega arith) c.in-Some.ensures.1 new c.index-2.ensures.value)
