use Rattle.std.proofs.Common.{◌≡◌, ◌∙◌, rules}
use Rattle.std.proofs.lemmas.Result.{err_from_is_err_and}
use Rattle.walk.proofs.Turns.{first, at_end, at_full}
use Rattle.walk.proofs.root.LiveRoot.walk.Goals as goal

pub go_on-requires : goal.go_on-requires
go_on-requires g c = (search rules, first (g.G.FlowGraph.lawful c.args.self.now.graph.now) c.args.self.now.alive c.new-marks.ensures.none c.new-stack.ensures c.push.ensures.items tt)

pub returns-in_err-steps-clause-ended : goal.returns-in_err-steps-clause-ended
returns-in_err-steps-clause-ended g c =
    let start = first (g.G.FlowGraph.lawful c.args.self.now.graph.now) c.args.self.now.alive c.new-marks.ensures.none c.new-stack.ensures c.push.ensures.items (g.V.Visitor.starts c.args.visitor.now) in
    let p = err_from_is_err_and c.from_residual.result c.from_residual.ensures.1 in
    rw (p.1, p.2) (c.in_err-steps.ensures.went c.args.visitor.now start)

pub returns-in-Done-clause-ended : goal.returns-in-Done-clause-ended
returns-in-Done-clause-ended g c =
    let start = first (g.G.FlowGraph.lawful c.args.self.now.graph.now) c.args.self.now.alive c.new-marks.ensures.none c.new-stack.ensures c.push.ensures.items (g.V.Visitor.starts c.args.visitor.now) in
    at_end _ _ _ _ _ _ _ _ c.in-Done.is (c.in_ok-steps.ensures.went c.args.visitor.now start)

pub returns-clause-ended : goal.returns-clause-ended
returns-clause-ended g c =
    let start = first (g.G.FlowGraph.lawful c.args.self.now.graph.now) c.args.self.now.alive c.new-marks.ensures.none c.new-stack.ensures c.push.ensures.items (g.V.Visitor.starts c.args.visitor.now) in
    let full = at_full _ _ _ _ _ _ _ _ c.in-Full.is (c.in_ok-steps.ensures.went c.args.visitor.now start) in
    c.go_on_with_room.ensures.went c.args.visitor.now (rw c.as_slice.ensures.value full)
