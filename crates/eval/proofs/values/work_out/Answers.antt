use Rattle.std.proofs.Common.{length}
use Rattle.eval.proofs.Evaluating.{worked_out, stopped_at}
use Rattle.eval.proofs.values.work_out.Goals as goal

pub returns-in-Ok-clause-answer : goal.returns-in-Ok-clause-answer
returns-in-Ok-clause-answer g c =
    let graph = c.args.graph.now in
    rw c.number_at.ensures
    (worked_out (g.G.FlowGraph.meaning graph) _ (g.G.FlowGraph.lawful graph) c.args.inputs.now _ _ c.args.v.0 c.requires.alive c.in-Ok.ensures.walked.shown)

pub returns-in-Err-clause-answer : goal.returns-in-Err-clause-answer
returns-in-Err-clause-answer g c =
    let graph = c.args.graph.now in
    rw c.refusal.ensures
    (stopped_at (g.G.FlowGraph.meaning graph) (g.G.FlowGraph.lawful graph) c.args.inputs.now c.args.v.0 (length c.args.marks.now) _ (λ _. Unit {0}) c.requires.alive c.requires.room c.in-Err.error c.in-Err.ensures.walked)
