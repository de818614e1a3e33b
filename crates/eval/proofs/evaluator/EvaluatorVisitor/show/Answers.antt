use Rattle.std.proofs.Common.{◌≡◌, length, rules}
use Rattle.eval.proofs.Evaluating.{evaluated_more, evaluated_stops}
use Rattle.eval.proofs.evaluator.EvaluatorVisitor.show.Goals as goal

pub returns-in_default : goal.returns-in_default
returns-in_default g c = λ a shown f. evaluated_stops _ _ (g.G.FlowGraph.lawful a.graph.now) _ _ shown _ c.args.v.0 f c.in_default.ensures

pub returns : goal.returns
returns g c = λ a shown f.
    let long : length c.args.self.now.numbers ≡ 1024 = search rules in
    rw c.put.ensures (evaluated_more _ _ (g.G.FlowGraph.lawful a.graph.now) _ _ shown _ c.args.v.0 f c.in-Some.number c.in-Some.ensures long)
