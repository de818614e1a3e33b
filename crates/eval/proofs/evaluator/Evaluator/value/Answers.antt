use Rattle.std.proofs.Common.{sym}
use Rattle.eval.proofs.Operations.{first_operand_width}
use Rattle.eval.proofs.evaluator.Evaluator.value.Goals as goal

pub operation-requires : goal.operation-requires
operation-requires g c =
    let graph = c.args.self.now.graph.now in
    first_operand_width (g.G.FlowGraph.meaning graph) (g.G.FlowGraph.lawful graph) c.args.v.0 _ _ _ (sym c.in-Operation.ensures)
