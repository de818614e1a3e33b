use Rattle.std.proofs.Common.{sym, arith}
use Rattle.harvest.proofs.Counting.{all_counted}
use Rattle.harvest.proofs.Telling.{none_dead, refused}
use Rattle.harvest.proofs.root.count_operations.Goals as goal

pub returns-in_default : goal.returns-in_default
returns-in_default g c =
    let flow = g.G.FlowGraph.meaning c.args.graph.now in
    let lawful = g.G.FlowGraph.lawful c.args.graph.now in
    sym (none_dead flow lawful c.args.v.0 (refused flow lawful c.args.v.0 _ (λ _. Unit {0}) c.in_default.field-0 (omega arith) c.in_default.ensures.walked))

pub returns : goal.returns
returns g c =
    let done = c.in-Ok.ensures.walked in
    all_counted (g.G.FlowGraph.meaning c.args.graph.now) (g.G.FlowGraph.lawful c.args.graph.now) c.args.v.0 done.alive _ _ done.shown
