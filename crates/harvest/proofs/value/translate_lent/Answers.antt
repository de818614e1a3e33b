use Rattle.std.proofs.Common.{◌++◌, drop, ap}
use Rattle.harvest.proofs.Lending.{value_over}
use Rattle.harvest.proofs.value.translate_lent.Goals as goal

pub returns-clause-written : goal.returns-clause-written
returns-clause-written g c alive enough rows =
    value_over c.in_ok-table.table.now c.args.rows.now c.in_ok-table.ensures.cases.same rows (g.G.FlowGraph.meaning c.args.graph.now) c.args.value c.translate_within.new.rows c.translate_within.result (c.translate_within.ensures.written alive)

pub returns-clause-cleared : goal.returns-clause-cleared
returns-clause-cleared g c alive enough rows = ap (λ l. l ++ drop 1024 c.args.marks.now) (c.translate_within.ensures.cleared alive)
