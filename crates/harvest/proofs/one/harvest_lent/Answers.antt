use Rattle.std.proofs.Common.{◌++◌, drop, ap}
use Rattle.harvest.proofs.Lending.{one_over}
use Rattle.harvest.proofs.one.harvest_lent.Goals as goal

pub returns-clause-answered : goal.returns-clause-answered
returns-clause-answered g c alive enough rows int =
    one_over c.in_ok-table.table.now c.args.rows.now c.in_ok-table.ensures.cases.same rows (g.G.FlowGraph.meaning c.args.graph.now) c.args.value c.harvest_integer.new.rows c.harvest_integer.result (c.harvest_integer.ensures.answered alive int)

pub returns-clause-cleared : goal.returns-clause-cleared
returns-clause-cleared g c alive enough rows = ap (λ l. l ++ drop 1024 c.args.marks.now) (c.harvest_integer.ensures.cleared alive)
