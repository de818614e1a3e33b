use Rattle.std.proofs.Common.{◌++◌, length, drop, ap, arith}
use Rattle.std.proofs.lemmas.List.{length-take-le}
use Rattle.harvest.proofs.Lending.{next_over}
use Rattle.harvest.proofs.under_way.Harvest.next_lent.Goals as goal

pub next_within-requires : goal.next_within-requires
next_within-requires g c =
    let first = c.in_ok-table.ensures.cases in
    omega (arith, (g.G.FlowGraph.lawful c.args.self.now.graph.now).few, ap length first.same, length-take-le 2048 c.args.rows.now first.enough)

pub returns-clause-next : goal.returns-clause-next
returns-clause-next g c enough rows =
    next_over c.in_ok-table.table.now c.args.rows.now c.in_ok-table.ensures.cases.same rows (g.G.FlowGraph.meaning c.args.self.now.graph.now) (g.G.LaidOut.layout c.args.self.now.graph.now) c.args.self.now.from c.next_within.new.rows c.next_within.result c.next_within.ensures.next

pub returns-clause-cleared : goal.returns-clause-cleared
returns-clause-cleared g c enough rows = ap (λ l. l ++ drop 1024 c.args.marks.now) c.next_within.ensures.cleared
