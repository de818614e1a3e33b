use Rattle.std.proofs.Common.{◌≡◌, true, false, sym, refl, ◌∙◌, rules}
use Rattle.harvest.proofs.Telling.{no_two, two_live, two_there}
use Rattle.harvest.proofs.one.harvest_integer.Goals as goal

pub returns-then-not-reaches_two-clause-answered : goal.returns-then-not-reaches_two-clause-answered
returns-then-not-reaches_two-clause-answered g c alive integer =
    let flow = g.G.FlowGraph.meaning c.args.graph.now in
    let no' : c.reaches_two.result ≡ false = search rules in
    (no_two flow (g.G.FlowGraph.lawful c.args.graph.now) c.args.value.0 (sym c.reaches_two.ensures ∙ no'), refl)

pub invariant_of-write : goal.invariant_of-write
invariant_of-write g c =
    let flow = g.G.FlowGraph.meaning c.args.graph.now in
    let two : c.reaches_two.result ≡ true = search rules in
    record { alive = two_live flow (g.G.FlowGraph.lawful c.args.graph.now) c.args.value.0 (sym c.reaches_two.ensures ∙ two) }

pub returns-clause-answered : goal.returns-clause-answered
returns-clause-answered g c alive integer =
    let flow = g.G.FlowGraph.meaning c.args.graph.now in
    let two : c.reaches_two.result ≡ true = search rules in
    (two_there flow (g.G.FlowGraph.lawful c.args.graph.now) c.args.value.0 (sym c.reaches_two.ensures ∙ two), c.write.ensures.root, c.write.ensures.written)
