use Rattle.std.proofs.Common.{sym, ap, ◌∙◌}
use Rattle.std.specs.List.{list_any}
use Rattle.flow.specs.Meaning.{def_of}
use Rattle.souper.specs.Counted.{is_counted}
use Rattle.souper.specs.Translation.{shape}
use Rattle.harvest.specs.Roots.{is_operation}
use Rattle.harvest.proofs.Telling.{two_at_hand, none_at_hand}
use Rattle.harvest.proofs.root.told_by_operands.Goals as goal

pub returns-then-has_counted : goal.returns-then-has_counted
returns-then-has_counted g c =
    let flow = g.G.FlowGraph.meaning c.args.graph.now in
    sym (
    two_at_hand flow (g.G.FlowGraph.lawful c.args.graph.now) c.args.v.0 (sym c.is_counted.ensures ∙ c.if-is_counted.true)
    (ap (list_any (λ u. is_counted (shape flow u))) (sym c.value_args-args.ensures) ∙ sym c.has_counted.ensures ∙ c.if-has_counted.true)
    )

pub returns-else-has_operation : goal.returns-else-has_operation
returns-else-has_operation g c =
    let flow = g.G.FlowGraph.meaning c.args.graph.now in
    sym (
    none_at_hand flow (g.G.FlowGraph.lawful c.args.graph.now) c.args.v.0
    (ap (list_any (λ u. is_operation (def_of flow u))) (sym c.value_args-args.ensures) ∙ sym c.has_operation.ensures ∙ c.if-has_operation.false)
    )
