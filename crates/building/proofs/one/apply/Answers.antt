use Rattle.std.proofs.Common.{ℕ, length, sym, ap, ◌∙◌, rules}
use Rattle.rows.specs.Rows.{Rows}
use Rattle.calls.specs.Calls.{Call, ChangeToAlias, call_of}
use Rattle.calls.specs.declared.answer.Answer.TheVariants.{Done}
use Rattle.dfg.specs.Plain.{plain}
use Rattle.plain.specs.Feed.{refusal, answered, answer_to}
use Rattle.plain.proofs.Feeding.{mapped}
use Rattle.building.proofs.one.apply.Goals as goal

pub returns-in-ChangeToAlias-clause-value : goal.returns-in-ChangeToAlias-clause-value
returns-in-ChangeToAlias-clause-value c =
    let m : ℕ = length c.args.marks.now in
    let p : Rows = plain c.args.graph.now in
    let call : Call = ChangeToAlias c.in-ChangeToAlias.dest c.in-ChangeToAlias.src in
    mapped (refusal p m call) (tt {0}) Done c.change_to_alias.result _ _ c.change_to_alias.ensures.value c.map-in-ChangeToAlias.ensures.cases (λ b h. search rules)
    ∙ sym (ap (λ k. answered m p k (answer_to p k)) (ap call_of c.in-ChangeToAlias.is))
