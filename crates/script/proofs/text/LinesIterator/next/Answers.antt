use Rattle.std.proofs.Common.{length, ap, sym, ◌∙◌, rules, tests, refl}
use Rattle.std.proofs.lemmas.List.Sorted.{answers_always}
use Rattle.script.specs.Text.{is_feed, lines}
use Rattle.script.proofs.Pieces.{next_line, text_behind}
use Rattle.script.proofs.text.LinesIterator.next.Goals as goal

pub returns-clause-steps : goal.returns-clause-steps
returns-clause-steps c =
    let a = c.in_ok-line.ensures.steps in
    let behind = text_behind c.next-2.result _ c.next.new.self.parts.done c.next-2.new.self.parts.done c.next.new.self.parts.rest.now c.next-2.new.self.parts.rest.now c.next.new.self.count _ (search rules) refl c.next-2.ensures.steps.1 in
    sym c.self.view_is ∙ ap lines (sym c.splitn-parts.ensures.rest)
    ∙ next_line _ c.in_ok-line.line.now _ _ c.next.new.self.parts.done (search rules) a.1.2 (a.1.4 (search rules) is_feed (answers_always _ _ _ (λ f a r k h. search (rules, tests)))).1 (ap (λ x. x.now) c.unwrap_or-self-inside.ensures ∙ behind)

pub returns-clause-goes : goal.returns-clause-goes
returns-clause-goes c = let e = returns-clause-steps c in search (rules, ap length e)
