use Rattle.std.proofs.Common.{◌++◌, List, ℕ, drop, replicate, sym, ap, ◌∙◌}
use Rattle.std.proofs.lemmas.Result.{err_from_is_err_and}
use Rattle.ir.proofs.Options.{none_is_no_some}
use Rattle.eval.proofs.Answers.{alive_if_asked, nothing_stands, passed_first, refused_first, something_stands, cleared_twice}
use Rattle.eval.proofs.values.ir_number.Goals as goal

pub returns-in_err-check-clause-walked : goal.returns-in_err-check-clause-walked
returns-in_err-check-clause-walked g c = λ none. absurd (something_stands _ _ c.in_err-check.ensures none)

pub returns-in_err-check_inputs-clause-answer : goal.returns-in_err-check_inputs-clause-answer
returns-in_err-check_inputs-clause-answer g c =
    let p = err_from_is_err_and c.from_residual-in_err-check_inputs.result c.from_residual-in_err-check_inputs.ensures.1 in
    rw (p.1, p.2) (refused_first _ _ _ _ c.in_err-check_inputs.ensures.answer ∙ passed_first _ _ _ _ c.in_ok-check.ensures)

pub returns-in_err-check_inputs-clause-unwalked : goal.returns-in_err-check_inputs-clause-unwalked
returns-in_err-check_inputs-clause-unwalked g c = λ why some. none_is_no_some why (sym (nothing_stands _ _ c.in_ok-check.ensures) ∙ some)

pub work_out-requires-clause-alive : goal.work_out-requires-clause-alive
work_out-requires-clause-alive g c = alive_if_asked _ c.args.inputs.now c.args.v.0 _ (nothing_stands _ _ c.in_ok-check.ensures)

pub returns-clause-answer : goal.returns-clause-answer
returns-clause-answer g c =
    c.work_out.ensures.answer ∙ passed_first _ _ _ _ c.in_ok-check_inputs.ensures.answer ∙ passed_first _ _ _ _ c.in_ok-check.ensures

pub returns-clause-unwalked : goal.returns-clause-unwalked
returns-clause-unwalked g c = λ why some. none_is_no_some why (sym (nothing_stands _ _ c.in_ok-check.ensures) ∙ some)

pub returns-clause-walked : goal.returns-clause-walked
returns-clause-walked g c = λ none.
    c.work_out.ensures.marks ∙ ap (λ (l : List ℕ). replicate 1024 0 ++ drop 1024 l) c.in_ok-check_inputs.ensures.marks ∙ cleared_twice c.args.marks.now
