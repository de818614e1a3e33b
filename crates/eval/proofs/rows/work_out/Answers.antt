use Rattle.std.proofs.Common.{◌≡◌, ℕ, ◌+◌, Some, None, Ok, Option, unwrap_or, sym, refl, ap, ◌∙◌, arith}
use Rattle.eval.specs.RowAnswer.{first_undefined}
use Rattle.eval.proofs.Numbering.{undefined_same}
use Rattle.eval.proofs.rows.work_out.Goals as goal

pub returns-in-Some : goal.returns-in-Some
returns-in-Some c =
    let first : first_undefined c.args.rows.now c.args.inputs.now (c.args.row + 1) ≡ Some c.in-Some.place =
    sym (c.in-Some.ensures ∙ undefined_same c.args.rows.now c.args.inputs.now c.numbers_on-numbers.result (c.args.row + 1) c.numbers_on-numbers.ensures) in
    rw first refl

pub returns-in-None : goal.returns-in-None
returns-in-None c =
    let first : first_undefined c.args.rows.now c.args.inputs.now (c.args.row + 1) ≡ None =
    sym (c.in-None.ensures ∙ undefined_same c.args.rows.now c.args.inputs.now c.numbers_on-numbers.result (c.args.row + 1) c.numbers_on-numbers.ensures) in
    rw first (ap Ok (c.unwrap_or.ensures ∙ ap (λ (o : Option ℕ). unwrap_or o 0) (c.number_on.ensures ∙ c.numbers_on-numbers.ensures c.args.row (omega arith))))
