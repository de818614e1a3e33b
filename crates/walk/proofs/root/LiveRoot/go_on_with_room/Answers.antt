use Rattle.std.proofs.Common.{◌≡◌, ◌++◌, ap, ◌∙◌, rules}
use Rattle.std.proofs.lemmas.Result.{err_from_is_err_and}
use Rattle.walk.proofs.Turns.{at_end}
use Rattle.walk.proofs.root.LiveRoot.go_on_with_room.Goals as goal

pub returns-in_err-steps-clause-went : goal.returns-in_err-steps-clause-went
returns-in_err-steps-clause-went g c = λ a w.
    let same : c.try_extend_from_slice.new.self.items ≡ c.args.entries.now = c.in-Ok.ensures.ok ∙ ap (λ l. l ++ c.args.entries.now) c.new-stack.ensures in
    let p = err_from_is_err_and c.from_residual.result c.from_residual.ensures.1 in
    rw (p.1, p.2) (c.in_err-steps.ensures.went a (rw same w))

pub returns-clause-went : goal.returns-clause-went
returns-clause-went g c = λ a w.
    let same : c.try_extend_from_slice.new.self.items ≡ c.args.entries.now = c.in-Ok.ensures.ok ∙ ap (λ l. l ++ c.args.entries.now) c.new-stack.ensures in
    at_end _ _ _ _ _ _ _ _ c.in-Done.is (c.in_ok-steps.ensures.went a (rw same w))
