use Rattle.std.proofs.Common.{◌≡◌, ◌+◌, ◌*◌, ◌<◌, ◌∙◌, length, arith, rules}
use Rattle.std.proofs.lemmas.Result.{err_from_is_err_and}
use Rattle.walk.proofs.Turns.{visited, stopped, met_again, new, done}
use Rattle.walk.proofs.root.LiveRoot.go_on.Goals as goal

pub returns-in_default-clause-went : goal.returns-in_default-clause-went
returns-in_default-clause-went g c = λ a w. done (search rules) (c.loop-stack.invariant.walking a w)

pub returns-in_default-clause-safe : goal.returns-in_default-clause-safe
returns-in_default-clause-safe g c = done (search rules) c.loop-stack.invariant.safe

pub loop-stack-preserved-in-Continue-1 : goal.loop-stack-preserved-in-Continue-1
loop-stack-preserved-in-Continue-1 g c = record {
  walking = λ a w. visited _ _ c.in-Some.ensures.items c.in-Visit.is (c.loop-stack.invariant.walking a w) c.mark.ensures.after (c.in_ok-show-in-Visit.ensures a);
  safe = visited _ _ c.in-Some.ensures.items c.in-Visit.is c.loop-stack.invariant.safe c.mark.ensures.after (λ shown fits. tt);
  same_reference = c.mark.ensures.same_reference ∙ c.loop-stack.invariant.same_reference;
}

pub returns-in_err-show-in-Visit-clause-went : goal.returns-in_err-show-in-Visit-clause-went
returns-in_err-show-in-Visit-clause-went g c = λ a w.
    let p = err_from_is_err_and c.from_residual.result c.from_residual.ensures.1 in
    rw (p.1, p.2) (stopped _ _ c.in-Some.ensures.items c.in-Visit.is (c.loop-stack.invariant.walking a w) (c.in_err-show-in-Visit.ensures a))

pub returns-in_err-show-in-Visit-clause-safe : goal.returns-in_err-show-in-Visit-clause-safe
returns-in_err-show-in-Visit-clause-safe g c =
    let p = err_from_is_err_and c.from_residual.result c.from_residual.ensures.1 in
    rw p.1 (stopped _ _ c.in-Some.ensures.items c.in-Visit.is c.loop-stack.invariant.safe (λ shown fits. tt))

pub loop-stack-preserved-then-not-is_marked : goal.loop-stack-preserved-then-not-is_marked
loop-stack-preserved-then-not-is_marked g c = record {
  walking = λ a w. new _ c.in-Some.ensures.items c.in-Trace.is (c.loop-stack.invariant.walking a w) c.if-not-is_marked.ensures c.expand.ensures;
  safe = new _ c.in-Some.ensures.items c.in-Trace.is c.loop-stack.invariant.safe c.if-not-is_marked.ensures c.expand.ensures;
  same_reference = c.loop-stack.invariant.same_reference;
}

pub loop-stack-preserved : goal.loop-stack-preserved
loop-stack-preserved g c = record {
  walking = λ a w. met_again _ c.in-Some.ensures.items c.in-Trace.is (c.loop-stack.invariant.walking a w) c.if-not-is_marked.ensures;
  safe = met_again _ c.in-Some.ensures.items c.in-Trace.is c.loop-stack.invariant.safe c.if-not-is_marked.ensures;
  same_reference = c.loop-stack.invariant.same_reference;
}

pub returns-clause-went : goal.returns-clause-went
returns-clause-went g c = λ a w. (c.loop-stack.invariant.walking a w, search rules)
