use Rattle.std.proofs.Common.{◌≡◌, ℕ, ◌+◌, List, [], ◌∷◌, ◌++◌, map, length, take, sym, ap, ◌∙◌, arith}
use mathlib.Core.List.{map-append}
use Rattle.std.proofs.lemmas.List.{take_all, take_more}
use Rattle.rows.specs.Rows.{Rows, empty}
use Rattle.calls.specs.Calls.{call_of}
use Rattle.calls.specs.declared.call.BuildCall.{BuildCall}
use Rattle.dfg.specs.Plain.{plain}
use Rattle.plain.specs.Feed.{fed, fed_with, fed_all, answers_to, answered, answer_to}
use Rattle.plain.proofs.Feeding.{fed_more, answers_more}
use Rattle.building.proofs.list.build.Goals as goal

pub loop-call-preserved : goal.loop-call-preserved
loop-call-preserved c =
    let calls : List BuildCall = c.args.calls.now in
    let i : ℕ = c.loop-call.call-index in
    let call : BuildCall = c.call-item.result in
    let p : Rows = plain c.loop-call.graph in
    let long : length c.loop-call.marks ≡ 1024 = c.loop-call.invariant.marks in
    let more : map call_of (take (i + 1) calls) ≡ map call_of (take i calls) ++ call_of call ∷ [] =
    ap (map call_of) (take_more calls i call c.loop-call-test.true ∙ ap (λ x. take i calls ++ x ∷ []) (sym c.call-item.is)) ∙ map-append call_of (take i calls) (call ∷ []) in
    let before : p ≡ fed_all empty (map call_of (take i calls)) = c.loop-call.invariant.graph in
    record {
      graph =
          c.apply.ensures.after ∙ ap (λ n. fed_with n p (call_of call)) long ∙ ap (λ q. fed q (call_of call)) before
          ∙ sym (ap (fed_all empty) more ∙ fed_more empty (map call_of (take i calls)) (call_of call));
      answers =
          c.in_ok-push.ensures.items
          ∙ ap (λ l. l ++ c.apply.result ∷ []) c.loop-call.invariant.answers
          ∙ ap (λ r. answers_to empty (map call_of (take i calls)) ++ r ∷ [])
          (c.apply.ensures.value ∙ ap (λ n. answered n p (call_of call) (answer_to p (call_of call))) long ∙ ap (λ q. answered 1024 q (call_of call) (answer_to q (call_of call))) before)
          ∙ sym (ap (answers_to empty) more ∙ answers_more empty (map call_of (take i calls)) (call_of call));
      marks = c.apply.auto.marks ∙ long;
    }

pub returns : goal.returns
returns c =
    let all = take_all c.loop-call.call-index c.args.calls.now (omega arith) in
    record {
      graph = c.loop-call.invariant.graph ∙ ap (λ l. fed_all empty (map call_of l)) all;
      answers = c.loop-call.invariant.answers ∙ ap (λ l. answers_to empty (map call_of l)) all;
    }
