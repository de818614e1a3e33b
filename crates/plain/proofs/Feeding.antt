-- A list of calls with one call more, and one call's answers. Assumes nothing.
use Rattle.std.proofs.Common.{◌≡◌, ℕ, List, [], ◌∷◌, ◌++◌, Some, None, Ok, Err, Option, Result, sym, refl, ap, ◌∙◌, subst}
use Rattle.std.specs.Result.{MatchResult, IsOkAnd}
use Rattle.ir.specs.declared.refusal.Refusal.{Refusal}
use Rattle.rows.specs.Rows.{Rows}
use Rattle.calls.specs.Calls.{Call}
use Rattle.ir.specs.Refusals.{answer_unless}
use Rattle.plain.specs.Feed.{refusal, grown, fed, fed_with, fed_unless, fed_all, answered, answer_to, answers_to}

pub fed_more : (p : Rows) (cs : List Call) (c : Call) → fed_all p (cs ++ c ∷ []) ≡ fed (fed_all p cs) c
fed_more p [] c = refl
fed_more p (x ∷ cs) c = fed_more (fed p x) cs c

pub answers_more : (p : Rows) (cs : List Call) (c : Call) → answers_to p (cs ++ c ∷ []) ≡ answers_to p cs ++ answered 1024 (fed_all p cs) c (answer_to (fed_all p cs) c) ∷ []
answers_more p [] c = refl
answers_more p (x ∷ cs) c = ap (λ l. answered 1024 p x (answer_to p x) ∷ l) (answers_more (fed p x) cs c)

-- ---- one answer for another

-- what a call leaves and answers where it is refused, and where it is not
module _ {A : Type 0} (marks : ℕ) (p : Rows) (c : Call) (x : A) where
  pub call_refused : (why : Refusal) → refusal p marks c ≡ Some why → (p ≡ fed_with marks p c) × (Err why ≡ answered marks p c x)
  call_refused why r = (sym (ap (λ o. fed_unless o p (grown p c)) r), sym (ap (λ o. answer_unless o x) r))

  pub call_done : refusal p marks c ≡ None → (grown p c ≡ fed_with marks p c) × (Ok x ≡ answered marks p c x)
  call_done r = (sym (ap (λ o. fed_unless o p (grown p c)) r), sym (ap (λ o. answer_unless o x) r))

-- what maps an answer keeps its refusal, and answers what it makes
pub mapped : {A B : Type 0} (o : Option Refusal) (x : A) (y : B) (r : Result A Refusal) (out : Result B Refusal) (P : A → B → Type 0) → r ≡ answer_unless o x
    → MatchResult r (λ a. IsOkAnd out (P a)) (λ e. out ≡ Err e) → ((b : B) → P x b → b ≡ y) → out ≡ answer_unless o y
mapped None x y (Ok a) (Ok b) P e h f = let same : a ≡ x = cc in ap Ok (f b (subst (λ z. P z b) same h))
mapped None x y (Ok a) (Err w) P e h f = absurd h
mapped None x y (Err w) out P e h f = cc
mapped (Some w) x y (Ok a) out P e h f = cc
mapped (Some w) x y (Err v) out P e h f = let same : v ≡ w = cc in h ∙ ap Err same
