-- What the answer of a check says of what may stand there. Assumes nothing.
use Rattle.std.proofs.Common.{◌≡◌, ℕ, Some, None, Ok, Err, Option, Result, MatchResult, refl}
use Rattle.std.specs.Result.{IsErrAnd}
use Rattle.ir.specs.declared.refusal.Cause.{Cause}
use Rattle.ir.specs.declared.refusal.Refusal.{Refusal}
use Rattle.ir.specs.Refusals.{checked}

checked_ok : (o : Option Cause) (x : Unit {0}) → Ok x ≡ checked o → o ≡ None
checked_ok None x e = refl
checked_ok (Some why) x e = cc

checked_err : (o : Option Cause) (why : Cause) → Err why ≡ checked o → o ≡ Some why
checked_err None why e = cc
checked_err (Some v) why e = cc

-- what the answer r of a check a, with the place k put to its refusal, says of what may stand there
module _ (o : Option Cause) (k : ℕ) (r : Result (Unit {0}) Refusal) (Q : Cause → Refusal → Type 0) where
  pub refused : (a : Result (Unit {0}) Cause) → a ≡ checked o → MatchResult a (λ x. r ≡ Ok x) (λ e. IsErrAnd r (Q e)) → ((e : Cause) (w : Refusal) → Q e w → w ≡ record { cause = e; place = k })
      → (w : Refusal) → r ≡ Err w → (why : Cause) × (o ≡ Some why) × (w ≡ record { cause = why; place = k })
  refused (Ok x) e h placed w is = cc
  refused (Err why) e h placed w is = (why, checked_err o why e, placed why w (rw is at h))

  pub passed : (a : Result (Unit {0}) Cause) → a ≡ checked o → MatchResult a (λ x. r ≡ Ok x) (λ e. IsErrAnd r (Q e)) → (x : Unit {0}) → r ≡ Ok x → o ≡ None
  passed (Ok x) e h y is = checked_ok o x e
  passed (Err why) e h y is = absurd (rw is at h)
