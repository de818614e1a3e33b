use Rattle.std.proofs.Common.{◌≡◌, ℕ, ◌/◌, ◌^◌, ◌<◌, ◌≤◌, eqb, ltb, Some, None, Option, unwrap_or, SomeIff, sym, ap, ◌∙◌, ⊎_elim, arith, pow_pos, pow_mono}
use Rattle.std.proofs.lemmas.Bool.{cases_lt, eq-eqb, ne_eqb, lt-ltb, le-ltb}
use Rattle.std.proofs.lemmas.Nat.{le-div}
use native.Mathlib.Nat.{div-eq_of_lt}
use Rattle.eval.proofs.checks.fits.Goals as goal

-- nothing is left of a number that is shifted away
shifted_away : (n w : ℕ) → eqb (n / 2 ^ w) 0 ≡ ltb n (2 ^ w)
shifted_away n w = ⊎_elim
    (λ lt. eq-eqb (n / 2 ^ w) 0 (div-eq_of_lt lt) ∙ sym (lt-ltb n (2 ^ w) lt))
    (λ le. ne_eqb (n / 2 ^ w) 0 (λ e. omega (arith, le-div 1 n (2 ^ w) (pow_pos w) (omega arith))) ∙ sym (le-ltb n (2 ^ w) le))
    (cases_lt n (2 ^ w))

shifted : (r : Option ℕ) (n w k : ℕ) → k ≡ w → n < 2 ^ 64 → SomeIff r (k < 64) (n / 2 ^ k) → eqb (unwrap_or r 0) 0 ≡ ltb n (2 ^ w)
shifted None n w k e h past =
    let l : 64 ≤ w = omega arith in
    sym (lt-ltb n (2 ^ w) (omega (arith, pow_mono {i = 64} {j = w} l)))
shifted (Some x) n w k e h is = ap (λ y. eqb y 0) is.1 ∙ ap (λ j. eqb (n / 2 ^ j) 0) e ∙ shifted_away n w

pub returns : goal.returns
returns c =
    ap (λ n. eqb n 0) c.unwrap_or.ensures ∙ shifted c.checked_shr.result c.args.number c.args.bits c.from.result c.from.ensures c.ranges.number.fits c.checked_shr.ensures
