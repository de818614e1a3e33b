-- The first place against which something stands. Assumes nothing.
use Rattle.std.proofs.Common.{◌≡◌, ℕ, zero, suc, ◌+◌, ◌-◌, ◌<◌, ◌≤◌, Some, None, Option, sym, refl, ap, ◌∙◌, inl, inr, add-one, arith}
use Rattle.std.proofs.lemmas.Bool.{cases_lt}
use Rattle.std.specs.Option.{option_map}
use Rattle.ir.specs.Options.{or_else}
use Rattle.ir.specs.Refusals.{first_fault}
use Rattle.ir.specs.declared.refusal.Cause.{Cause}

module _ (fault : ℕ → Option Cause) where
  -- something stands here, and nothing before
  pub fault_here : (k n : ℕ) (why : Cause) → k < n → fault k ≡ Some why → first_fault fault k (n - k) ≡ Some (record { cause = why; place = k })
  unfolding first_fault
  fault_here k n why l e =
      let left : n - k ≡ suc (n - suc k) = omega arith in
      ap (first_fault fault k) left ∙ ap (λ o. or_else (option_map (λ (w : Cause). record { cause = w; place = k }) o) (first_fault fault (suc k) (n - suc k))) e

  -- nothing stands here
  pub fault_on : (k n : ℕ) → k < n → fault k ≡ None → first_fault fault k (n - k) ≡ first_fault fault (k + 1) (n - (k + 1))
  unfolding first_fault
  fault_on k n l e =
      let left : n - k ≡ suc (n - suc k) = omega arith in
      ap (first_fault fault k) left ∙ ap (λ o. or_else (option_map (λ (w : Cause). record { cause = w; place = k }) o) (first_fault fault (suc k) (n - suc k))) e
      ∙ ap (λ j. first_fault fault j (n - j)) (sym (add-one k))

  -- nothing stands past the end
  pub fault_end : (k n : ℕ) → n ≤ k → first_fault fault k (n - k) ≡ None
  unfolding first_fault
  fault_end k n l = let left : n - k ≡ 0 = omega arith in ap (first_fault fault k) left

  -- where nothing is found, nothing stands anywhere
  pub none_stands : (n k : ℕ) → first_fault fault k n ≡ None → (j : ℕ) → k ≤ j → j < k + n → fault j ≡ None
  unfolding first_fault
  none_stands zero k e j l m = absurd (omega arith)
  none_stands (suc n) k e j l m = at (fault k) refl e (λ q lt. none_stands n (suc k) q j (omega arith) (omega arith))
    where
      at : (o : Option Cause) → fault k ≡ o → or_else (option_map (λ (w : Cause). record { cause = w; place = k }) o) (first_fault fault (suc k) n) ≡ None
          → (first_fault fault (suc k) n ≡ None → k < j → fault j ≡ None) → fault j ≡ None
      at (Some why) is q rest = cc
      at None is q rest =
          elim (cases_lt k j) [
            | inl lt ↦ rest q lt
            | inr ge ↦ let same : j ≡ k = omega arith in ap fault same ∙ is
          ]

  -- where nothing stands anywhere, nothing is found
  pub none_found : (n k : ℕ) → ((j : ℕ) → k ≤ j → j < k + n → fault j ≡ None) → first_fault fault k n ≡ None
  unfolding first_fault
  none_found zero k all = refl
  none_found (suc n) k all =
      ap (λ o. or_else (option_map (λ (w : Cause). record { cause = w; place = k }) o) (first_fault fault (suc k) n)) (all k (omega arith) (omega arith))
      ∙ none_found n (suc k) (λ j l m. all j (omega arith) (omega arith))
