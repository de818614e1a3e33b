-- What adds up over the values reached, the steps of a walk among it: 1 + the values reached + the operands of the operations reached.
-- Assumes nothing.
use Rattle.std.proofs.Common.{◌≡◌, ℕ, ◌+◌, ◌*◌, ◌≤◌, true, false, List, [], ◌∷◌, length, sym, refl, ap, ◌∙◌, subst, ⊎_elim, arith}
use Rattle.std.proofs.lemmas.Bool.{both_ways, eqb-true, or_cases, or_left, or_right}
use Rattle.flow.specs.Meaning.{Flow, Lawful, live, uses, has}
use Rattle.flow.specs.Walk.{walk, Distinct, Reached, operand_count, step_count, StepsCount, StepsFew}
use Rattle.flow.proofs.Among.{without, split, has_here}
use Rattle.flow.proofs.Walks.{walk_is_post_order, walk_short}

-- without y, what is not y is still there
has_without : (y : ℕ) (vs : List ℕ) (v : ℕ) → (v ≡ y → ⊥) → has vs v ≡ true → has (without y vs) v ≡ true
unfolding without
has_without y [] v ne h = h
has_without y (x ∷ vs) v ne h =
    split (λ l. has l v ≡ true) y x vs
    (λ e. ⊎_elim (λ q. absurd (ne (sym (eqb-true x v q) ∙ e))) (has_without y vs v ne) (or_cases _ _ h))
    (λ _. ⊎_elim (λ q. or_left _ _ q) (λ q. or_right _ _ (has_without y vs v ne q)) (or_cases _ _ h))

-- a weight of each value, added up over lists
module _ (weight : ℕ → ℕ) where
  abbrev total : List ℕ → ℕ
  total [] = 0
  total (v ∷ vs) = weight v + total vs

  total_without : (y : ℕ) (vs : List ℕ) → total (without y vs) ≤ total vs
  unfolding without
  total_without y [] = omega arith
  total_without y (x ∷ vs) = split (λ l. total l ≤ total (x ∷ vs)) y x vs (λ _. omega (arith, total_without y vs)) (λ _. omega (arith, total_without y vs))

  total_apart : (y : ℕ) (vs : List ℕ) → has vs y ≡ true → weight y + total (without y vs) ≤ total vs
  unfolding without
  total_apart y [] h = absurd (both_ways false refl h)
  total_apart y (x ∷ vs) h =
      split (λ l. weight y + total l ≤ total (x ∷ vs)) y x vs
      (λ e. omega (arith, ap weight e, total_without y vs))
      (λ ne. ⊎_elim (λ q. absurd (ne (eqb-true x y q))) (λ q. omega (arith, total_apart y vs q)) (or_cases _ _ h))

  -- distinct values weigh no more than a list that has them all
  total_among : (vs ws : List ℕ) → Distinct vs → ((v : ℕ) → has vs v ≡ true → has ws v ≡ true) → total vs ≤ total ws
  total_among [] ws d all = omega arith
  total_among (x ∷ vs) ws d all =
      omega (
        arith,
        total_apart x ws (all x (has_here x vs)),
        total_among vs (without x ws) d.1 (λ v h. has_without x ws v (λ e. both_ways _ d.0 (subst (λ u. has vs u ≡ true) e h)) (all v (or_right _ _ h))),
      )

  module _ (sum : List ℕ → ℕ) (none : sum [] ≡ 0) (more : (v : ℕ) (vs : List ℕ) → sum (v ∷ vs) ≡ weight v + sum vs) where
    sum_is_total : (vs : List ℕ) → sum vs ≡ total vs
    sum_is_total [] = none
    sum_is_total (v ∷ vs) = more v vs ∙ ap (λ n. weight v + n) (sum_is_total vs)

    -- distinct values add up to no more than a list that has them all
    pub sum_among : (vs ws : List ℕ) → Distinct vs → ((v : ℕ) → has vs v ≡ true → has ws v ≡ true) → sum vs ≤ sum ws
    sum_among vs ws d all = omega (arith, sum_is_total vs, sum_is_total ws, total_among vs ws d all)

    -- what adds up over values is the same over each list of the values reached
    pub sum_reached : (g : Flow) → Lawful g → (root : ℕ) (vs : List ℕ) → Reached g root vs → sum (walk g root) ≡ sum vs
    sum_reached g lawful root vs r =
        let p = walk_is_post_order g lawful root in
        omega (arith, sum_among (walk g root) vs p.once (λ v h. r.complete v (p.reached v h)), sum_among vs (walk g root) r.once (λ v h. p.complete v (r.only v h)))

pub steps_count : StepsCount
steps_count g lawful root vs r =
    let same = sum_reached (λ v. 1 + length (uses g v)) (λ l. length l + operand_count g l) (omega arith) (λ v l. omega arith) g lawful root vs r in
    omega (arith, same)

-- a walk takes no more steps than 1 + 4 for each value
pub steps_within : (g : Flow) → Lawful g → (root : ℕ) → live g root ≡ true → step_count g root ≤ 1 + 4 * length g
steps_within g lawful root alive = omega (arith, (walk_short g lawful root alive).0, (walk_short g lawful root alive).1)

pub steps_few : StepsFew
steps_few g lawful root alive = omega (arith, steps_within g lawful root alive, lawful.few)
