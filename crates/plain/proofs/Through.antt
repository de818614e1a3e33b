-- Whether aliases lead through a value, and what the finders find. Assumes nothing.
use Rattle.std.proofs.Common.{Some, find, ◌≡◌, ℕ, zero, suc, ◌+◌, ◌<◌, Bool, true, false, cond, ◌||◌, eqb, List, [], ◌∷◌, ◌++◌, length, get_or, sym, refl, ap, ◌∙◌, subst, inl, inr, arith}
use Rattle.std.specs.List.{range_with_len}
use Rattle.std.proofs.lemmas.Bool.{or_left, or_right, or_cases, or_parts, eq-eqb, ne_eqb, eqb-true, false≢true}
use Rattle.flow.specs.Meaning.{has}
use Rattle.rows.specs.Rows.{step_in, follow}
use Rattle.rows.specs.WellFormed.{Settled}
use Rattle.rows.proofs.Aliases.{Ends, step_end}
use Rattle.plain.specs.Loops.{leads, through, any_through}
use Rattle.rows.specs.declared.value.ValueData.{ValueData}
use Rattle.rows.specs.declared.value.ValueData.TheVariants.{Deleted}

or_same : (b : Bool) → (b || b) ≡ b
or_same true = refl
or_same false = refl

leads_here : (rows : List ValueData) (d k v : ℕ) → eqb v d ≡ true → leads rows d k v ≡ true
leads_here rows d zero v e = e
leads_here rows d (suc k) v e = or_left _ _ e

leads_end : (rows : List ValueData) (d k v : ℕ) → Ends rows v → leads rows d k v ≡ eqb v d
leads_end rows d zero v e = refl
leads_end rows d (suc k) v e =
    ap (λ w. eqb v d || leads rows d k w) (step_end v (get_or rows v Deleted) e) ∙ ap (λ b. eqb v d || b) (leads_end rows d k v e) ∙ or_same (eqb v d)

leads_more : (rows : List ValueData) (d k v : ℕ) → Ends rows (follow rows k v) → leads rows d (suc k) v ≡ leads rows d k v
leads_more rows d zero v e = ap (λ w. eqb v d || eqb w d) (step_end v (get_or rows v Deleted) e) ∙ or_same (eqb v d)
leads_more rows d (suc k) v e = ap (λ b. eqb v d || b) (leads_more rows d k (step_in v (get_or rows v Deleted)) e)

pub through_here : (rows : List ValueData) (d v : ℕ) → v ≡ d → through rows d v ≡ true
unfolding through
through_here rows d v e = leads_here rows d (length rows) v (eq-eqb v d e)

pub through_end : (rows : List ValueData) (d v : ℕ) → Ends rows v → through rows d v ≡ eqb v d
unfolding through
through_end rows d v e = leads_end rows d (length rows) v e

pub through_step : (rows : List ValueData) (d v : ℕ) → Settled rows → (v ≡ d → ⊥) → through rows d (step_in v (get_or rows v Deleted)) ≡ through rows d v
unfolding through
through_step rows d v s ne =
    let n : ℕ = length rows in
    sym (ap (λ b. b || leads rows d n (step_in v (get_or rows v Deleted))) (ne_eqb v d ne)) ∙ leads_more rows d n v (s v)

-- what holds of a front of a walk's list holds of the list
pub any_front : (rows : List ValueData) (d : ℕ) (front rest : List ℕ) → any_through rows d front ≡ true → any_through rows d (front ++ rest) ≡ true
any_front rows d [] rest e = absurd (false≢true e)
any_front rows d (v ∷ front) rest e =
    elim (or_cases (through rows d v) _ e) [ inl h ↦ or_left (through rows d v) _ h | inr h ↦ or_right (through rows d v) _ (any_front rows d front rest h) ]

pub none_through : (rows : List ValueData) (d : ℕ) (vs : List ℕ) (w : ℕ) → any_through rows d vs ≡ false → has vs w ≡ true → through rows d w ≡ false
none_through rows d [] w e h = absurd (false≢true h)
none_through rows d (v ∷ vs) w e h =
    let parts = or_parts _ _ e in
    elim (or_cases (eqb v w) (has vs w) h)
    [ inl same ↦ subst (λ x. through rows d x ≡ false) (eqb-true v w same) parts.0 | inr more ↦ none_through rows d vs w parts.1 more ]

-- ---- the first number that passes a test, for two tests that agree

pub find_same : (f h : ℕ → Bool) (n v : ℕ) → ((u : ℕ) → u < v + n → f u ≡ h u) → find f (range_with_len v n) ≡ find h (range_with_len v n)
find_same f h zero v same = refl
find_same f h (suc n) v same =
    ap (λ b. cond b (Some v) (find f (range_with_len (v + 1) n))) (same v (omega arith))
    ∙ ap (λ o. cond (h v) (Some v) o) (find_same f h n (v + 1) (λ u lt. same u (omega arith)))
