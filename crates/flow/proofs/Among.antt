-- Lists of numbers: membership, distinct lists, and how long one can be. Assumes nothing.
use Rattle.std.proofs.Common.{◌≡◌, ℕ, zero, suc, ◌<◌, ◌≤◌, Bool, true, false, cond, ◌||◌, eqb, ◌⊎◌, List, [], ◌∷◌, ◌++◌, map, length, get_or, sym, refl, ap, ◌∙◌, inl, inr, ⊎_elim, arith}
use Rattle.std.specs.List.{AllByRecursion as All, list_any}
use Rattle.std.proofs.lemmas.Bool.{cases_Bool, both_ways, eqb-true, eqb-false, eq-eqb, ne_eqb, or_cases, or_parts, or_from, or_left, or_right}
use Rattle.flow.specs.Meaning.{has}
use Rattle.flow.specs.Walk.{Distinct}

pub has_here : (v : ℕ) (vs : List ℕ) → has (v ∷ vs) v ≡ true
has_here v vs = or_left _ _ (eq-eqb v v refl)

pub has_append_left : (vs ws : List ℕ) (v : ℕ) → has vs v ≡ true → has (vs ++ ws) v ≡ true
has_append_left [] ws v h = absurd (both_ways false refl h)
has_append_left (x ∷ vs) ws v h =
    ⊎_elim (λ e. or_left _ _ e) (λ e. or_right _ _ (has_append_left vs ws v e)) (or_cases _ _ h)

pub has_append_right : (vs ws : List ℕ) (v : ℕ) → has ws v ≡ true → has (vs ++ ws) v ≡ true
has_append_right [] ws v h = h
has_append_right (x ∷ vs) ws v h = or_right _ _ (has_append_right vs ws v h)

pub has_append_cases : (vs ws : List ℕ) (v : ℕ) → has (vs ++ ws) v ≡ true → (has vs v ≡ true) ⊎ (has ws v ≡ true)
has_append_cases [] ws v h = inr h
has_append_cases (x ∷ vs) ws v h =
    ⊎_elim (λ e. inl (or_left _ _ e)) (λ e. ⊎_elim (λ f. inl (or_right _ _ f)) inr (has_append_cases vs ws v e)) (or_cases _ _ h)

pub has_push : (vs : List ℕ) (v : ℕ) → has (vs ++ (v ∷ [])) v ≡ true
has_push vs v = has_append_right vs (v ∷ []) v (has_here v [])

pub has_push_cases : (vs : List ℕ) (w v : ℕ) → has (vs ++ (w ∷ [])) v ≡ true → (has vs v ≡ true) ⊎ (w ≡ v)
has_push_cases vs w v h =
    ⊎_elim inl (λ e. inr (⊎_elim (eqb-true w v) (λ f. absurd (both_ways false refl f)) (or_cases _ _ e))) (has_append_cases vs (w ∷ []) v h)

pub has_push_other : (vs : List ℕ) (w v : ℕ) → (w ≡ v → ⊥) → has (vs ++ (w ∷ [])) v ≡ has vs v
has_push_other [] w v ne = or_from _ _ (ne_eqb w v ne) refl
has_push_other (x ∷ vs) w v ne = ap (λ b. eqb x v || b) (has_push_other vs w v ne)

pub not_has : (vs : List ℕ) (v : ℕ) → (has vs v ≡ true → ⊥) → has vs v ≡ false
not_has vs v no' = ⊎_elim (λ e. absurd (no' e)) (λ e. e) (cases_Bool (has vs v))

pub has_map : (f : ℕ → ℕ) (vs : List ℕ) (v : ℕ) → has vs v ≡ true → has (map f vs) (f v) ≡ true
has_map f [] v h = absurd (both_ways false refl h)
has_map f (x ∷ vs) v h =
    ⊎_elim (λ e. or_left _ _ (eq-eqb (f x) (f v) (ap f (eqb-true x v e)))) (λ e. or_right _ _ (has_map f vs v e)) (or_cases _ _ h)

pub has_before_map : (f : ℕ → ℕ) (vs : List ℕ) (w : ℕ) → has (map f vs) w ≡ true → (v : ℕ) × (has vs v ≡ true) × (f v ≡ w)
has_before_map f [] w h = absurd (both_ways false refl h)
has_before_map f (x ∷ vs) w h = ⊎_elim
    (λ e. (x, has_here x vs, eqb-true (f x) w e))
    (λ e. let rest = has_before_map f vs w e in (rest.0, or_right _ _ rest.1, rest.2))
    (or_cases _ _ h)

pub has_get_or : (vs : List ℕ) (k : ℕ) → k < length vs → has vs (get_or vs k 0) ≡ true
has_get_or [] k lt = absurd (omega arith)
has_get_or (v ∷ vs) zero lt = has_here v vs
has_get_or (v ∷ vs) (suc k) lt = or_right _ _ (has_get_or vs k (omega arith))

-- ---- a test of what a list has

pub any_some : (test : ℕ → Bool) (vs : List ℕ) → list_any test vs ≡ true → (v : ℕ) × (has vs v ≡ true) × (test v ≡ true)
any_some test [] e = absurd (both_ways false refl e)
any_some test (v ∷ vs) e =
    ⊎_elim (λ h. (v, has_here v vs, h)) (λ h. let s = any_some test vs h in (s.0, or_right _ _ s.1, s.2)) (or_cases _ _ e)

pub some_any : (test : ℕ → Bool) (vs : List ℕ) (v : ℕ) → has vs v ≡ true → test v ≡ true → list_any test vs ≡ true
some_any test [] v h t = absurd (both_ways false refl h)
some_any test (u ∷ vs) v h t =
    ⊎_elim (λ e. or_left (test u) _ (ap test (eqb-true u v e) ∙ t)) (λ e. or_right (test u) _ (some_any test vs v e t)) (or_cases _ _ h)

-- none passes where a list has it and the test finds none
pub none_among : (test : ℕ → Bool) (vs : List ℕ) (v : ℕ) → has vs v ≡ true → list_any test vs ≡ false → test v ≡ false
none_among test vs v h none = ⊎_elim (λ t. absurd (both_ways _ none (some_any test vs v h t))) (λ e. e) (cases_Bool (test v))

-- ---- functions of what a list has

-- f and h agree on a list if they do on what it has
pub map_among : {A : Type 0} (f h : ℕ → A) (vs : List ℕ) → ((v : ℕ) → has vs v ≡ true → f v ≡ h v) → map f vs ≡ map h vs
map_among f h [] same = refl
map_among f h (v ∷ vs) same = λ i. same v (has_here v vs) i ∷ map_among f h vs (λ u m. same u (or_right _ _ m)) i

-- what holds of each value that a list has
pub all_among : (P : ℕ → Type 0) (vs : List ℕ) → ((v : ℕ) → has vs v ≡ true → P v) → All P vs
all_among P [] h = tt
all_among P (v ∷ vs) h = (h v (has_here v vs), all_among P vs (λ w m. h w (or_right _ _ m)))

-- ---- distinct lists

pub distinct_push : (vs : List ℕ) (v : ℕ) → Distinct vs → has vs v ≡ false → Distinct (vs ++ (v ∷ []))
distinct_push [] v d h = (refl, tt)
distinct_push (x ∷ vs) v d h =
    let ne : v ≡ x → ⊥ = λ e. eqb-false x v (or_parts _ _ h).0 (sym e) in
    (has_push_other vs v x ne ∙ d.0, distinct_push vs v d.1 (or_parts _ _ h).1)

-- vs without y
unfoldable pub without : ℕ → List ℕ → List ℕ
without y [] = []
without y (x ∷ vs) = cond (eqb x y) (without y vs) (x ∷ without y vs)

-- the two ways of one element of `without`
pub split : (P : List ℕ → Type 0) (y x : ℕ) (vs : List ℕ) → (x ≡ y → P (without y vs)) → ((x ≡ y → ⊥) → P (x ∷ without y vs)) → P (without y (x ∷ vs))
unfolding without
split P y x vs same other = go (eqb x y) refl
  where
    go : (b : Bool) → eqb x y ≡ b → P (cond b (without y vs) (x ∷ without y vs))
    go true e = same (eqb-true x y e)
    go false e = other (eqb-false x y e)

without_lacks : (y : ℕ) (vs : List ℕ) (v : ℕ) → has vs v ≡ false → has (without y vs) v ≡ false
unfolding without
without_lacks y [] v h = refl
without_lacks y (x ∷ vs) v h =
    let parts = or_parts _ _ h in
    split (λ l. has l v ≡ false) y x vs (λ e. without_lacks y vs v parts.1) (λ ne. or_from _ _ parts.0 (without_lacks y vs v parts.1))

without_distinct : (y : ℕ) (vs : List ℕ) → Distinct vs → Distinct (without y vs)
unfolding without
without_distinct y [] d = tt
without_distinct y (x ∷ vs) d =
    split Distinct y x vs (λ e. without_distinct y vs d.1) (λ ne. (without_lacks y vs x d.0, without_distinct y vs d.1))

without_below : (n : ℕ) (vs : List ℕ) → All (λ x. x < suc n) vs → All (λ x. x < n) (without n vs)
unfolding without
without_below n [] a = tt
without_below n (x ∷ vs) a =
    split (All (λ x. x < n)) n x vs (λ e. without_below n vs a.1) (λ ne. (omega (arith, a.0), without_below n vs a.1))

without_same : (y : ℕ) (vs : List ℕ) → has vs y ≡ false → without y vs ≡ vs
unfolding without
without_same y [] h = refl
without_same y (x ∷ vs) h =
    let parts = or_parts _ _ h in
    split (λ l. l ≡ x ∷ vs) y x vs (λ e. absurd (eqb-false x y parts.0 e)) (λ ne. ap (λ l. x ∷ l) (without_same y vs parts.1))

without_length : (y : ℕ) (vs : List ℕ) → Distinct vs → length vs ≤ suc (length (without y vs))
unfolding without
without_length y [] d = omega arith
without_length y (x ∷ vs) d =
    split (λ l. length (x ∷ vs) ≤ suc (length l)) y x vs
    (λ e. omega (arith, ap length (without_same y vs (ap (has vs) (sym e) ∙ d.0))))
    (λ ne. omega (arith, without_length y vs d.1))

-- Distinct numbers below n are at most n.
pub distinct_length : (n : ℕ) (vs : List ℕ) → Distinct vs → All (λ v. v < n) vs → length vs ≤ n
distinct_length zero [] d a = omega arith
distinct_length zero (x ∷ vs) d a = absurd (omega (arith, a.0))
distinct_length (suc n) vs d a =
    omega (arith, without_length n vs d, distinct_length n (without n vs) (without_distinct n vs d) (without_below n vs a))
