-- Circles of aliases: a chain of aliases that is in none is no longer than there are values. Assumes nothing.
use Rattle.std.proofs.Common.{◌≡◌, ℕ, zero, suc, ◌<◌, ◌≤◌, true, false, eqb, List, [], ◌∷◌, length, get_or, sym, refl, ap, ◌∙◌, subst, inl, inr, arith}
use Rattle.std.specs.List.{AllByRecursion as All}
use Rattle.std.proofs.ByRecursion.{All-weaker}
use Rattle.std.proofs.lemmas.List.{get_or_past}
use Rattle.std.proofs.lemmas.Bool.{cases_Bool, cases_lt, false≢true, or_cases, eqb-true}
use Rattle.flow.specs.Loops.{Path, one, more, Loopless}
use Rattle.flow.specs.Meaning.{has}
use Rattle.flow.specs.Walk.{Distinct}
use Rattle.flow.proofs.Among.{has_here, not_has, distinct_length}
use Rattle.rows.specs.Circles.{target_in, alias_targets, InCircle, SettledWithoutCircles}
use Rattle.rows.specs.Rows.{Rows, value_at, step_in, is_alias, follow}
use Rattle.rows.specs.WellFormed.{Settled}
use Rattle.rows.proofs.Aliases as aliases
use Rattle.rows.proofs.Aliases.{Ends, one_end}
use Rattle.rows.specs.declared.value.ValueData.{ValueData}
use Rattle.rows.specs.declared.value.ValueData.TheVariants.{Inst, Param, Alias, Union, Deleted}

-- the value is an alias
abbrev GoesOn : List ValueData → ℕ → Type 0
GoesOn rows v = is_alias (get_or rows v Deleted) ≡ true

-- ---- aliases are no more than there are values

goes_inside : (rows : List ValueData) (v : ℕ) → GoesOn rows v → v < length rows
goes_inside rows v a =
    elim (cases_lt v (length rows)) [ inl l ↦ l | inr l ↦ absurd (false≢true (sym (ap is_alias (get_or_past rows v Deleted l)) ∙ a)) ]

few_aliases : (rows : List ValueData) (vs : List ℕ) → All (GoesOn rows) vs → Distinct vs → length vs ≤ length rows
few_aliases rows vs all d =
    distinct_length (length rows) vs d (All-weaker (GoesOn rows) (λ v. v < length rows) (goes_inside rows) vs all)

-- ---- chains

-- a value and what so many steps along its aliases pass
abbrev chain : List ValueData → ℕ → ℕ → List ℕ
chain rows zero v = []
chain rows (suc k) v = v ∷ chain rows k (step_in v (get_or rows v Deleted))

chain_length : (rows : List ValueData) (k v : ℕ) → length (chain rows k v) ≡ k
chain_length rows zero v = refl
chain_length rows (suc k) v = ap suc (chain_length rows k (step_in v (get_or rows v Deleted)))

-- what a chain has, it comes to in so many steps
chain_has : (rows : List ValueData) (k v w : ℕ) → has (chain rows k v) w ≡ true → (j : ℕ) × (follow rows j v ≡ w)
chain_has rows zero v w h = absurd (false≢true h)
chain_has rows (suc k) v w h =
    elim (or_cases (eqb v w) _ h) [
      | inl e ↦ (0, eqb-true v w e)
      | inr m ↦ let s = chain_has rows k (step_in v (get_or rows v Deleted)) w m in (suc s.0, s.1)
    ]

-- a value that is an alias after n steps was one after fewer
pub follow_on : (rows : List ValueData) (v m n : ℕ) → m ≤ n → is_alias (get_or rows (follow rows n v) Deleted) ≡ true
    → is_alias (get_or rows (follow rows m v) Deleted) ≡ true
follow_on rows v zero n l a =
    elim (cases_Bool (is_alias (get_or rows v Deleted))) [
      | inl b ↦ b
      | inr e ↦ absurd (false≢true (sym e ∙ ap (λ w. is_alias (get_or rows w Deleted)) (sym (aliases.follow_end rows n v e)) ∙ a))
    ]
follow_on rows v (suc m) zero l a = absurd (omega arith)
follow_on rows v (suc m) (suc n) l a = follow_on rows (step_in v (get_or rows v Deleted)) m n (omega arith) a

chain_aliases : (rows : List ValueData) (k v : ℕ) → GoesOn rows (follow rows k v) → All (GoesOn rows) (chain rows (suc k) v)
chain_aliases rows zero v a = (a, tt)
chain_aliases rows (suc k) v a =
    (follow_on rows v 0 (suc k) (omega arith) a, chain_aliases rows k (step_in v (get_or rows v Deleted)) a)

-- a chain that comes to no circle passes nothing twice
chain_distinct : (rows : List ValueData) (k v : ℕ) → ((j : ℕ) → InCircle rows (follow rows j v) → ⊥)
    → All (GoesOn rows) (chain rows k v) → Distinct (chain rows k v)
chain_distinct rows zero v none all = tt
chain_distinct rows (suc k) v none all = (
  not_has (chain rows k (step_in v (get_or rows v Deleted))) v
      (λ h. let s = chain_has rows k (step_in v (get_or rows v Deleted)) v h in none 0 (s.0, all.0, s.1)),
  chain_distinct rows k (step_in v (get_or rows v Deleted)) (λ j. none (suc j)) all.1,
)

-- so it comes to its end in as many steps as there are values
ends_in_time : (rows : List ValueData) (v : ℕ) → ((j : ℕ) → InCircle rows (follow rows j v) → ⊥)
    → Ends rows (follow rows (length rows) v)
ends_in_time rows v none =
    let c : ℕ = length rows in
    elim (cases_Bool (is_alias (get_or rows (follow rows c v) Deleted))) [
      | inl a ↦
          let all = chain_aliases rows c v a in
          let few = few_aliases rows (chain rows (suc c) v) all (chain_distinct rows (suc c) v none all) in
          absurd (omega (arith, few, chain_length rows (suc c) v))
      | inr e ↦ e
    ]

-- ---- circles

-- the last of some steps
follow_last : (rows : List ValueData) (k v : ℕ)
    → follow rows (suc k) v ≡ step_in (follow rows k v) (get_or rows (follow rows k v) Deleted)
follow_last rows zero v = refl
follow_last rows (suc k) v = follow_last rows k (step_in v (get_or rows v Deleted))

-- a step along a circle stays in it
circle_step : (rows : List ValueData) (v : ℕ) → InCircle rows v → InCircle rows (step_in v (get_or rows v Deleted))
circle_step rows v (k, a, e) =
    let w : ℕ = step_in v (get_or rows v Deleted) in (
      k,
      follow_on rows w 0 k (omega arith) (ap (λ x. is_alias (get_or rows x Deleted)) e ∙ a),
      follow_last rows k w ∙ ap (λ x. step_in x (get_or rows x Deleted)) e,
    )

circle_on : (rows : List ValueData) (v n : ℕ) → InCircle rows v → InCircle rows (follow rows n v)
circle_on rows v zero c = c
circle_on rows v (suc n) c = circle_on rows (step_in v (get_or rows v Deleted)) n (circle_step rows v c)

-- aliases that come to an end come to no circle
end_no_circle : (rows : List ValueData) (v n j : ℕ) → Ends rows (follow rows n v) → InCircle rows (follow rows j v) → ⊥
end_no_circle rows v n zero e c = false≢true (sym e ∙ (circle_on rows v n c).1)
end_no_circle rows v zero (suc j) e c =
    false≢true (sym e ∙ (subst (InCircle rows) (aliases.follow_end rows (suc j) v e) c).1)
end_no_circle rows v (suc n) (suc j) e c = end_no_circle rows (step_in v (get_or rows v Deleted)) n j e c

-- if the aliases of a value come to an end at all, as many steps as there are values find it
pub ends_within : (rows : List ValueData) (v n : ℕ) → Ends rows (follow rows n v) → Ends rows (follow rows (length rows) v)
ends_within rows v n e = ends_in_time rows v (λ j. end_no_circle rows v n j e)

pub follow_end : (rows : List ValueData) (v n : ℕ) → Ends rows (follow rows n v) → follow rows (length rows) v ≡ follow rows n v
follow_end rows v n e = one_end rows (length rows) n v (ends_within rows v n e) e

pub settled_without_circles : SettledWithoutCircles
settled_without_circles rows = (
  λ settled v. end_no_circle rows v (length rows) 0 (settled v),
  λ none v. ends_in_time rows v (λ j. none (follow rows j v)),
)

-- ---- a circle is a path from a value to itself

pub target_has : (v : ℕ) (row : ValueData) → is_alias row ≡ true → has (target_in row) (step_in v row) ≡ true
target_has v (Inst ty num inst) a = absurd (false≢true a)
target_has v (Param ty num block) a = absurd (false≢true a)
target_has v (Alias ty o) a = has_here o.0 []
target_has v (Union ty x y) a = absurd (false≢true a)
target_has v Deleted a = absurd (false≢true a)

pub target_is : (v w : ℕ) (row : ValueData) → has (target_in row) w ≡ true → (is_alias row ≡ true) × (step_in v row ≡ w)
target_is v w (Inst ty num inst) h = absurd (false≢true h)
target_is v w (Param ty num block) h = absurd (false≢true h)
target_is v w (Alias ty o) h =
    elim (or_cases (eqb o.0 w) false h) [ inl e ↦ (refl, eqb-true o.0 w e) | inr e ↦ absurd (false≢true e) ]
target_is v w (Union ty x y) h = absurd (false≢true h)
target_is v w Deleted h = absurd (false≢true h)

follow_path : (p : Rows) (k v : ℕ) → GoesOn p.values (follow p.values k v)
    → Path (alias_targets p) v (follow p.values (suc k) v)
follow_path p zero v a = one (target_has v (value_at p v) a)
follow_path p (suc k) v a =
    more (target_has v (value_at p v) (follow_on p.values v 0 (suc k) (omega arith) a)) (follow_path p k (step_in v (value_at p v)) a)

pub circle_path : (p : Rows) (v : ℕ) → InCircle p.values v → Path (alias_targets p) v v
circle_path p v (k, a, e) = subst (Path (alias_targets p) v) e (follow_path p k v (circle_on p.values v k (k, a, e)).1)

path_follow : (p : Rows) {v w : ℕ} → Path (alias_targets p) v w → (k : ℕ) × GoesOn p.values v × (follow p.values (suc k) v ≡ w)
path_follow p {v} {w} (one h) = let t = target_is v w (value_at p v) h in (0, t.0, t.1)
path_follow p {v} (more {a = b} h r) =
    let t = target_is v b (value_at p v) h in
    let s = path_follow p r in
    (suc s.0, t.0, ap (follow p.values (suc s.0)) t.1 ∙ s.2)

pub path_circle : (p : Rows) (v : ℕ) → Path (alias_targets p) v v → InCircle p.values v
path_circle p v r = path_follow p r

pub settled_loopless : (p : Rows) → Settled p.values → Loopless (alias_targets p)
settled_loopless p settled v r = (settled_without_circles p.values).0 settled v (path_circle p v r)

pub loopless_settled : (p : Rows) → Loopless (alias_targets p) → Settled p.values
loopless_settled p none = (settled_without_circles p.values).1 (λ v c. none v (circle_path p v c))
