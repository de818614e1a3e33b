-- Loops by what values use, whatever tells that: no building call makes one. Assumes nothing.
use Rattle.std.proofs.Common.{◌≡◌, ℕ, ◌<◌, Bool, true, false, ◌⊎◌, List, sym, ap, ◌∙◌, subst, inl, inr}
use mathlib.Core.Path.{fun_ext}
use Rattle.std.proofs.lemmas.Bool.{cases_Bool}
use Rattle.flow.specs.Loops.{Path, one, more, Loopless}
use Rattle.flow.specs.Meaning.{has}
use Rattle.flow.proofs.Loops.{uses_in_lem, from_same, joined}

pub same_loop : (args args' : ℕ → List ℕ) → ((v : ℕ) → args' v ≡ args v) → Loopless args → Loopless args'
same_loop args args' h = subst Loopless (sym (fun_ext h))

-- ---- values are added, and what uses them is not

module _ (args args' : ℕ → List ℕ) (n : ℕ) (old : (v : ℕ) → v < n → args' v ≡ args v)
    (below : (v a : ℕ) → has (args' v) a ≡ true → a < n) where
  ends_below : {v w : ℕ} → Path args' v w → w < n
  ends_below {v} {w} (one h) = below v w h
  ends_below (more h r) = ends_below r

  as_before : {v w : ℕ} → v < n → Path args' v w → Path args v w
  as_before {v} {w} l (one h) = one (uses_in_lem _ _ w (old v l) h)
  as_before {v} l (more {a = b} h r) = more (uses_in_lem _ _ b (old v l) h) (as_before (below v b h) r)

  pub grown_loop : Loopless args → Loopless args'
  grown_loop none v r = none v (as_before (ends_below r) r)

-- ---- operands become their originals

module _ (args args' : ℕ → List ℕ) (f : ℕ → ℕ)
    (came : (v b : ℕ) → has (args' v) b ≡ true → (a : ℕ) × (has (args v) a ≡ true) × (f a ≡ b))
    (shared : (a : ℕ) → args (f a) ≡ args a) where
  unresolved : {v w : ℕ} → Path args' v w → (a : ℕ) × Path args v a × (f a ≡ w)
  unresolved {v} {w} (one h) = let c = came v w h in (c.0, one c.1, c.2)
  unresolved {v} {w} (more {a = b} h r) =
      let c = came v b h in
      let s = unresolved r in
      (s.0, more c.1 (from_same c.0 (sym (shared c.0) ∙ ap args c.2) s.1), s.2)

  pub resolved_loop : Loopless args → Loopless args'
  resolved_loop none v r =
      let s = unresolved r in
      none s.0 (from_same s.0 (sym (shared s.0) ∙ ap args s.2) s.1)

-- ---- a value becomes an alias

-- What leads through the destination gets the source's operands. No loop arises unless the source reaches such a value.
module _ (args args' : ℕ → List ℕ) (thru : ℕ → Bool) (r : ℕ)
    (taken : (v : ℕ) → thru v ≡ true → args' v ≡ args r) (left : (v : ℕ) → thru v ≡ false → args' v ≡ args v)
    (clear : (w : ℕ) → Path args r w → thru w ≡ false) where
  -- past the source nothing changed
  beyond : {v w : ℕ} → Path args r v → Path args' v w → Path args v w
  beyond {v} {w} s (one h) = one (uses_in_lem _ _ w (left v (clear v s)) h)
  beyond {v} s (more {a = b} h t) =
      let k = uses_in_lem _ _ b (left v (clear v s)) h in more k (beyond (joined s (one k)) t)

  by_source : {v w : ℕ} → thru v ≡ true → Path args' v w → Path args r w
  by_source {v} {w} e (one h) = one (uses_in_lem _ _ w (taken v e) h)
  by_source {v} e (more {a = b} h t) = let k = uses_in_lem _ _ b (taken v e) h in more k (beyond (one k) t)

  either_way : {v w : ℕ} → Path args' v w → Path args v w ⊎ Path args r w
  either_way {v} {w} (one h) =
      elim (cases_Bool (thru v))
      [ inl e ↦ inr (one (uses_in_lem _ _ w (taken v e) h)) | inr e ↦ inl (one (uses_in_lem _ _ w (left v e) h)) ]
  either_way {v} (more {a = b} h t) =
      elim (cases_Bool (thru v)) [
        | inl e ↦ inr (by_source e (more h t))
        | inr e ↦ elim (either_way t) [ inl s ↦ inl (more (uses_in_lem _ _ b (left v e) h) s) | inr s ↦ inr s ]
      ]

  pub aliased_loop : Loopless args → Loopless args'
  aliased_loop none v t =
      elim (either_way t) [
        | inl s ↦ none v s
        | inr s ↦ none v (beyond s t)
      ]

-- ---- which values a new alias would put in a loop

-- v is such a value, or reaches one
abbrev pub Comes : (ℕ → List ℕ) → (ℕ → Bool) → ℕ → Type 0
Comes args thru v = (thru v ≡ true) ⊎ ((u : ℕ) × Path args v u × (thru u ≡ true))

-- What leads through the destination gets the source's operands, and had the operands of one original before.
-- In a loop are just the values that the source reaches and that come to such a value.
module _ (args args' : ℕ → List ℕ) (thru : ℕ → Bool) (r : ℕ)
    (taken : (v : ℕ) → thru v ≡ true → args' v ≡ args r) (left : (v : ℕ) → thru v ≡ false → args' v ≡ args v)
    (alike : (v w : ℕ) → thru v ≡ true → thru w ≡ true → args v ≡ args w) (none : Loopless args) where
  by_last : {v w : ℕ} → Path args' v w → Path args v w ⊎ (Comes args thru v × Path args r w)
  by_last {v} {w} (one h) =
      elim (cases_Bool (thru v)) [
        | inl e ↦ inr (inl e, one (uses_in_lem _ _ w (taken v e) h))
        | inr e ↦ inl (one (uses_in_lem _ _ w (left v e) h))
      ]
  by_last {v} (more {a = b} h t) =
      elim (cases_Bool (thru v)) [
        | inl e ↦
            elim (by_last t) [
              | inl s ↦ inr (inl e, more (uses_in_lem _ _ b (taken v e) h) s)
              | inr s ↦ inr (inl e, s.1)
            ]
        | inr e ↦
            let k = uses_in_lem _ _ b (left v e) h in
            elim (by_last t) [
              | inl s ↦ inl (more k s)
              | inr s ↦ inr (inr (onward k s.0), s.1)
            ]
      ]
    where
      onward : {v b : ℕ} → has (args v) b ≡ true → Comes args thru b → (u : ℕ) × Path args v u × (thru u ≡ true)
      onward {v} {b} k (inl e) = (b, one k, e)
      onward {v} {b} k (inr c) = (c.0, more k c.1, c.2)

  pub looped : (v : ℕ) → Path args' v v → Path args r v × Comes args thru v
  looped v t = elim (by_last t) [ inl s ↦ absurd (none v s) | inr s ↦ (s.1, s.0) ]

  -- nothing that leads through the destination came before a value that comes to such a value
  none_before : {w v : ℕ} → Comes args thru v → thru w ≡ true → Path args w v → ⊥
  none_before {w} {v} (inl t) e s = none v (from_same v (alike v w t e) s)
  none_before {w} {v} (inr c) e s = none v (joined c.1 (from_same c.0 (alike c.0 w c.2 e) s))

  kept : {w v : ℕ} → Comes args thru v → Path args w v → Path args' w v
  kept {w} {v} comes (one h) =
      elim (cases_Bool (thru w))
      [ inl e ↦ absurd (none_before comes e (one h)) | inr e ↦ one (uses_in_lem _ _ v (sym (left w e)) h) ]
  kept {w} {v} comes (more {a = b} h t) =
      elim (cases_Bool (thru w))
      [ inl e ↦ absurd (none_before comes e (more h t)) | inr e ↦ more (uses_in_lem _ _ b (sym (left w e)) h) (kept comes t) ]

  -- from what leads through the destination, by the source's operands
  jump : {v : ℕ} (u : ℕ) → Comes args thru v → thru u ≡ true → Path args r v → Path args' u v
  jump {v} u comes e (one h) = one (uses_in_lem _ _ v (sym (taken u e)) h)
  jump {v} u comes e (more {a = b} h t) = more (uses_in_lem _ _ b (sym (taken u e)) h) (kept comes t)

  to_first : {w u v : ℕ} → Comes args thru v → Path args r v → Path args w u → thru u ≡ true → Path args' w v
  to_first {w} {u} {v} comes back (one h) e =
      elim (cases_Bool (thru w))
      [ inl f ↦ jump w comes f back | inr f ↦ more (uses_in_lem _ _ u (sym (left w f)) h) (jump u comes e back) ]
  to_first {w} {u} {v} comes back (more {a = b} h t) e =
      elim (cases_Bool (thru w))
      [ inl f ↦ jump w comes f back | inr f ↦ more (uses_in_lem _ _ b (sym (left w f)) h) (to_first comes back t e) ]

  pub in_loop : (v : ℕ) → Path args r v → Comes args thru v → Path args' v v
  in_loop v back (inl e) = jump v (inl e) e back
  in_loop v back (inr c) = to_first (inr c) back c.1 c.2
