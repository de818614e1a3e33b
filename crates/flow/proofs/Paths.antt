-- A lawful graph has no path longer than its count of values, so what holds of a value if it holds of what it uses holds of each. Assumes nothing.
use Rattle.std.proofs.Common.{◌≡◌, ℕ, zero, suc, ◌+◌, ◌<◌, ◌≤◌, true, false, ◌⊎◌, List, [], ◌∷◌, length, sym, refl, ap, ◌∙◌, subst, inl, inr, ⊎_elim, arith}
use Rattle.std.specs.List.{AllByRecursion as All}
use Rattle.std.proofs.lemmas.List.{get_or_past}
use Rattle.std.proofs.lemmas.Bool.{both_ways, cases_lt, eqb-true, or_cases}
use Rattle.std.proofs.ByRecursion.{All-weaker}
use Rattle.flow.specs.Meaning.{Flow, Lawful, Reach, here, through, missing, used, uses, live, present, has}
use Rattle.flow.specs.Walk.{Distinct, ReachIsTransitive, ReachUnfolds}
use Rattle.flow.proofs.Among.{not_has, distinct_length}

pub reach_step : {g : Flow} {v u : ℕ} (w : ℕ) → Reach g v u → has (uses g u) w ≡ true → Reach g v w
reach_step {g} {v} {u} w (here e) h = through w (subst (λ x. has (uses g x) w ≡ true) (sym e) h) (here refl)
reach_step w (through x m r) h = through x m (reach_step w r h)

pub reach_transitive : ReachIsTransitive
reach_transitive g v w u (here e) r = subst (λ x. Reach g x u) (sym e) r
reach_transitive g v w u (through x m q) r = through x m (reach_transitive g x w u q r)

-- v reaches u in one step or more
abbrev Beyond : Flow → ℕ → ℕ → Type 0
Beyond g v u = (w : ℕ) × (has (uses g v) w ≡ true) × Reach g w u

pub reach_unfolds : ReachUnfolds
reach_unfolds g v u = (there, back)
  where
    there : Reach g v u → (u ≡ v) ⊎ Beyond g v u
    there (here e) = inl (sym e)
    there (through w m r) = inr (w, m, r)

    back : (u ≡ v) ⊎ Beyond g v u → Reach g v u
    back (inl e) = here (sym e)
    back (inr b) = through b.0 b.1 b.2

pub live_exists : (g : Flow) (v : ℕ) → live g v ≡ true → v < length g
live_exists g v h =
    ⊎_elim (λ lt. lt) (λ past. absurd (both_ways false refl (sym (ap (λ n. present n.def) (get_or_past g v missing past)) ∙ h))) (cases_lt v (length g))

-- every path from v has fewer than n steps
unfoldable pub Low : Flow → ℕ → ℕ → Type 0
Low g zero v = ⊥
Low g (suc n) v = (w : ℕ) → has (uses g v) w ≡ true → Low g n w

module _ (g : Flow) (lawful : Lawful g) where
  new : (v : ℕ) (above : List ℕ) → All (λ a. Beyond g a v) above → has above v ≡ true → ⊥
  new v [] all h = both_ways false refl h
  new v (a ∷ above) all h =
      ⊎_elim (λ e. lawful.loopless a all.0.0 all.0.1 (subst (Reach g all.0.0) (sym (eqb-true a v e)) all.0.2)) (λ e. new v above all.1 e) (or_cases _ _ h)

  -- `above` is the path that led to v
  low : (n : ℕ) (above : List ℕ) (v : ℕ) → v < length g → Distinct above → All (λ a. a < length g) above → All (λ a. Beyond g a v) above → length g ≤ n + length above → Low g n v
  unfolding Low
  low zero above v lt d all paths enough =
      omega (arith, distinct_length (length g) (v ∷ above) (not_has above v (new v above paths), d) (lt, all))
  low (suc n) above v lt d all paths enough = λ w h.
      low n (v ∷ above) w (live_exists g w (lawful.operands_live v w h)) (not_has above v (new v above paths), d) (lt, all)
      ((w, h, here refl), All-weaker (λ a. Beyond g a v) (λ a. Beyond g a w) (λ a p. (p.0, p.1, reach_step w p.2 h)) above paths)
      (omega arith)

  pub all_low : (v : ℕ) → Low g (suc (length g)) v
  unfolding Low
  all_low v =
      ⊎_elim (λ lt. low (suc (length g)) [] v lt tt tt tt (omega arith))
      (λ past w h. absurd (both_ways false refl (sym (ap (λ n. has (used n.def) w) (get_or_past g v missing past)) ∙ h)))
      (cases_lt v (length g))

  by_low : (P : ℕ → Type 0) → ((v : ℕ) → ((w : ℕ) → has (uses g v) w ≡ true → P w) → P v) → (n v : ℕ) → Low g n v → P v
  unfolding Low
  by_low P step zero v l = absurd l
  by_low P step (suc n) v l = step v (λ w h. by_low P step n w (l w h))

  -- Induction along what values use.
  pub by_uses : (P : ℕ → Type 0) → ((v : ℕ) → ((w : ℕ) → has (uses g v) w ≡ true → P w) → P v) → (v : ℕ) → P v
  by_uses P step v = by_low P step (suc (length g)) v (all_low v)
