-- Where ranks fall along every step there is no loop. Assumes nothing.
use Rattle.std.proofs.Common.{◌≡◌, ℕ, ◌<◌, ◌≤◌, Bool, true, false, List, [], ◌∷◌, length, get_or, Option, Some, None, slice_get, Decides, MatchBool, sym, refl, ap, ◌∙◌, subst, ⊎_elim, arith}
use Rattle.std.specs.List.{AllWithin, HoldsAt, list_all, range_with_len}
use Rattle.std.proofs.lemmas.Bool.{both_ways, and_from, and_parts, or_cases, or_right, ltb-true, lt-ltb, eqb-true}
use Rattle.std.proofs.lemmas.List.FromFn.{length-range_with_len, get_or-range_with_len}
use Rattle.std.proofs.lemmas.Option.{slice_get-get_or}
use Rattle.flow.specs.Loops.{Path, one, more, Loopless}
use Rattle.flow.specs.Meaning.{has}
use Rattle.flow.proofs.Among.{has_here}
use Rattle.loops.specs.Digraph.{Finite}
use Rattle.loops.specs.Ranks.{is_below, is_lower, RanksFall}
use Rattle.loops.proofs.Closure.{path_inside}

-- ---- ranks

below_trans : (a b c : Option ℕ) → is_below a b ≡ true → is_below b c ≡ true → is_below a c ≡ true
unfolding is_below
below_trans None b c e f = refl
below_trans (Some x) None c e f = absurd (both_ways false refl e)
below_trans (Some x) (Some y) None e f = absurd (both_ways false refl f)
below_trans (Some x) (Some y) (Some z) e f = lt-ltb x z (omega (arith, ltb-true x y e, ltb-true y z f))

not_below_itself : (rank : ℕ) → is_below (Some rank) (Some rank) ≡ true → ⊥
unfolding is_below
not_below_itself rank e = omega (arith, ltb-true rank rank e)

-- ---- one node's targets

all_has : (p : ℕ → Bool) (ws : List ℕ) → list_all p ws ≡ true → (w : ℕ) → has ws w ≡ true → p w ≡ true
all_has p [] all w h = absurd (both_ways false refl h)
all_has p (x ∷ ws) all w h =
    let parts = and_parts _ _ all in
    ⊎_elim (λ e. ap p (sym (eqb-true x w e)) ∙ parts.0) (λ e. all_has p ws parts.1 w e) (or_cases _ _ h)

has_all : (p : ℕ → Bool) (ws : List ℕ) → ((w : ℕ) → has ws w ≡ true → p w ≡ true) → list_all p ws ≡ true
has_all p [] h = refl
has_all p (w ∷ ws) h = and_from _ _ (h w (has_here w ws)) (has_all p ws (λ u e. h u (or_right _ _ e)))

-- ---- every node's targets

module _ (targets : ℕ → List ℕ) (ranks : List ℕ) where
  abbrev pub Lower : ℕ → Type 0
  Lower v = list_all (is_lower ranks v) (targets v) ≡ true

  abbrev pub NotLower : ℕ → Type 0
  NotLower v = list_all (is_lower ranks v) (targets v) ≡ false

  lower_everywhere : RanksFall targets ranks → (v : ℕ) → Lower v
  lower_everywhere falls v = has_all (is_lower ranks v) (targets v) (falls v)

  module _ (size : ℕ) (finite : Finite size targets) where
    pub ranks_tested : (r : Bool)
        → MatchBool r (AllWithin Lower (range_with_len 0 size) 0 (length (range_with_len 0 size))) ((k : ℕ) × (k < length (range_with_len 0 size)) × HoldsAt NotLower (range_with_len 0 size) k)
        → Decides r (RanksFall targets ranks)
    ranks_tested true lower = (
      (λ _ v w h. let low : v < size = finite.inside v w h in
          all_has (is_lower ranks v) (targets v) (subst Lower (get_or-range_with_len 0 size v 0 low ∙ omega arith) (lower v 0 (omega arith) (omega (arith, length-range_with_len 0 size)))) w h),
      (λ _. refl),
    )
    ranks_tested false (k, low, not_lower) = (
      (λ e. absurd (both_ways false refl e)),
      (λ falls. absurd (both_ways _ (not_lower 0) (lower_everywhere falls (get_or (range_with_len 0 size) k 0)))),
    )

    path_falls : RanksFall targets ranks → {v w : ℕ} → Path targets v w → is_lower ranks v w ≡ true
    path_falls falls {v} {w} (one h) = falls v w h
    path_falls falls {v} {w} (more {a = b} h p) = below_trans (slice_get ranks w) (slice_get ranks b) (slice_get ranks v) (path_falls falls p) (falls v b h)

    pub falling_loopless : RanksFall targets ranks → size ≤ length ranks → Loopless targets
    falling_loopless falls long v p =
        let here : slice_get ranks v ≡ Some (get_or ranks v 0) = slice_get-get_or ranks v 0 (omega (arith, long, path_inside size targets finite p)) in
        not_below_itself (get_or ranks v 0) (ap (λ s. is_below s s) (sym here) ∙ path_falls falls p)
