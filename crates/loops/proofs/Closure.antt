-- A search that has met the targets of all that it met has met what its start reaches. Assumes nothing.
use Rattle.std.proofs.Common.{◌≡◌, ℕ, ◌+◌, ◌<◌, ◌≤◌, true, false, not, ◌&&◌, ltb, ◌⊎◌, List, [], ◌∷◌, length, get_or, slice_get, Some, None, sym, refl, ap, ◌∙◌, subst, inl, inr, ⊎_elim, arith, length-append}
use Rattle.std.proofs.lemmas.List.{get_or_append_left}
use Rattle.std.proofs.lemmas.Option.{slice_get_within, slice_get-get_or, get_or_from_slice_get}
use Rattle.std.proofs.lemmas.Bool.{cases_Bool, cases_eq, cases_lt, both_ways, cond_both, cond-true, and_from, eqb-true, lt-ltb, or_cases, or_left, or_right, eq-eqb}
use Rattle.flow.specs.Loops.{Path, one, more}
use Rattle.flow.specs.Meaning.{has}
use Rattle.flow.proofs.Among.{has_get_or, has_append_left, has_push, has_push_cases}
use Rattle.flow.proofs.Loops.{joined}
use Rattle.flow.proofs.Walks.{has_index}
use Rattle.loops.specs.Digraph.{Finite}
use Rattle.loops.specs.Meeting.{meet, meet_all, Reached}

-- a search from v that has met these nodes, the first of which, as many as are done, have met their targets
pub record Spreads (size : ℕ) (targets : ℕ → List ℕ) (v : ℕ) (met : List ℕ) (done : ℕ) : Type 0 where
  pub reached : (w : ℕ) → has met w ≡ true → Path targets v w
  pub first : (w : ℕ) → w < size → has (targets v) w ≡ true → has met w ≡ true
  pub onward : (k w : ℕ) → k < done → w < size → has (targets (get_or met k 0)) w ≡ true → has met w ≡ true

-- ---- one node more

module _ (size : ℕ) (met : List ℕ) (w : ℕ) where
  meet_cases : (u : ℕ) → has (meet size met w) u ≡ true → (has met u ≡ true) ⊎ (w ≡ u)
  unfolding meet
  meet_cases u = cond_both (ltb w size && not (has met w)) _ _ (λ l. has l u ≡ true → (has met u ≡ true) ⊎ (w ≡ u)) (λ e h. has_push_cases met w u h) (λ e h. inl h)

  meet_kept : (u : ℕ) → has met u ≡ true → has (meet size met w) u ≡ true
  unfolding meet
  meet_kept u h = cond_both (ltb w size && not (has met w)) _ _ (λ l. has l u ≡ true) (λ e. has_append_left met (w ∷ []) u h) (λ e. h)

  meet_has : w < size → has (meet size met w) w ≡ true
  unfolding meet
  meet_has low = ⊎_elim
      (λ h. meet_kept w h)
      (λ h. ap (λ l. has l w) (cond-true (ltb w size && not (has met w)) _ _ (and_from _ _ (lt-ltb w size low) (ap not h))) ∙ has_push met w)
      (cases_Bool (has met w))

  meet_front : (k : ℕ) → k < length met → (k < length (meet size met w)) × (get_or (meet size met w) k 0 ≡ get_or met k 0)
  unfolding meet
  meet_front k h =
      cond_both (ltb w size && not (has met w)) _ _ (λ l. (k < length l) × (get_or l k 0 ≡ get_or met k 0))
      (λ e. (omega (arith, length-append met (w ∷ [])), get_or_append_left met (w ∷ []) 0 k h))
      (λ e. (h, refl))

-- ---- each of a list

all_cases : (size : ℕ) (met ws : List ℕ) (u : ℕ) → has (meet_all size met ws) u ≡ true → (has met u ≡ true) ⊎ (has ws u ≡ true)
all_cases size met [] u h = inl h
all_cases size met (w ∷ ws) u h = ⊎_elim
    (λ e. ⊎_elim inl (λ same. inr (or_left _ _ (eq-eqb w u same))) (meet_cases size met w u e))
    (λ e. inr (or_right _ _ e))
    (all_cases size (meet size met w) ws u h)

all_kept : (size : ℕ) (met ws : List ℕ) (u : ℕ) → has met u ≡ true → has (meet_all size met ws) u ≡ true
all_kept size met [] u h = h
all_kept size met (w ∷ ws) u h = all_kept size (meet size met w) ws u (meet_kept size met w u h)

all_met : (size : ℕ) (met ws : List ℕ) (u : ℕ) → u < size → has ws u ≡ true → has (meet_all size met ws) u ≡ true
all_met size met [] u low h = absurd (both_ways false refl h)
all_met size met (w ∷ ws) u low h = ⊎_elim
    (λ e. all_kept size (meet size met w) ws u (subst (λ x. has (meet size met w) x ≡ true) (eqb-true w u e) (meet_has size met w (omega (arith, eqb-true w u e)))))
    (λ e. all_met size (meet size met w) ws u low e)
    (or_cases _ _ h)

all_front : (size : ℕ) (met ws : List ℕ) (k : ℕ) → k < length met → get_or (meet_all size met ws) k 0 ≡ get_or met k 0
all_front size met [] k h = refl
all_front size met (w ∷ ws) k h = let f = meet_front size met w k h in all_front size (meet size met w) ws k f.0 ∙ f.1

-- ---- the search

module _ (size : ℕ) (targets : ℕ → List ℕ) (v : ℕ) where
  pub spreads_start : Spreads size targets v (meet_all size [] (targets v)) 0
  spreads_start = record {
    reached = λ w h. ⊎_elim (λ e. absurd (both_ways false refl e)) (λ e. one e) (all_cases size [] (targets v) w h);
    first = λ w low h. all_met size [] (targets v) w low h;
    onward = λ k w h. absurd (omega arith);
  }

  -- one node more, u, has met its targets
  pub spreads_more : (met : List ℕ) (done u : ℕ) → Spreads size targets v met done → slice_get met done ≡ Some u → Spreads size targets v (meet_all size met (targets u)) (done + 1)
  spreads_more met done u s at = record {
    reached = λ w h. ⊎_elim (λ e. s.reached w e) (λ e. joined (s.reached u (subst (λ x. has met x ≡ true) here (has_get_or met done low))) (one e)) (all_cases size met (targets u) w h);
    first = λ w l h. all_kept size met (targets u) w (s.first w l h);
    onward = λ k w h l e. ⊎_elim
        (λ same. all_met size met (targets u) w l (subst (λ x. has (targets x) w ≡ true) (all_front size met (targets u) k (omega (arith, low)) ∙ ap (λ i. get_or met i 0) same ∙ here) e))
        (λ other. all_kept size met (targets u) w (s.onward k w (omega (arith, low)) l (subst (λ x. has (targets x) w ≡ true) (all_front size met (targets u) k (omega (arith, low))) e)))
        (cases_eq k done);
  }
    where
      here : get_or met done 0 ≡ u
      here = get_or_from_slice_get met done u 0 at

      low : done < length met
      low = slice_get_within met done u at

module _ (size : ℕ) (targets : ℕ → List ℕ) (finite : Finite size targets) where
  -- only nodes have a way on
  pub path_inside : {v w : ℕ} → Path targets v w → v < size
  path_inside {v} {w} (one h) = finite.inside v w h
  path_inside {v} (more {a = b} h p) = finite.inside v b h

  module _ (v : ℕ) (met : List ℕ) (done : ℕ) (s : Spreads size targets v met done) (end : slice_get met done ≡ None) where
    all_done : length met ≤ done
    all_done = ⊎_elim (λ low. absurd (let e = slice_get-get_or met done 0 low in cc)) (λ past. past) (cases_lt done (length met))

    onwards : (u w : ℕ) → w < size → has met u ≡ true → has (targets u) w ≡ true → has met w ≡ true
    onwards u w low h e =
        let at = has_index met u h in
        s.onward at.0 w (omega (arith, at.1, all_done)) low (subst (λ x. has (targets x) w ≡ true) (sym at.2) e)

    all_onward : {u w : ℕ} → w < size → has met u ≡ true → Path targets u w → has met w ≡ true
    all_onward {u} {w} low h (one e) = onwards u w low h e
    all_onward {u} low h (more {a = b} e p) = all_onward low (onwards u b (path_inside p) h e) p

    from_start : (w : ℕ) → w < size → Path targets v w → has met w ≡ true
    from_start w low (one e) = s.first w low e
    from_start w low (more {a = b} e p) = all_onward low (s.first b (path_inside p) e) p

    pub spreads_end : Reached size targets v met
    spreads_end = record { reached = s.reached; complete = from_start }
