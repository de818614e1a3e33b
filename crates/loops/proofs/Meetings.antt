-- What a search has met after one node more. Assumes nothing.
use Rattle.std.proofs.Common.{◌≡◌, ℕ, suc, ◌+◌, ◌-◌, ◌<◌, ◌≤◌, Bool, true, false, cond, not, List, [], ◌∷◌, ◌++◌, length, get_or, drop, set, replicate, count_by, sym, refl, ap, ◌∙◌, subst, ⊎_elim, arith, length-append, length-drop}
use Rattle.std.proofs.lemmas.List.{get_or-set_same, get_or-set_other, get_or-replicate, get_or_past, get_or_append_left, get_or-append_right, get_or-drop, length-replicate}
use Rattle.std.proofs.lemmas.List.Sums.{sum_by-set, sum_by-cons}
use Rattle.std.proofs.lemmas.Bool.{both_ways, cases_lt, cases_eq}
use Rattle.flow.specs.Meaning.{has}
use Rattle.flow.proofs.Among.{has_push, has_push_cases, has_push_other, not_has}
use Rattle.loops.specs.Meeting.{Marks, Kept}

-- one element that is counted becomes one that is not
pub one_fewer : {X : Type 0} (p : X → Bool) (xs : List X) (i : ℕ) (y d : X) → i < length xs → p (get_or xs i d) ≡ true → p y ≡ false → count_by p (set xs i y) + 1 ≡ count_by p xs
one_fewer p xs i y d low old new =
    let before : ◌≡◌ {A = ℕ} (cond (p (get_or xs i d)) 1 0) 1 = ap (λ b. cond b 1 0) old in
    let after : ◌≡◌ {A = ℕ} (cond (p y) 1 0) 0 = ap (λ b. cond b 1 0) new in
    omega (arith, sum_by-set (λ x. cond (p x) 1 0) xs i y d low)

-- where nothing is marked, every place is left
room_all : (marks : List Bool) → ((w : ℕ) → get_or marks w false ≡ false) → count_by not marks ≡ length marks
room_all [] none = refl
room_all (b ∷ marks) none =
    let one : ◌≡◌ {A = ℕ} (cond (not b) 1 0) 1 = ap (λ b. cond (not b) 1 0) (none 0) in
    omega (arith, sum_by-cons (λ b. cond (not b) 1 0) b marks, room_all marks (λ w. none (suc w)))

none_marked : (n w : ℕ) → get_or (replicate n false) w false ≡ false
none_marked n w = ⊎_elim
    (λ low. get_or-replicate n w false false low)
    (λ past. get_or_past (replicate n false) w false (omega (arith, length-replicate {A = Bool} n false)))
    (cases_lt w n)

-- nothing is met where nothing is marked
unmarked_kept : (size : ℕ) (marks : List Bool) → size ≤ 1024 → length marks ≡ 1024 → ((w : ℕ) → get_or marks w false ≡ false) → Kept size marks []
unmarked_kept size marks few long none = record {
  few = few;
  inside = λ w h. absurd (both_ways false refl h);
  agree = record { room = omega (arith, room_all marks none); marked = none };
}

-- nothing is met yet
pub none_kept : (size : ℕ) → size ≤ 1024 → Kept size (replicate 1024 false) []
none_kept size few = unmarked_kept size (replicate 1024 false) few (length-replicate {A = Bool} 1024 false) (none_marked 1024)

-- nothing is met any more, once the places of the nodes are cleared: no other place was marked
pub none_left : (size : ℕ) (marks : List Bool) (met : List ℕ) → Kept size marks met → length marks ≡ 1024 → Kept size (replicate size false ++ drop size marks) []
none_left size marks met kept long =
    unmarked_kept size (replicate size false ++ drop size marks) kept.few
    (omega (arith, kept.few, length-append (replicate size false) (drop size marks), length-replicate {A = Bool} size false, length-drop size marks))
    (λ w. ⊎_elim
    (λ low. get_or_append_left (replicate size false) (drop size marks) false w (omega (arith, length-replicate {A = Bool} size false)) ∙ none_marked size w)
    (λ past.
    let back : size + (w - size) ≡ w = omega arith in
    get_or-append_right (replicate size false) (drop size marks) size w false (length-replicate {A = Bool} size false) past
    ∙ get_or-drop size marks (w - size) false ∙ ap (λ k. get_or marks k false) back ∙ kept.agree.marked w ∙ not_has met w (λ h. omega (arith, kept.inside w h)))
    (cases_lt w size))

-- one node more is met
met_more : (marks : List Bool) (met : List ℕ) (i w : ℕ) → Marks marks met → i < length marks → has met w ≡ false → i ≡ w → Marks (set marks i true) (met ++ (w ∷ []))
met_more marks met i w m low new same =
    let unmarked : get_or marks i false ≡ false = m.marked i ∙ ap (has met) same ∙ new in
    record {
      room = omega (arith, m.room, length-append met (w ∷ []), one_fewer not marks i true false low (ap not unmarked) refl);
      marked = λ u. ⊎_elim
          (λ e. subst (λ x. get_or (set marks i true) x false ≡ has (met ++ (w ∷ [])) x) (same ∙ sym e) (get_or-set_same marks i true false low ∙ sym (ap (has (met ++ (w ∷ []))) same ∙ has_push met w)))
          (λ ne. get_or-set_other marks i u true false (λ e. ne (e ∙ same)) ∙ m.marked u ∙ sym (has_push_other met w u (λ e. ne (sym e))))
          (cases_eq u w);
    }

pub kept_more : (size : ℕ) (marks : List Bool) (met : List ℕ) (i w : ℕ) → Kept size marks met → i < length marks → w < size → has met w ≡ false → i ≡ w → Kept size (set marks i true) (met ++ (w ∷ []))
kept_more size marks met i w kept low node new same = record {
  few = kept.few;
  inside = λ u h. ⊎_elim (λ e. kept.inside u e) (λ e. omega arith) (has_push_cases met w u h);
  agree = met_more marks met i w kept.agree low new same;
}
