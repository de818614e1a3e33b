-- Which values have candidates, by what they reach. Assumes nothing.
use Rattle.std.proofs.Common.{◌≡◌, ℕ, ◌+◌, ◌<◌, ◌≤◌, Bool, true, false, cond, eqb, ◌↔◌, List, [], ◌∷◌, map, length, Some, None, Option, sym, refl, ap, ◌∙◌, subst, ⊎_elim, arith}
use Rattle.std.specs.List.{cons_option}
use Rattle.std.proofs.lemmas.Bool.{and_parts, and_from, both_ways, eqb-true, leb-true, le-leb, or_cases, or_from, or_right, ne_eqb}
use Rattle.ir.specs.Bitvectors.{truth}
use Rattle.ir.specs.Entities.{value}
use Rattle.ir.specs.Widths.{is_integer}
use Rattle.ir.specs.declared.entities.Value.{Value}
use Rattle.flow.specs.Layout.{Layout, LawfulLayout, InstRow, inst_at, order_of}
use Rattle.flow.specs.Meaning.{Flow, Lawful, has, width_of}
use Rattle.ir.specs.Options.{and_then}
use Rattle.flow.specs.Walk.{walk, Distinct}
use Rattle.flow.proofs.Among.{has_here}
use Rattle.flow.proofs.Orders.{layout_order}
use Rattle.ir.proofs.Options.{none_is_no_some, some_injective}
use Rattle.flow.proofs.Steps.{sum_among}
use Rattle.flow.proofs.Walks.{walk_is_post_order}
use Rattle.souper.specs.Counted.{counted, is_counted}
use Rattle.souper.specs.Translation.{shape}
use Rattle.harvest.specs.Roots.{IsCandidate, ReachesTwo, RootsReachTwo, is_root, root_at, roots, roots_at}
use Rattle.harvest.specs.declared.harvest.Lhs.{Lhs}

-- ---- two counted operations or more

module _ (g : Flow) where
  abbrev Counted : ℕ → Type 0
  Counted u = is_counted (shape g u) ≡ true

  pub a_counted : (vs : List ℕ) → 1 ≤ counted g vs → (u : ℕ) × (has vs u ≡ true) × Counted u
  a_counted [] h = absurd (omega arith)
  a_counted (v ∷ vs) h = at (is_counted (shape g v)) refl h (a_counted vs)
    where
      at : (b : Bool) → is_counted (shape g v) ≡ b → 1 ≤ truth b + counted g vs → (1 ≤ counted g vs → (u : ℕ) × (has vs u ≡ true) × Counted u) → (u : ℕ) × (has (v ∷ vs) u ≡ true) × Counted u
      at true e k ih = (v, has_here v vs, e)
      at false e k ih = let u = ih (omega arith) in (u.0, or_right _ _ u.1, u.2)

  abbrev Pair : List ℕ → Type 0
  Pair vs = (u : ℕ) × (w : ℕ) × (u ≡ w → ⊥) × (has vs u ≡ true) × (has vs w ≡ true) × Counted u × Counted w

  two_counted : (vs : List ℕ) → Distinct vs → 2 ≤ counted g vs → Pair vs
  two_counted [] d h = absurd (omega arith)
  two_counted (v ∷ vs) d h = at (is_counted (shape g v)) refl h (two_counted vs d.1)
    where
      at : (b : Bool) → is_counted (shape g v) ≡ b → 2 ≤ truth b + counted g vs → (2 ≤ counted g vs → Pair vs) → Pair (v ∷ vs)
      at true e k ih =
          let w = a_counted vs (omega arith) in
          (v, w.0, λ same. both_ways _ d.0 (subst (λ x. has vs x ≡ true) (sym same) w.1), has_here v vs, or_right _ _ w.1, e, w.2)
      at false e k ih = let p = ih (omega arith) in (p.0, p.1, p.2, or_right _ _ p.3, or_right _ _ p.4, p.5, p.6)

  counted_pair : (u w : ℕ) → Counted u → Counted w → 2 ≤ counted g (u ∷ w ∷ [])
  counted_pair u w a b = omega (arith, ap truth a, ap truth b)

  module _ (lawful : Lawful g) (v : ℕ) where
    pub two_reached : 2 ≤ counted g (walk g v) → ReachesTwo g v
    two_reached h =
        let post = walk_is_post_order g lawful v in
        let p = two_counted (walk g v) post.once h in
        record {
          one = p.0;
          other = p.1;
          apart = p.2;
          reaches_one = post.reached p.0 p.3;
          reaches_other = post.reached p.1 p.4;
          counts_one = p.5;
          counts_other = p.6;
        }

    pub reached_two : ReachesTwo g v → 2 ≤ counted g (walk g v)
    reached_two r =
        let post = walk_is_post_order g lawful v in
        omega (
          arith,
          counted_pair r.one r.other r.counts_one r.counts_other,
          sum_among (λ u. truth (is_counted (shape g u))) (counted g) refl (λ u vs. refl) (r.one ∷ r.other ∷ []) (walk g v) (pair_distinct, (refl, tt)) in_walk,
        )
      where
        pair_distinct : has (r.other ∷ []) r.one ≡ false
        pair_distinct = or_from _ _ (ne_eqb r.other r.one (λ e. r.apart (sym e))) refl

        in_walk : (u : ℕ) → has (r.one ∷ r.other ∷ []) u ≡ true → has (walk g v) u ≡ true
        in_walk u h =
            let post = walk_is_post_order g lawful v in
            ⊎_elim (λ e. subst (λ x. has (walk g v) x ≡ true) (eqb-true r.one u e) (post.complete r.one r.reaches_one))
            (λ e. ⊎_elim (λ e'. subst (λ x. has (walk g v) x ≡ true) (eqb-true r.other u e') (post.complete r.other r.reaches_other)) (λ e'. absurd (both_ways false refl e')) (or_cases _ _ e))
            (or_cases _ _ h)

    pub root_reaches : is_root g v ≡ true → (is_integer (width_of g v) ≡ true) × ReachesTwo g v
    root_reaches h = let p = and_parts _ _ h in (p.0, two_reached (leb-true 2 _ p.1))

    pub reaches_root : is_integer (width_of g v) ≡ true → ReachesTwo g v → is_root g v ≡ true
    reaches_root i r = and_from _ _ i (le-leb 2 _ (reached_two r))

pub roots_reach_two : RootsReachTwo
roots_reach_two g lawful v = (root_reaches g lawful v, λ p. reaches_root g lawful v p.0 p.1)

-- ---- the root at an instruction

-- it is the single result
pub is_root_at : (g : Flow) (i : InstRow) (root : Value) → root_at g i ≡ Some root → (i.result ≡ Some root) × (is_root g root.0 ≡ true)
is_root_at g i root e = at i.result e
  where
    one : (b : Bool) (v : Value) → is_root g v.0 ≡ b → cond b (Some v) None ≡ Some root → (Some v ≡ Some root) × (is_root g root.0 ≡ true)
    one true v is e' = (e', subst (λ (w : Value). is_root g w.0 ≡ true) (some_injective v root e') is)
    one false v is e' = none_is_no_some root e'

    at : (r : Option Value) → and_then r (λ v. cond (is_root g v.0) (Some v) None) ≡ Some root → (r ≡ Some root) × (is_root g root.0 ≡ true)
    at None e' = none_is_no_some root e'
    at (Some v) e' = one (is_root g v.0) v refl e'

-- ---- the roots of a graph

module _ (g : Flow) (l : Layout) where
  abbrev numbers : List Value → List ℕ
  numbers vs = map (λ (v : Value). v.0) vs

  abbrev Stands : List ℕ → ℕ → Type 0
  Stands ns v = (i : ℕ) × (has ns i ≡ true) × (root_at g (inst_at l i) ≡ Some (value v))

  -- a root among those at some instructions is at one of them
  roots_stand_at : (ns : List ℕ) (v : ℕ) → has (numbers (roots_at g (map (inst_at l) ns))) v ≡ true → Stands ns v
  roots_stand_at [] v h = absurd (both_ways false refl h)
  roots_stand_at (i ∷ ns) v h = at (root_at g (inst_at l i)) refl h (λ k. let r = roots_stand_at ns v k in (r.0, or_right _ _ r.1, r.2))
    where
      at : (o : Option Value) → root_at g (inst_at l i) ≡ o → has (numbers (cons_option o (roots_at g (map (inst_at l) ns)))) v ≡ true
          → (has (numbers (roots_at g (map (inst_at l) ns))) v ≡ true → Stands (i ∷ ns) v) → Stands (i ∷ ns) v
      at None e k later = later k
      at (Some r) e k later = ⊎_elim (λ q. (i, has_here i ns, e ∙ ap (λ n. Some (value n)) (eqb-true r.0 v q))) later (or_cases _ _ k)

  at_roots_stand : (ns : List ℕ) (i v : ℕ) → has ns i ≡ true → root_at g (inst_at l i) ≡ Some (value v) → has (numbers (roots_at g (map (inst_at l) ns))) v ≡ true
  at_roots_stand [] i v h e = absurd (both_ways false refl h)
  at_roots_stand (j ∷ ns) i v h e = ⊎_elim here (λ q. later (root_at g (inst_at l j)) (at_roots_stand ns i v q e)) (or_cases _ _ h)
    where
      here : eqb j i ≡ true → has (numbers (roots_at g (map (inst_at l) (j ∷ ns)))) v ≡ true
      here q =
          let r : root_at g (inst_at l j) ≡ Some (value v) = ap (λ n. root_at g (inst_at l n)) (eqb-true j i q) ∙ e in
          subst (λ o. has (numbers (cons_option o (roots_at g (map (inst_at l) ns)))) v ≡ true) (sym r) (has_here v _)

      later : (o : Option Value) → has (numbers (roots_at g (map (inst_at l) ns))) v ≡ true → has (numbers (cons_option o (roots_at g (map (inst_at l) ns)))) v ≡ true
      later None k = k
      later (Some r) k = or_right _ _ k

  module _ (lawful : Lawful g) where
    pub root_candidate : (i v : ℕ) → i < length l.insts → root_at g (inst_at l i) ≡ Some (value v) → IsCandidate g l v
    root_candidate i v lt e =
        let r = is_root_at g (inst_at l i) (value v) e in
        let p = root_reaches g lawful v r.1 in
        record { inst = i; exists = lt; result = r.0; integer = p.0; two = p.1 }

    candidate_root : (v : ℕ) → (is : IsCandidate g l v) → root_at g (inst_at l is.inst) ≡ Some (value v)
    candidate_root v is =
        ap (λ r. and_then r (λ (w : Value). cond (is_root g w.0) (Some w) None)) is.result
        ∙ ap (λ b. cond b (Some (value v)) None) (reaches_root g lawful v is.integer is.two)

    pub exactly : LawfulLayout g l → (all : List Lhs) → map (λ (lhs : Lhs). lhs.root) all ≡ roots g l → (v : ℕ) → (has (map (λ (lhs : Lhs). lhs.root.0) all) v ≡ true) ↔ IsCandidate g l v
    exactly laid all order v =
        let laid_out = layout_order g l laid in
        let same : map (λ (lhs : Lhs). lhs.root.0) all ≡ numbers (roots_at g (map (inst_at l) (order_of l))) = roots_of all ∙ ap numbers (order ∙ ap (roots_at g) laid_out.rows) in (
          λ h. let r = roots_stand_at (order_of l) v (subst (λ ns. has ns v ≡ true) same h) in root_candidate r.0 v (laid_out.only r.0 r.1) r.2,
          λ is. subst (λ ns. has ns v ≡ true) (sym same) (at_roots_stand (order_of l) is.inst v (laid_out.each is.inst is.exists) (candidate_root v is)),
        )
      where
        roots_of : (xs : List Lhs) → map (λ (lhs : Lhs). lhs.root.0) xs ≡ numbers (map (λ (lhs : Lhs). lhs.root) xs)
        roots_of [] = refl
        roots_of (x ∷ xs) = ap (λ ns. x.root.0 ∷ ns) (roots_of xs)
