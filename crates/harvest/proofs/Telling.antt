-- What the operands of a value tell of what it reaches. Assumes nothing.
use Rattle.std.proofs.Common.{◌≡◌, ℕ, ◌+◌, ◌≤◌, true, false, ◌⊎◌, List, [], ◌∷◌, Err, sym, refl, ap, ◌∙◌, subst, inl, inr, ⊎_elim, arith}
use Rattle.std.specs.List.{list_any}
use Rattle.std.proofs.lemmas.Bool.{both_ways, cases_Bool, le-leb, leb-true, lt-leb, cases_lt, or_cases}
use Rattle.ir.specs.Bitvectors.{truth}
use Rattle.flow.specs.Meaning.{Flow, Lawful, Reach, here, through, def_of, has, live, present, used, uses}
use Rattle.flow.specs.Walk.{walk}
use Rattle.flow.proofs.Among.{none_among}
use Rattle.flow.proofs.Walks.{walk_is_post_order}
use Rattle.flow.specs.declared.definition.ValueDef.{ValueDef}
use Rattle.flow.specs.declared.definition.ValueDef.TheVariants.{Constant, Operation, Variable, Deleted}
use Rattle.walk.specs.Outcome.{Walked}
use Rattle.walk.specs.declared.dfs.WalkError.{WalkError}
use Rattle.walk.specs.declared.dfs.WalkError.TheVariants as errors
use Rattle.souper.specs.Counted.{counted, is_counted}
use Rattle.souper.specs.Translation.{shape, shape_of}
use Rattle.harvest.specs.Roots.{ReachesTwo, is_operation, reaches_two}
use Rattle.harvest.proofs.Candidates.{a_counted, reached_two, two_reached}

-- what is no operation uses nothing and is not counted
lone : (g : Flow) (def : ValueDef) → is_operation def ≡ false → (used def ≡ []) × (is_counted (shape_of g def) ≡ false)
lone g (Constant z) e = (refl, refl)
lone g (Operation o c args) e = absurd (both_ways true e refl)
lone g Variable e = (refl, refl)
lone g Deleted e = (refl, refl)

module _ (g : Flow) where
  one_counted : (vs : List ℕ) → list_any (λ u. is_counted (shape g u)) vs ≡ true → 1 ≤ counted g vs
  one_counted [] h = absurd (both_ways false refl h)
  one_counted (v ∷ vs) h = at (or_cases _ _ h) (one_counted vs)
    where
      at : (is_counted (shape g v) ≡ true) ⊎ (list_any (λ u. is_counted (shape g u)) vs ≡ true) → (list_any (λ u. is_counted (shape g u)) vs ≡ true → 1 ≤ counted g vs) → 1 ≤ truth (is_counted (shape g v)) + counted g vs
      at (inl e) later = omega (arith, ap truth e)
      at (inr e) later = omega (arith, later e)

  module _ (lawful : Lawful g) (v : ℕ) where
    -- a counted value with a counted operand reaches two: nothing uses itself
    pub two_at_hand : is_counted (shape g v) ≡ true → list_any (λ u. is_counted (shape g u)) (uses g v) ≡ true → reaches_two g v ≡ true
    two_at_hand own some =
        let w = a_counted g (uses g v) (one_counted (uses g v) some) in
        le-leb 2 _ (
        reached_two g lawful v (record {
          one = v;
          other = w.0;
          apart = λ same. lawful.loopless v w.0 w.1 (here (sym same));
          reaches_one = here refl;
          reaches_other = through w.0 w.1 (here refl);
          counts_one = own;
          counts_other = w.2;
        })
        )

    -- where no operand is an operation, no counted value but v itself is reached
    itself : list_any (λ u. is_operation (def_of g u)) (uses g v) ≡ false → (u : ℕ) → Reach g v u → is_counted (shape g u) ≡ true → v ≡ u
    itself none u (here e) c = e
    itself none u (through w h r) c = absurd (at r)
      where
        leaf : (used (def_of g w) ≡ []) × (is_counted (shape g w) ≡ false)
        leaf = lone g (def_of g w) (none_among (λ x. is_operation (def_of g x)) (uses g v) w h none)

        at : Reach g w u → ⊥
        at (here e) = both_ways _ leaf.1 (subst (λ x. is_counted (shape g x) ≡ true) (sym e) c)
        at (through x k s) = both_ways false refl (subst (λ xs. has xs x ≡ true) leaf.0 k)

    pub none_at_hand : list_any (λ u. is_operation (def_of g u)) (uses g v) ≡ false → reaches_two g v ≡ false
    none_at_hand none =
        lt-leb 2 _ (
        ⊎_elim (λ lt. lt)
        (λ le. let t = two_reached g lawful v le in absurd (t.apart (sym (itself none t.one t.reaches_one t.counts_one) ∙ itself none t.other t.reaches_other t.counts_other)))
        (cases_lt (counted g (walk g v)) 2)
        )

    pub two_there : reaches_two g v ≡ true → ReachesTwo g v
    two_there e = two_reached g lawful v (leb-true 2 _ e)

    pub no_two : reaches_two g v ≡ false → ReachesTwo g v → ⊥
    no_two e r = both_ways _ e (le-leb 2 _ (reached_two g lawful v r))

    -- ---- what is not live

    nothing : (def : ValueDef) → present def ≡ false → (used def ≡ []) × (is_counted (shape_of g def) ≡ false)
    nothing (Constant z) e = absurd (both_ways true e refl)
    nothing (Operation o c args) e = absurd (both_ways true e refl)
    nothing Variable e = absurd (both_ways true e refl)
    nothing Deleted e = (refl, refl)

    no_operand : live g v ≡ false → list_any (λ u. is_operation (def_of g u)) (uses g v) ≡ false
    no_operand dead = ap (list_any (λ u. is_operation (def_of g u))) (nothing (def_of g v) dead).0

    -- what reaches two is live
    pub two_live : reaches_two g v ≡ true → live g v ≡ true
    two_live two = ⊎_elim (λ is. is) (λ dead. absurd (both_ways _ (none_at_hand (no_operand dead)) two)) (cases_Bool (live g v))

    -- what is not live reaches nothing that is counted
    pub none_dead : live g v ≡ false → counted g (walk g v) ≡ 0
    none_dead dead = ⊎_elim
        (λ lt. omega arith)
        (λ le.
        let u = a_counted g (walk g v) le in
        let is = itself (no_operand dead) u.0 ((walk_is_post_order g lawful v).reached u.0 u.1) u.2 in
        absurd (both_ways _ (nothing (def_of g v) dead).1 (subst (λ x. is_counted (shape g x) ≡ true) (sym is) u.2)))
        (cases_lt (counted g (walk g v)) 1)

    -- a walk that is never stopped is refused where nothing live is there
    pub refused : {S : Type 0} (room : ℕ) (Fits : List ℕ → Type 0) (e : WalkError S) → 1024 ≤ room → Walked g v room Fits (λ shown s. ⊥) (Err e) → live g v ≡ false
    refused room Fits (errors.Refused why) enough w = ⊎_elim (λ short. absurd (omega arith)) (λ dead. dead) w
    refused room Fits (errors.Stopped s) enough w = absurd w.stops
