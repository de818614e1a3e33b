-- What the answers say of the numbers that they stand for. Assumes nothing.
use Rattle.std.proofs.Common.{◌≡◌, ℕ, zero, suc, ◌+◌, ◌<◌, ◌≤◌, Bool, true, false, List, [], ◌∷◌, ◌++◌, get_or, map, append_assoc, length, not, find, is_none, is_some, unwrap_or, option_map, Some, None, Ok, Err, Option, Result, sym, refl, ap, ◌∙◌, subst, ⊎_elim, arith}
use Rattle.std.specs.List.{range_with_len}
use Rattle.std.proofs.lemmas.Bool.{both_ways, cases_Bool, cond-true, cond-false, or_right, or_cases, eqb-true, cases_eq}
use Rattle.ir.specs.Entities.{not_live, values, too_few}
use Rattle.ir.specs.Operations.{compute}
use Rattle.ir.specs.Refusals.{answer_unless, because, first}
use Rattle.ir.specs.declared.refusal.Refusal.{Refusal}
use Rattle.ir.specs.declared.refusal.Cause.TheVariants.{NotInteger, InputTooWide}
use Rattle.flow.specs.Meaning.{Flow, here, node, def_of, live, present, used, has, width_of}
use Rattle.flow.specs.Number.{Traps, def_number, number_of}
use Rattle.ir.specs.Options.{and_then, or_else}
use Rattle.flow.specs.Rounds.{all_of}
use Rattle.flow.specs.Walk.{Topological, walk}
use Rattle.flow.specs.declared.definition.ValueDef.{ValueDef}
use Rattle.flow.specs.declared.definition.ValueDef.TheVariants.{Constant, Operation, Variable, Deleted}
use Rattle.flow.proofs.Among.{has_here, has_push}
use Rattle.flow.proofs.Places.{topological_left, topological_operands, walk_topological}
use Rattle.ir.proofs.Options.{none_is_no_some, some_injective}
use Rattle.flow.proofs.Unfolds.{number_unfolds}
use Rattle.flow.proofs.Walks.{walk_is_post_order}
use Rattle.souper.specs.Check.{broken_at, first_bad}
use Rattle.souper.specs.Rows.{row_number}
use Rattle.eval.specs.Known.{at}
use Rattle.eval.specs.RowAnswer.{first_undefined, unasked_row, undefined, undefined_at, unfit}
use Rattle.eval.specs.Theorems.{AnsweredNumbers, AnsweredRowNumbers, AnsweredTraps, AnsweredUndefined}
use Rattle.eval.proofs.Answers.{alive_if_asked}
use Rattle.eval.specs.ValueAnswer.{first_trap, inputs_fit, too_wide, trapped, trapped_at, unasked}

-- ---- answers and refusals

-- a number is answered where nothing stands against it
answered : (a b c : Option Refusal) (m n : ℕ) → ◌≡◌ {A = Result ℕ Refusal} (answer_unless (or_else a (or_else b c)) m) (Ok n) → (c ≡ None) × (m ≡ n)
answered (Some why) b c m n e = cc
answered None (Some why) c m n e = cc
answered None None (Some why) m n e = cc
answered None None None m n e = (refl, cc)

-- a refusal that neither of the first checks gives is that of the last
refused : (a b c : Option Refusal) (m : ℕ) (why : Refusal) → (a ≡ Some why → ⊥) → (b ≡ Some why → ⊥) → ◌≡◌ {A = Result ℕ Refusal} (answer_unless (or_else a (or_else b c)) m) (Err why) → (a ≡ None) × (c ≡ Some why)
refused (Some other) b c m why p q e = absurd (p (cc))
refused None (Some other) c m why p q e = absurd (q (cc))
refused None None (Some other) m why p q e = (refl, cc)
refused None None None m why p q e = cc

-- a refusal of another cause is another refusal
other_cause : (a b : Refusal) → (a.cause ≡ b.cause → ⊥) → Some a ≡ Some b → ⊥
other_cause a b n e = n (ap (λ (r : Refusal). r.cause) (some_injective a b e))

-- ---- what is found

-- nothing is found where no place passes
none_passes : (p : ℕ → Bool) (vs : List ℕ) → find p vs ≡ None → (u : ℕ) → has vs u ≡ true → p u ≡ false
none_passes p [] e u h = absurd (both_ways false refl h)
none_passes p (v ∷ vs) e u h = ⊎_elim
    (λ yes. let z : Some v ≡ None = sym (cond-true _ _ _ yes) ∙ e in cc)
    (λ fails. ⊎_elim (λ same. subst (λ x. p x ≡ false) (eqb-true v u same) fails) (λ later. none_passes p vs (sym (cond-false _ _ _ fails) ∙ e) u later) (or_cases _ _ h))
    (cases_Bool (p v))

record Found (p : ℕ → Bool) (vs : List ℕ) (w : ℕ) : Type 0 where
  pub front : List ℕ
  pub rest : List ℕ
  pub place : vs ≡ front ++ w ∷ rest
  pub passes : p w ≡ true
  pub before : (u : ℕ) → has front u ≡ true → p u ≡ false

found : (p : ℕ → Bool) (vs : List ℕ) (w : ℕ) → find p vs ≡ Some w → Found p vs w
found p [] w e = cc
found p (v ∷ vs) w e = ⊎_elim
    (λ yes. let z : v ≡ w = cc_some (sym (cond-true _ _ _ yes) ∙ e) in
    record { front = []; rest = vs; place = ap (λ x. x ∷ vs) z; passes = subst (λ x. p x ≡ true) z yes; before = λ u h. absurd (both_ways false refl h) })
    (λ fails. let f = found p vs w (sym (cond-false _ _ _ fails) ∙ e) in
    record {
      front = v ∷ f.front;
      rest = f.rest;
      place = ap (λ (l : List ℕ). v ∷ l) f.place;
      passes = f.passes;
      before = λ u h. ⊎_elim (λ same. subst (λ x. p x ≡ false) (eqb-true v u same) fails) (λ later. f.before u later) (or_cases _ _ h);
    })
    (cases_Bool (p v))
  where
    cc_some : {x y : ℕ} → Some x ≡ Some y → x ≡ y
    cc_some e = cc

some_if_not_none : (x : Option ℕ) → is_none x ≡ false → is_some x ≡ true
some_if_not_none (Some n) e = refl
some_if_not_none None e = absurd (both_ways _ e refl)

none_if_none : (x : Option ℕ) → is_none x ≡ true → x ≡ None
none_if_none (Some n) e = absurd (both_ways _ refl e)
none_if_none None e = refl

some_is : (x : Option ℕ) (n : ℕ) → is_none x ≡ false → unwrap_or x 0 ≡ n → x ≡ Some n
some_is (Some m) n e q = ap Some q
some_is None n e q = absurd (both_ways _ e refl)

-- ---- values

pub answered_numbers : AnsweredNumbers
answered_numbers g lawful inputs v room n e =
    let a = answered (unasked g inputs v room) (too_wide g inputs v) (trapped g inputs v) _ n e in
    some_is (number_of g (at inputs) v) n
    (none_passes (λ u. is_none (number_of g (at inputs) u)) (walk g v) (no_trap (first_trap g inputs (walk g v)) a.0) v ((walk_is_post_order g lawful v).complete v (here refl)))
    a.1
  where
    no_trap : (o : Option ℕ) → option_map trapped_at o ≡ None → o ≡ None
    no_trap None e = refl
    no_trap (Some w) e = cc

-- all operands have numbers
all_given : (f : ℕ → Option ℕ) (vs : List ℕ) → ((u : ℕ) → has vs u ≡ true → is_some (f u) ≡ true) → (ns : List ℕ) × (all_of (map f vs) ≡ Some ns)
all_given f [] all = ([], refl)
all_given f (v ∷ vs) all = at (f v) (all v (has_here v vs)) (all_given f vs (λ u h. all u (or_right _ _ h)))
  where
    at : (o : Option ℕ) → is_some o ≡ true → (ns : List ℕ) × (all_of (map f vs) ≡ Some ns) → (ns : List ℕ) × (and_then o (λ n. and_then (all_of (map f vs)) (λ ms. Some (n ∷ ms))) ≡ Some ns)
    at (Some n) s r = (n ∷ r.0, ap (λ (o : Option (List ℕ)). and_then o (λ ms. Some (n ∷ ms))) r.1)
    at None s r = absurd (both_ways _ refl s)

-- a live value without a number, all of whose operands have numbers, traps
traps_itself : (g : Flow) (inputs : ℕ → ℕ) (w : ℕ) (d : ValueDef) → def_of g w ≡ d → live g w ≡ true → ((u : ℕ) → has (used d) u ≡ true → is_some (number_of g inputs u) ≡ true)
    → def_number g inputs (number_of g inputs) (node g w) d ≡ None → Traps g inputs w
traps_itself g inputs w (Constant z) is alive all e = cc
traps_itself g inputs w (Operation o c args) is alive all e =
    let given = all_given (number_of g inputs) (values args) all in
    record { opcode = o; condition = c; args = args; numbers = given.0; operation = is; given = given.1; nothing = sym (ap (λ (ns : Option (List ℕ)). and_then ns (compute o c (width_of g w) (width_of g (get_or (values args) 0 0)))) given.1) ∙ e }
traps_itself g inputs w Variable is alive all e = cc
traps_itself g inputs w Deleted is alive all e = absurd (both_ways _ (ap present is) alive)

no_trap_before : (b c d e : Bool) (m n w : ℕ) → first ((b, not_live) ∷ (c, too_few m) ∷ (d, too_few n) ∷ (e, because NotInteger) ∷ []) ≡ Some (trapped_at w) → ⊥
no_trap_before true c d e m n w q = other_cause _ (trapped_at w) (λ z. cc) q
no_trap_before false true d e m n w q = other_cause _ (trapped_at w) (λ z. cc) q
no_trap_before false false true e m n w q = other_cause _ (trapped_at w) (λ z. cc) q
no_trap_before false false false true m n w q = other_cause _ (trapped_at w) (λ z. cc) q
no_trap_before false false false false m n w q = none_is_no_some _ q

no_trap_in_inputs : (b : Bool) (w : ℕ) → first ((b, because InputTooWide) ∷ []) ≡ Some (trapped_at w) → ⊥
no_trap_in_inputs true w q = other_cause _ (trapped_at w) (λ z. cc) q
no_trap_in_inputs false w q = none_is_no_some _ q

trap_place : (o : Option ℕ) (w : ℕ) → option_map trapped_at o ≡ Some (trapped_at w) → o ≡ Some w
trap_place None w e = none_is_no_some _ e
trap_place (Some u) w e = ap (λ (r : Refusal). Some r.place) (some_injective _ _ e)

pub answered_traps : AnsweredTraps
answered_traps g lawful inputs v room w e =
    let r = refused (unasked g inputs v room) (too_wide g inputs v) (trapped g inputs v) _ (trapped_at w)
    (no_trap_before _ _ _ _ 1024 (length g) w) (no_trap_in_inputs (not (inputs_fit g inputs (walk g v))) w) e in
    let f = found (λ u. is_none (number_of g (at inputs) u)) (walk g v) w (trap_place (first_trap g inputs (walk g v)) w r.1) in
    let whole = walk_topological g lawful v (alive_if_asked g inputs v room r.0) in
    let order = topological_left g (f.front ++ w ∷ []) f.rest (subst (Topological g) (f.place ∙ sym (append_assoc f.front (w ∷ []) f.rest)) whole) in
    record {
      front = f.front;
      rest = f.rest;
      place = f.place;
      traps = traps_itself g (at inputs) w (def_of g w) refl (order.alive w (has_push f.front w))
          (λ u h. some_if_not_none _ (f.before u (topological_operands g f.front w u order h)))
          (sym (number_unfolds g (at inputs) w) ∙ none_if_none _ f.passes);
      before = λ u h. some_if_not_none _ (f.before u h);
    }

-- ---- rows

-- what is found among n numbers from a on
first_of_range : (p : ℕ → Bool) (a n k : ℕ) → find p (range_with_len a n) ≡ Some k → (k < a + n) × (p k ≡ true) × ((j : ℕ) → a ≤ j → j < k → p j ≡ false)
first_of_range p a zero k e = none_is_no_some _ e
first_of_range p a (suc n) k e = ⊎_elim
    (λ yes. let z : a ≡ k = some_injective _ _ (sym (cond-true _ _ _ yes) ∙ e) in (omega arith, subst (λ x. p x ≡ true) z yes, λ j l h. absurd (omega arith)))
    (λ fails. let f = first_of_range p (a + 1) n k (sym (cond-false _ _ _ fails) ∙ e) in
    (omega (arith, f.0), f.1, λ j l h. ⊎_elim (λ same. subst (λ x. p x ≡ false) (sym same) fails) (λ other. f.2 j (omega arith) h) (cases_eq j a)))
    (cases_Bool (p a))

none_of_range : (p : ℕ → Bool) (a n k : ℕ) → find p (range_with_len a n) ≡ None → a ≤ k → k < a + n → p k ≡ false
none_of_range p a zero k e l h = absurd (omega arith)
none_of_range p a (suc n) k e l h = ⊎_elim
    (λ yes. none_is_no_some _ (sym e ∙ cond-true _ _ _ yes))
    (λ fails. ⊎_elim (λ same. subst (λ x. p x ≡ false) (sym same) fails) (λ other. none_of_range p (a + 1) n k (sym (cond-false _ _ _ fails) ∙ e) (omega arith) (omega arith)) (cases_eq k a))
    (cases_Bool (p a))

pub answered_row_numbers : AnsweredRowNumbers
answered_row_numbers rows inputs r n e =
    let a = answered (unfit rows) (unasked_row rows inputs r) (undefined rows inputs r) _ n e in
    some_is (row_number rows (at inputs) r) n (none_of_range _ 0 (r + 1) r (nothing (first_undefined rows inputs (r + 1)) a.0) (omega arith) (omega arith)) a.1
  where
    nothing : (o : Option ℕ) → option_map undefined_at o ≡ None → o ≡ None
    nothing None e = refl
    nothing (Some w) e = cc

no_undefined_in_widths : (o : Option ℕ) (k : ℕ) → option_map broken_at o ≡ Some (undefined_at k) → ⊥
no_undefined_in_widths None k q = none_is_no_some _ q
no_undefined_in_widths (Some r) k q = other_cause _ (undefined_at k) (λ z. cc) q

no_undefined_before : (b c d : Bool) (n k : ℕ) → first ((b, not_live) ∷ (c, too_few n) ∷ (d, because InputTooWide) ∷ []) ≡ Some (undefined_at k) → ⊥
no_undefined_before true c d n k q = other_cause _ (undefined_at k) (λ z. cc) q
no_undefined_before false true d n k q = other_cause _ (undefined_at k) (λ z. cc) q
no_undefined_before false false true n k q = other_cause _ (undefined_at k) (λ z. cc) q
no_undefined_before false false false n k q = none_is_no_some _ q

undefined_place : (o : Option ℕ) (k : ℕ) → option_map undefined_at o ≡ Some (undefined_at k) → o ≡ Some k
undefined_place None k e = none_is_no_some _ e
undefined_place (Some u) k e = ap (λ (r : Refusal). Some r.place) (some_injective _ _ e)

pub answered_undefined : AnsweredUndefined
answered_undefined rows inputs r k e =
    let t = refused (unfit rows) (unasked_row rows inputs r) (undefined rows inputs r) _ (undefined_at k)
    (no_undefined_in_widths (first_bad rows 0 rows) k) (no_undefined_before _ _ _ (length rows) k) e in
    let f = first_of_range (λ j. is_none (row_number rows (at inputs) j)) 0 (r + 1) k (undefined_place (first_undefined rows inputs (r + 1)) k t.1) in
    record { upto = omega (arith, f.0); none = none_if_none _ f.1; before = λ j h. some_if_not_none _ (f.2 j (omega arith) h) }
