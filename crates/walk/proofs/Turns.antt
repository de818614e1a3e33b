-- What one turn of the walk keeps. Assumes nothing.
use Rattle.std.proofs.Common.{◌≡◌, ℕ, suc, ◌+◌, ◌*◌, ◌<◌, ◌≤◌, true, false, not, eqb, List, [], ◌∷◌, ◌++◌, length, set, replicate, sym, refl, ap, ◌∙◌, subst, ⊎_elim, append_assoc, append-nil, arith, length-append, length-set, get_or-set_other, get_or-set_same}
use lib.ListN.{length-map, length-replicate}
use Rattle.std.specs.Prelude.{reverse}
use Rattle.std.specs.List.{AllByRecursion as All}
use Rattle.std.proofs.lemmas.List.{get_or-replicate, reverse-append, length-reverse}
use Rattle.std.proofs.ByRecursion.{All-append, All-map}
use Rattle.std.proofs.lemmas.Bool.{cases_eq}
use Rattle.flow.specs.Meaning.{Flow, Lawful, uses, live, has}
use Rattle.flow.specs.Walk.{walks, walk_from, walk, operand_count, step_count}
use Rattle.flow.proofs.Among.{all_among, has_push, has_push_other}
use Rattle.flow.proofs.Paths.{live_exists}
use Rattle.flow.proofs.Steps.{steps_within}
use Rattle.flow.proofs.Walks.{walk_met, walk_new, walk_adds, walk_grows, walk_is_post_order, operand_count_append}
use Rattle.walk.specs.declared.stack.StackEntry.{StackEntry}
use Rattle.walk.specs.declared.stack.StackEntry.TheVariants.{Visit, Trace}
use Rattle.ir.specs.Entities.{value}
use Rattle.ir.specs.declared.entities.Value.{Value}
use Rattle.walk.specs.Marks.{marked}
use Rattle.walk.specs.Stacked.{traced}
use Rattle.walk.specs.Outcome.{Completed, Stopped}
use Rattle.walk.specs.Going.{run, value_of, traces, owed, Turn, Walking, Came}
use Rattle.walk.specs.declared.root.Progress.{Progress}
use Rattle.walk.specs.declared.root.Progress.TheVariants.{Done, Full}

abbrev visits : List StackEntry → ℕ
visits [] = 0
visits (Visit v ∷ st) = suc (visits st)
visits (Trace v ∷ st) = visits st

both : (st : List StackEntry) → traces st + visits st ≡ length st
both [] = refl
both (Visit v ∷ st) = omega (arith, both st)
both (Trace v ∷ st) = omega (arith, both st)

run_traces : (g : Flow) (vs : List ℕ) (st : List StackEntry) (shown : List ℕ) → run g (traced vs ++ st) shown ≡ run g st (walks (walk_from g) vs shown)
run_traces g [] st shown = refl
run_traces g (v ∷ vs) st shown = run_traces g vs st (walk_from g v shown)

traces_traces : (vs : List ℕ) (st : List StackEntry) → traces (traced vs ++ st) ≡ length vs + traces st
traces_traces [] st = omega arith
traces_traces (v ∷ vs) st = omega (arith, traces_traces vs st)

owed_traces : (g : Flow) (vs : List ℕ) (st : List StackEntry) → owed g (traced vs ++ st) ≡ owed g st
owed_traces g [] st = refl
owed_traces g (v ∷ vs) st = owed_traces g vs st

module _ (g : Flow) (lawful : Lawful g) where
  run_adds : (st : List StackEntry) (shown : List ℕ) → (more : List ℕ) × (run g st shown ≡ shown ++ more)
  run_adds [] shown = ([], sym (append-nil shown))
  run_adds (Visit v ∷ st) shown =
      let r = run_adds st (shown ++ (v.0 ∷ [])) in
      ((v.0 ∷ []) ++ r.0, r.1 ∙ append_assoc shown (v.0 ∷ []) r.0)
  run_adds (Trace v ∷ st) shown =
      let r = run_adds st (walk_from g v.0 shown) in
      let w = walk_adds g lawful v.0 shown in
      (w.0 ++ r.0, r.1 ∙ ap (λ l. l ++ r.0) w.1 ∙ append_assoc shown w.0 r.0)

  run_grows : (st : List StackEntry) (shown : List ℕ) → length shown + operand_count g shown + owed g st + visits st ≤ length (run g st shown) + operand_count g (run g st shown)
  run_grows [] shown = omega arith
  run_grows (Visit v ∷ st) shown =
      omega (arith, run_grows st (shown ++ (v.0 ∷ [])), length-append shown (v.0 ∷ []), operand_count_append g shown (v.0 ∷ []))
  run_grows (Trace v ∷ st) shown = omega (arith, run_grows st (walk_from g v.0 shown), walk_grows g lawful v.0 shown)

  exists : (v : ℕ) → live g v ≡ true → v < 1024
  exists v alive = omega (arith, live_exists g v alive, lawful.few)

  first_turn : (root : ℕ) (Fits : List ℕ → Type 0) → live g root ≡ true → Fits [] → Turn g root (replicate 1024 0) (Trace (value root) ∷ []) 0 Fits
  unfolding walk
  first_turn root Fits alive start = record {
    lawful = lawful;
    alive = alive;
    shown = [];
    comes = refl;
    counted = refl;
    room = length-replicate {A = ℕ} 1024 0;
    met = λ v lt. ap (λ n. not (eqb n 0)) (get_or-replicate 1024 v 0 0 lt);
    waiting = (alive, tt);
    fits = start;
  }

module _ {g : Flow} {root : ℕ} {marks : List ℕ} {steps : ℕ} {Fits : List ℕ → Type 0} where
  to_come : {st : List StackEntry} → Turn g root marks st steps Fits → steps + length st ≤ step_count g root
  to_come {st} t =
      omega (arith, t.counted, both st, run_grows g t.lawful st t.shown, ap length t.comes, ap (operand_count g) t.comes)

  walking : {items : List StackEntry} → Turn g root marks (reverse items) steps Fits → Walking g root marks items steps Fits
  walking {items} t = record { turn = t; few = omega (arith, to_come t, steps_within g t.lawful root t.alive, length-reverse items) }

  -- What is on top is taken.
  popped : {items : List StackEntry} (rest : List StackEntry) {entry e : StackEntry} → items ≡ rest ++ (entry ∷ []) → entry ≡ e → Walking g root marks items steps Fits → Turn g root marks (e ∷ reverse rest) steps Fits
  popped rest {entry} is top w =
      subst (λ l. Turn g root marks l steps Fits) (ap reverse is ∙ reverse-append rest (entry ∷ []) ∙ ap (λ e. e ∷ reverse rest) top) w.turn

  completed : Turn g root marks [] steps Fits → Completed g root Fits steps
  completed t = record {
    alive = t.alive;
    counted = omega (arith, t.counted, ap length t.comes, ap (operand_count g) t.comes);
    shown = subst Fits t.comes t.fits;
    order = walk_is_post_order g t.lawful root;
  }

  module _ (v : ℕ) (st : List StackEntry) where
    visit_turn : (Fits' : List ℕ → Type 0) → Turn g root marks (Visit (value v) ∷ st) steps Fits → ((shown : List ℕ) → Fits shown → Fits' (shown ++ (v ∷ []))) → Turn g root (set marks v 1) st (steps + 1) Fits'
    visit_turn Fits' t next = record {
      lawful = t.lawful;
      alive = t.alive;
      shown = t.shown ++ (v ∷ []);
      comes = t.comes;
      counted = omega (arith, t.counted, length-append t.shown (v ∷ []), operand_count_append g t.shown (v ∷ []));
      room = length-set marks v 1 ∙ t.room;
      met = λ w lt. ⊎_elim (at w lt) (beside w lt) (cases_eq w v);
      waiting = t.waiting.1;
      fits = next _ t.fits;
    }
      where
        at : (w : ℕ) → w < 1024 → w ≡ v → marked (set marks v 1) w ≡ has (t.shown ++ (v ∷ [])) w
        at w lt e =
            subst (λ x. marked (set marks v 1) x ≡ has (t.shown ++ (v ∷ [])) x) (sym e)
            (ap (λ n. not (eqb n 0)) (get_or-set_same marks v 1 0 (omega (arith, t.room))) ∙ sym (has_push t.shown v))

        beside : (w : ℕ) → w < 1024 → (w ≡ v → ⊥) → marked (set marks v 1) w ≡ has (t.shown ++ (v ∷ [])) w
        beside w lt ne =
            ap (λ n. not (eqb n 0)) (get_or-set_other marks v w 1 0 ne) ∙ t.met w lt
            ∙ sym (has_push_other t.shown v w (λ e. ne (sym e)))

    stop_turn : (Stops : List ℕ → Type 0) → Turn g root marks (Visit (value v) ∷ st) steps Fits → ((shown : List ℕ) → Fits shown → Stops (shown ++ (v ∷ []))) → Stopped g root Stops
    stop_turn Stops t next =
        let r = run_adds g t.lawful st (t.shown ++ (v ∷ [])) in
        record {
          alive = t.alive;
          front = t.shown ++ (v ∷ []);
          rest = r.0;
          parts = sym t.comes ∙ r.1;
          stops = next _ t.fits;
          order = walk_is_post_order g t.lawful root;
        }

    met_turn : Turn g root marks (Trace (value v) ∷ st) steps Fits → true ≡ marked marks v → Turn g root marks st (steps + 1) Fits
    met_turn t is = record {
      lawful = t.lawful;
      alive = t.alive;
      shown = t.shown;
      comes = ap (run g st) (sym (walk_met g t.lawful v t.shown (sym (t.met v (exists g t.lawful v t.waiting.0)) ∙ sym is))) ∙ t.comes;
      counted = omega (arith, t.counted);
      room = t.room;
      met = t.met;
      waiting = t.waiting.1;
      fits = t.fits;
    }

    new_turn : Turn g root marks (Trace (value v) ∷ st) steps Fits → false ≡ marked marks v → Turn g root marks (traced (uses g v) ++ (Visit (value v) ∷ st)) (steps + 1) Fits
    new_turn t is = record {
      lawful = t.lawful;
      alive = t.alive;
      shown = t.shown;
      comes = run_traces g (uses g v) (Visit (value v) ∷ st) t.shown ∙ ap (run g st) (sym (walk_new g t.lawful v t.shown (sym (t.met v (exists g t.lawful v t.waiting.0)) ∙ sym is))) ∙ t.comes;
      counted = omega (arith, t.counted, traces_traces (uses g v) (Visit (value v) ∷ st), owed_traces g (uses g v) (Visit (value v) ∷ st));
      room = t.room;
      met = t.met;
      waiting = All-append (λ e. live g (value_of e) ≡ true) (traced (uses g v)) (Visit (value v) ∷ st) (All-map (λ e. live g (value_of e) ≡ true) (λ w. Trace (value w)) (uses g v) (all_among (λ w. live g w ≡ true) (uses g v) (λ w h. t.lawful.operands_live v w h))) t.waiting;
      fits = t.fits;
    }

-- ---- the turns of the loop, each from what its steps answer

pub first : {g : Flow} {root : ℕ} {marks : List ℕ} {none items : List StackEntry} {Fits : List ℕ → Type 0} → Lawful g → live g root ≡ true → marks ≡ replicate 1024 0
    → none ≡ [] → items ≡ none ++ (Trace (value root) ∷ []) → Fits [] → Walking g root marks items 0 Fits
first {g} {root} {Fits = Fits} lawful alive clear empty is start =
    walking (rw (clear, is, empty) (first_turn g lawful root Fits alive start))

module _ {g : Flow} {root : ℕ} {marks : List ℕ} {items : List StackEntry} (rest : List StackEntry) {entry : StackEntry} {v : Value} {steps : ℕ} {Fits : List ℕ → Type 0} where
  pub visited : {after : List ℕ} (Fits' : List ℕ → Type 0) → items ≡ rest ++ (entry ∷ []) → entry ≡ Visit v → Walking g root marks items steps Fits → after ≡ set marks v.0 1
      → ((shown : List ℕ) → Fits shown → Fits' (shown ++ (v.0 ∷ []))) → Walking g root after rest (steps + 1) Fits'
  visited Fits' is top w written next = walking (rw written (visit_turn v.0 (reverse rest) Fits' (popped rest is top w) next))

  pub stopped : (Stops : List ℕ → Type 0) → items ≡ rest ++ (entry ∷ []) → entry ≡ Visit v → Walking g root marks items steps Fits
      → ((shown : List ℕ) → Fits shown → Stops (shown ++ (v.0 ∷ []))) → Stopped g root Stops
  stopped Stops is top w next = stop_turn v.0 (reverse rest) Stops (popped rest is top w) next

  pub met_again : items ≡ rest ++ (entry ∷ []) → entry ≡ Trace v → Walking g root marks items steps Fits → true ≡ marked marks v.0 → Walking g root marks rest (steps + 1) Fits
  met_again is top w seen = walking (met_turn v.0 (reverse rest) (popped rest is top w) seen)

  pub new : {after : List StackEntry} → items ≡ rest ++ (entry ∷ []) → entry ≡ Trace v → Walking g root marks items steps Fits → false ≡ marked marks v.0
      → reverse after ≡ traced (uses g v.0) ++ (Visit v ∷ reverse rest) → Walking g root marks after (steps + 1) Fits
  new is top w unseen pushed = walking (subst (λ l. Turn g root marks l (steps + 1) Fits) (sym pushed) (new_turn v.0 (reverse rest) (popped rest is top w) unseen))

  -- There is room for the visit of a new value and for the operands above it.
  pub room : items ≡ rest ++ (entry ∷ []) → entry ≡ Trace v → Walking g root marks items steps Fits → false ≡ marked marks v.0 → (cap : ℕ) → 4 * length g < cap → length rest + length (uses g v.0) < cap
  room is top w unseen cap enough =
      let t = new_turn v.0 (reverse rest) (popped rest is top w) unseen in
      omega (arith, to_come t, steps_within g t.lawful root t.alive, length-append (traced (uses g v.0)) (Visit v ∷ reverse rest), length-map (uses g v.0) (λ v. Trace (value v)), length-reverse rest)

pub done : {g : Flow} {root : ℕ} {marks : List ℕ} {items : List StackEntry} {steps : ℕ} {Fits : List ℕ → Type 0} → items ≡ [] → Walking g root marks items steps Fits → Completed g root Fits steps
done {g} {root} {marks} {steps = steps} {Fits} empty w = completed (subst (λ l. Turn g root marks (reverse l) steps Fits) empty w.turn)

-- ---- how far a walk came

pub at_end : (g : Flow) (root cap : ℕ) (Fits : List ℕ → Type 0) (marks : List ℕ) (items : List StackEntry) (p : Progress) (steps : ℕ) → p ≡ Done steps → Came g root cap Fits marks items p → Completed g root Fits steps
at_end g root cap Fits marks items p steps e came = subst (Came g root cap Fits marks items) e came

pub at_full : (g : Flow) (root cap : ℕ) (Fits : List ℕ → Type 0) (marks : List ℕ) (items : List StackEntry) (p : Progress) (steps : ℕ) → p ≡ Full steps → Came g root cap Fits marks items p → Walking g root marks items steps Fits
at_full g root cap Fits marks items p steps e came = (subst (Came g root cap Fits marks items) e came).0
