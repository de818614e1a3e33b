-- One value more for the visitors, and whole walks. Assumes nothing.
use Rattle.std.proofs.Common.{◌≡◌, ℕ, ◌<◌, ◌≤◌, Bool, true, false, cond, ◌&&◌, List, [], ◌∷◌, ◌++◌, length, get_or, set, find, is_none, Some, None, Ok, Err, Option, Result, sym, refl, ap, ◌∙◌, subst, ⊎_elim, arith}
use Rattle.std.proofs.lemmas.List.{get_or-set_same, get_or-set_other}
use Rattle.std.proofs.lemmas.List.Folds.{find-append, list_all-append}
use Rattle.std.proofs.lemmas.Bool.{both_ways, or_right}
use Rattle.std.specs.Option.{option_or}
use Rattle.ir.specs.Entities.{values}
use Rattle.ir.specs.Operations.{compute}
use Rattle.ir.specs.Refusals.{answer_unless}
use Rattle.ir.specs.declared.entities.Value.{Value}
use Rattle.ir.specs.declared.refusal.Refusal.{Refusal}
use Rattle.flow.specs.Meaning.{Flow, Lawful, Node, node, width_of, def_of, used, live, has, here}
use Rattle.flow.specs.Number.{def_number, number_of}
use Rattle.ir.specs.Options.{and_then}
use Rattle.flow.specs.Rounds.{all_of}
use Rattle.flow.specs.Walk.{Topological, walk}
use Rattle.flow.specs.declared.definition.ValueDef.{ValueDef}
use Rattle.flow.specs.declared.definition.ValueDef.TheVariants.{Constant, Operation, Variable, Deleted}
use Rattle.flow.proofs.Among.{has_here, has_push, has_push_cases, map_among}
use Rattle.flow.proofs.Paths.{live_exists}
use Rattle.flow.proofs.Places.{topological_left, topological_new, topological_operands, walk_topological}
use Rattle.flow.proofs.Unfolds.{number_unfolds}
use Rattle.flow.proofs.Walks.{walk_is_post_order}
use Rattle.walk.specs.Outcome.{Walked}
use Rattle.walk.specs.declared.dfs.WalkError.{WalkError}
use Rattle.walk.specs.declared.dfs.WalkError.TheVariants as errors
use Rattle.eval.specs.Known.{at, known, value_from}
use Rattle.eval.specs.Shown.{Evaluated, Fitting, Tabled, TrapsAt}
use Rattle.eval.specs.ValueAnswer.{first_trap, input_fits, inputs_fit, number_of_untrapped, refusal_of, trapped}

-- ---- inputs

fit_push : (g : Flow) (inputs vs : List ℕ) (v : ℕ) → inputs_fit g inputs vs ≡ true → inputs_fit g inputs (vs ++ v ∷ []) ≡ input_fits g inputs v
fit_push g inputs vs v e = list_all-append (input_fits g inputs) vs (v ∷ []) ∙ ap (λ b. b && (input_fits g inputs v && true)) e ∙ and_true (input_fits g inputs v)
  where
    and_true : (b : Bool) → (b && true) ≡ b
    and_true true = refl
    and_true false = refl

module _ (g g' : Flow) (inputs inputs' shown : List ℕ) (v : ℕ) (f : Fitting g inputs shown g' inputs') where
  fits_there : inputs_fit g inputs (shown ++ v ∷ []) ≡ input_fits g' inputs' v
  fits_there = fit_push g inputs shown v f.fit ∙ (λ i. input_fits (sym f.same i) (sym f.same_inputs i) v)

  -- one input more that fits
  pub fitting_more : true ≡ input_fits g' inputs' v → Fitting g inputs (shown ++ v ∷ []) g' inputs'
  fitting_more e = record { same = f.same; same_inputs = f.same_inputs; fit = fits_there ∙ sym e }

  -- and one that does not
  pub fitting_stops : false ≡ input_fits g' inputs' v → inputs_fit g inputs (shown ++ v ∷ []) ≡ false
  fitting_stops e = fits_there ∙ sym e

-- ---- numbers

-- numbers that agree on the operands give the same number
def_agree : (g : Flow) (inputs : ℕ → ℕ) (f h : ℕ → Option ℕ) (n : Node) (d : ValueDef) → ((u : ℕ) → has (used d) u ≡ true → f u ≡ h u) → def_number g inputs f n d ≡ def_number g inputs h n d
def_agree g inputs f h n (Constant z) same = refl
def_agree g inputs f h n (Operation o c args) same =
    ap (λ (l : List (Option ℕ)). and_then (all_of l) (compute o c n.width (width_of g (get_or (values args) 0 0)))) (map_among f h (values args) same)
def_agree g inputs f h n Variable same = refl
def_agree g inputs f h n Deleted same = refl

none_found : (p : ℕ → Bool) (vs : List ℕ) → ((u : ℕ) → has vs u ≡ true → p u ≡ false) → find p vs ≡ None
none_found p [] fails = refl
none_found p (v ∷ vs) fails = ap (λ b. cond b (Some v) (find p vs)) (fails v (has_here v vs)) ∙ none_found p vs (λ u m. fails u (or_right _ _ m))

-- none of the values in the table traps
untrapped : (g : Flow) (inputs vs numbers : List ℕ) → Tabled g inputs vs numbers → first_trap g inputs vs ≡ None
untrapped g inputs vs numbers all = none_found _ vs (λ u m. ap (λ (o : Option ℕ). is_none o) (all u m))

module _ (g : Flow) (lawful : Lawful g) (inputs shown : List ℕ) (v : ℕ) (order : Topological g (shown ++ v ∷ [])) where
  exists : v < 1024
  exists = omega (arith, live_exists g v (order.alive v (has_push shown v)), lawful.few)

  module _ (numbers : List ℕ) (all : Tabled g inputs shown numbers) where
    -- the number of the last value follows from the table
    number_is : number_of g (at inputs) v ≡ value_from g inputs numbers v
    number_is =
        number_unfolds g (at inputs) v
        ∙ def_agree g (at inputs) (number_of g (at inputs)) (known numbers) (node g v) (def_of g v) (λ u h. all u (topological_operands g shown v u order h))

    tabled_more : (n : ℕ) → Some n ≡ value_from g inputs numbers v → length numbers ≡ 1024 → Tabled g inputs (shown ++ v ∷ []) (set numbers v n)
    tabled_more n e long u h = ⊎_elim old new (has_push_cases shown v u h)
      where
        old : has shown u ≡ true → number_of g (at inputs) u ≡ Some (get_or (set numbers v n) u 0)
        old m = all u m ∙ ap Some (sym (get_or-set_other numbers v u n 0 (λ q. both_ways (has shown v) (topological_new g shown v order) (subst (λ x. has shown x ≡ true) q m))))

        new : v ≡ u → number_of g (at inputs) u ≡ Some (get_or (set numbers v n) u 0)
        new q = subst (λ x. number_of g (at inputs) x ≡ Some (get_or (set numbers v n) x 0)) q
            (number_is ∙ sym e ∙ ap Some (sym (get_or-set_same numbers v n 0 (omega (arith, exists, long)))))

    trap_push : None ≡ value_from g inputs numbers v → first_trap g inputs (shown ++ v ∷ []) ≡ Some v
    trap_push e =
        find-append (λ u. is_none (number_of g (at inputs) u)) shown (v ∷ [])
        ∙ ap (λ o. option_or o (first_trap g inputs (v ∷ []))) (untrapped g inputs shown numbers all)
        ∙ ap (λ (o : Option ℕ). cond (is_none o) (Some v) None) (number_is ∙ sym e)

module _ (g g' : Flow) (lawful : Lawful g) (inputs inputs' shown numbers : List ℕ) (v : ℕ) (f : Evaluated g inputs shown g' inputs' numbers) where
  same_value : value_from g' inputs' numbers v ≡ value_from g inputs numbers v
  same_value i = value_from (f.same i) (f.same_inputs i) numbers v

  pub evaluated_more : (n : ℕ) → Some n ≡ value_from g' inputs' numbers v → length numbers ≡ 1024 → Evaluated g inputs (shown ++ v ∷ []) g' inputs' (set numbers v n)
  evaluated_more n e long = record {
    same = f.same;
    same_inputs = f.same_inputs;
    tabled = λ order. tabled_more g lawful inputs shown v order numbers (f.tabled (topological_left g shown (v ∷ []) order)) n (e ∙ same_value) long;
  }

  pub evaluated_stops : None ≡ value_from g' inputs' numbers v → TrapsAt g inputs (shown ++ v ∷ []) v
  evaluated_stops e order = trap_push g lawful inputs shown v order numbers (f.tabled (topological_left g shown (v ∷ []) order)) (e ∙ same_value)

-- ---- whole walks

-- the number of the root of a completed walk
pub worked_out : (g g' : Flow) → Lawful g → (inputs inputs' numbers : List ℕ) (root : ℕ) → live g root ≡ true → Evaluated g inputs (walk g root) g' inputs' numbers
    → ◌≡◌ {A = Result ℕ Refusal} (Ok (get_or numbers root 0)) (answer_unless (trapped g inputs root) (number_of_untrapped g inputs root))
worked_out g g' lawful inputs inputs' numbers root alive f =
    let all = f.tabled (walk_topological g lawful root alive) in
    let own = all root ((walk_is_post_order g lawful root).complete root (here refl)) in
    rw (own, untrapped g inputs (walk g root) numbers all) refl

-- the first value that trapped in a walk that was stopped there
pub stopped_at : (g : Flow) → Lawful g → (inputs : List ℕ) (root room n : ℕ) (Fits : List ℕ → Type 0) → live g root ≡ true → 1024 ≤ room → (e : WalkError Value)
    → Walked g root room Fits (λ shown (s : Value). TrapsAt g inputs shown s.0) (Err e) → ◌≡◌ {A = Result ℕ Refusal} (Err (refusal_of e)) (answer_unless (trapped g inputs root) n)
stopped_at g lawful inputs root room n Fits alive enough (errors.Refused why) w = absurd (⊎_elim (λ h. omega arith) (λ dead. both_ways _ dead alive) w)
stopped_at g lawful inputs root room n Fits alive enough (errors.Stopped v) w =
    let order = topological_left g w.front w.rest (subst (Topological g) w.parts (walk_topological g lawful root alive)) in
    let first : first_trap g inputs (walk g root) ≡ Some v.0 =
    ap (first_trap g inputs) w.parts ∙ find-append (λ u. is_none (number_of g (at inputs) u)) w.front w.rest ∙ ap (λ o. option_or o (first_trap g inputs w.rest)) (w.stops order) in
    rw first refl
