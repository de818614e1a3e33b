-- What the visitors that look for loops know after one value more, and after a walk. Assumes nothing.
use Rattle.std.proofs.Common.{None, Option, option_map, refl, ◌≡◌, ℕ, ◌<◌, ◌≤◌, Bool, true, false, not, ◌&&◌, ◌||◌, eqb, List, [], ◌∷◌, ◌++◌, get_or, set, replicate, Ok, Err, Result, is_err, Some, unwrap_or, find, cond, map, sym, ap, ◌∙◌, subst, inl, inr, ⊎_elim, arith, length-set, get_or-set_other, get_or-set_same}
use lib.ListN.{length-replicate}
use Rattle.std.proofs.lemmas.List.{get_or-replicate}
use Rattle.std.proofs.lemmas.Bool.{cases_eq, cases_Bool, false≢true}
use Rattle.std.specs.List.{list_any}
use Rattle.ir.specs.Entities.{value}
use Rattle.ir.specs.declared.entities.Value.{Value}
use Rattle.flow.specs.Meaning.{Flow, Lawful, live, uses, has}
use Rattle.flow.specs.Walk.{walk, Topological}
use Rattle.flow.proofs.Among.{has_push, has_push_other}
use Rattle.flow.proofs.Paths.{live_exists}
use Rattle.flow.proofs.Places.{topological_left, topological_operands}
use Rattle.rows.specs.Meaning.{flow}
use Rattle.rows.specs.Rows.{Rows}
use Rattle.rows.specs.declared.value.ValueData.{ValueData}
use Rattle.walk.specs.Outcome.{Walked}
use Rattle.walk.specs.declared.dfs.WalkError.{WalkError}
use Rattle.walk.specs.declared.dfs.WalkError.TheVariants as errors
use Rattle.dfg.specs.declared.finders.Found.{Found}
use Rattle.dfg.specs.Plain.{plain}
use Rattle.dfg.specs.declared.alias_loops.NewAlias.{NewAlias}
use Rattle.dfg.specs.Finders.{MarksOf, Marked, marked_but}
use Rattle.plain.specs.Loops.{through, any_through, reaches_through, closes}
use Rattle.plain.proofs.Through.{any_front}
use Rattle.plain.proofs.Reaching.{any_same, reaches_unfolds}

-- one value more is shown, and marked if it reaches a value whose aliases lead through d
module _ (p : Rows) (lawful : Lawful (flow p)) (d : ℕ) (shown : List ℕ) (v : ℕ) (order : Topological (flow p) (shown ++ (v ∷ []))) (before : List Bool) (is : MarksOf p d shown before) where
  operand_marks : (w : ℕ) → has (uses (flow p) v) w ≡ true → get_or before w false ≡ reaches_through p d w
  operand_marks w h =
      let among : has shown w ≡ true = topological_operands (flow p) shown v w order h in
      let low : w < 1024 = omega (arith, live_exists (flow p) w (lawful.operands_live v w h), lawful.few) in
      is.each w low ∙ ap (λ b. b && reaches_through p d w) among

  pub mark_more : (b : Bool) → b ≡ (through p.values d v || list_any (λ u. get_or before u false) (uses (flow p) v))
      → MarksOf p d (shown ++ (v ∷ [])) (set before v b)
  mark_more b e = record { long = length-set before v b ∙ is.long; each = λ u low. ⊎_elim (at u low) (beside u low) (cases_eq u v) }
    where
      at : (u : ℕ) → u < 1024 → u ≡ v → get_or (set before v b) u false ≡ (has (shown ++ (v ∷ [])) u && reaches_through p d u)
      at u low same =
          subst (λ x. get_or (set before v b) x false ≡ (has (shown ++ (v ∷ [])) x && reaches_through p d x)) (sym same)
          (get_or-set_same before v b false (omega (arith, is.long)) ∙ e
          ∙ ap (λ c. through p.values d v || c) (any_same (λ u. get_or before u false) (reaches_through p d) (uses (flow p) v) operand_marks)
          ∙ sym (reaches_unfolds p lawful d v) ∙ sym (ap (λ c. c && reaches_through p d v) (has_push shown v)))

      beside : (u : ℕ) → u < 1024 → (u ≡ v → ⊥) → get_or (set before v b) u false ≡ (has (shown ++ (v ∷ [])) u && reaches_through p d u)
      beside u low other =
          get_or-set_other before v u b false other ∙ is.each u low
          ∙ ap (λ c. c && reaches_through p d u) (sym (has_push_other shown v u (λ same. other (sym same))))

-- ---- what the marker knows after one value more

pub marked_more : (a b : NewAlias) (first : List Bool) (shown : List ℕ) (before after : List Bool) (v : ℕ) (x : Bool) → Lawful (flow (plain b.graph.now))
    → Marked a first shown b before
    → x ≡ (through (plain b.graph.now).values b.dest.0 v || list_any (λ u. get_or before u false) (uses (flow (plain b.graph.now)) v))
    → after ≡ set before v x → Marked a first (shown ++ v ∷ []) b after
marked_more a b first shown before after v x lawful m e is =
    let p : Rows = plain a.graph.now in
    let law = subst (λ (c : NewAlias). Lawful (flow (plain c.graph.now))) m.same lawful in
    let same = subst
    (λ (c : NewAlias). x ≡ (through (plain c.graph.now).values c.dest.0 v || list_any (λ u. get_or before u false) (uses (flow (plain c.graph.now)) v)))
    m.same e in
    record {
      same = m.same;
      marks = λ none order.
          subst (MarksOf p a.dest.0 (shown ++ v ∷ [])) (sym is)
          (mark_more p law a.dest.0 shown v order before (m.marks none (topological_left (flow p) shown (v ∷ []) order)) x same);
    }

-- before a walk nothing is marked
pub none_marked : (p : Rows) (d : ℕ) → MarksOf p d [] (replicate 1024 false)
none_marked p d = record { long = length-replicate {A = Bool} 1024 false; each = λ u low. get_or-replicate 1024 u false false low }

-- the finder stops a walk exactly where it comes to such a value
pub stopped_if_found : (g : Flow) (root room : ℕ) (Fits : List ℕ → Type 0) (rows : List ValueData) (d : ℕ) (r : Result ℕ (WalkError Found)) → live g root ≡ true
    → 1024 ≤ room → ((shown : List ℕ) → Fits shown → any_through rows d shown ≡ false) → Walked g root room Fits (λ shown s. any_through rows d shown ≡ true) r
    → is_err r ≡ any_through rows d (walk g root)
stopped_if_found g root room Fits rows d (Ok steps) alive enough none w = sym (none (walk g root) w.shown)
stopped_if_found g root room Fits rows d (Err (errors.Refused why)) alive enough none w =
    elim w [ inl short ↦ absurd (omega arith) | inr dead ↦ absurd (false≢true (sym dead ∙ alive)) ]
stopped_if_found g root room Fits rows d (Err (errors.Stopped s)) alive enough none w =
    sym (ap (any_through rows d) w.parts ∙ any_front rows d w.front w.rest w.stops)

-- the marks of a whole walk tell which values would be in a loop
pub marks_close : (p : Rows) (d r : ℕ) (marked : List Bool) → MarksOf p d (walk (flow p) r) marked → (u : ℕ) → u < 1024 → marked_but marked r u ≡ closes p d r u
unfolding closes
marks_close p d r marked m u low = ap (λ b. not (eqb u r) && b) (m.each u low)

-- ---- the first value that passes a test is that of the first number

find_values : (test : ℕ → Bool) (xs : List ℕ) → find (λ (w : Value). test w.0) (map value xs) ≡ option_map value (find test xs)
find_values test [] = refl
find_values test (x ∷ xs) =
    elim (cases_Bool (test x)) [
      | inl h ↦
          ap (λ b. cond b (Some (value x)) (find (λ (w : Value). test w.0) (map value xs))) h
          ∙ sym (ap (λ b. option_map value (cond b (Some x) (find test xs))) h)
      | inr h ↦
          ap (λ b. cond b (Some (value x)) (find (λ (w : Value). test w.0) (map value xs))) h ∙ find_values test xs
          ∙ sym (ap (λ b. option_map value (cond b (Some x) (find test xs))) h)
    ]

number_of : (o : Option ℕ) (m : ℕ) → (unwrap_or (option_map value o) (value m)).0 ≡ unwrap_or o m
number_of None m = refl
number_of (Some x) m = refl

pub first_value : (test : ℕ → Bool) (xs : List ℕ) (m : ℕ) → (unwrap_or (find (λ (w : Value). test w.0) (map value xs)) (value m)).0 ≡ unwrap_or (find test xs) m
first_value test xs m = ap (λ o. (unwrap_or o (value m)).0) (find_values test xs) ∙ number_of (find test xs) m
