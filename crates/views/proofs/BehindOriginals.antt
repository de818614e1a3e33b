-- What holds where operands are resolved. Assumes nothing.
use Rattle.std.proofs.Common.{◌≡◌, ℕ, true, List, [], ◌∷◌, map, length, get_or, Option, sym, refl, ap, ap₂, ◌∙◌, subst, ⊎_elim}
use Rattle.std.proofs.lemmas.Bool.{cases_lt}
use Rattle.std.proofs.lemmas.List.{get_or_past}
use Rattle.std.proofs.lemmas.Simd.{map-map}
use Rattle.ir.specs.Entities.{values}
use Rattle.ir.specs.Operations.{compute}
use Rattle.ir.specs.declared.instructions.Operands.{Operands}
use Rattle.ir.specs.declared.instructions.Operands.TheVariants.{Nullary, Unary, Binary, Ternary}
use Rattle.flow.specs.Meaning.{Flow, Lawful, Node, Reach, here, through, missing, node, width_of, original_of, def_of, used, uses, has}
use Rattle.flow.specs.Number.{def_number}
use Rattle.ir.specs.Options.{and_then}
use Rattle.flow.specs.Rounds.{all_of}
use Rattle.flow.specs.declared.definition.ValueDef.{ValueDef}
use Rattle.flow.specs.declared.definition.ValueDef.TheVariants.{Constant, Operation, Variable, Deleted}
use Rattle.flow.proofs.Among.{has_here, has_map, has_before_map, map_among}
use Rattle.views.specs.Originals.{originals, with_originals, resolved_def, resolved}
use Rattle.views.specs.RedefinedLaws.{def_within, node_past, original_redefined, reach_below, same_values, uses_same}
use Rattle.views.specs.ResolvedLaws.{values_originals, used_originals, operand_node, operands_redefine}
use Rattle.views.specs.Theorems.{BehindOriginals}
use Rattle.views.proofs.RedefinedNumbers.{same_numbers}

module _ (g : Flow) (lawful : Lawful g) where
  uses_resolved : (v : ℕ) → uses (resolved g) v ≡ map (original_of g) (uses g v)
  uses_resolved v = ⊎_elim
      (λ lt. ap used (def_within (resolved_def g) g v lt) ∙ used_originals g (def_of g v))
      (λ past.
      ap (λ (n : Node). used n.def) (node_past (resolved_def g) g v past ∙ get_or_past g v missing past)
      ∙ sym (ap (λ (n : Node). map (original_of g) (used n.def)) (get_or_past g v missing past)))
      (cases_lt v (length g))

  -- an operand of the view is the original of an operand
  operand_before : (v w : ℕ) → has (uses (resolved g) v) w ≡ true → (u : ℕ) × (has (uses g v) u ≡ true) × (original_of g u ≡ w)
  operand_before v w h = has_before_map (original_of g) (uses g v) w (subst (λ l. has l w ≡ true) (uses_resolved v) h)

  operand_own : (v w : ℕ) → has (uses (resolved g) v) w ≡ true → original_of g w ≡ w
  operand_own v w h =
      let u = operand_before v w h in
      ap (original_of g) (sym u.2) ∙ ap (λ (n : Node). n.original) (operand_node g lawful v u.0 u.1) ∙ u.2

  -- ---- reach

  -- an original reaches originals
  own_reached : {v u : ℕ} → Reach (resolved g) v u → original_of g v ≡ v → original_of g u ≡ u
  own_reached (here e) own = subst (λ w. original_of g w ≡ w) e own
  own_reached {v} (through w m r) own = own_reached r (operand_own v w m)

  reach_down : {v u : ℕ} → Reach (resolved g) v u → original_of g v ≡ v → (w : ℕ) × Reach g v w × (original_of g w ≡ u)
  reach_down {v} r own =
      let below = reach_below (resolved_def g) g (operands_redefine g lawful) r v refl in
      (below.0, below.1, ap (λ (n : Node). n.original) below.2 ∙ own_reached r own)

  reach_up : {x w : ℕ} → Reach g x w → (v : ℕ) → node g v ≡ node g x → original_of g x ≡ v → Reach (resolved g) v (original_of g w)
  reach_up (here e) v same own = here (sym own ∙ ap (original_of g) e)
  reach_up {x} (through a m r) v same own =
      let used_by = uses_same g x v a same m in
      through (original_of g a)
      (subst (λ l. has l (original_of g a) ≡ true) (sym (uses_resolved v)) (has_map (original_of g) (uses g v) a used_by))
      (reach_up r (original_of g a) (operand_node g lawful x a m) refl)

  -- ---- numbers

  module _ (number : ℕ → Option ℕ) (by_node : (u w : ℕ) → node g u ≡ node g w → number u ≡ number w) where
    -- the width of the first operand
    first_width : (args : Operands) → ((u : ℕ) → has (values args) u ≡ true → node g (original_of g u) ≡ node g u)
        → width_of g (get_or (values (originals g args)) 0 0) ≡ width_of g (get_or (values args) 0 0)
    first_width Nullary same = refl
    first_width (Unary a) same = ap (λ (n : Node). n.width) (same a.0 (has_here a.0 []))
    first_width (Binary a b) same = ap (λ (n : Node). n.width) (same a.0 (has_here a.0 (b.0 ∷ [])))
    first_width (Ternary a b c) same = ap (λ (n : Node). n.width) (same a.0 (has_here a.0 (b.0 ∷ c.0 ∷ [])))

    stays : (inputs : ℕ → ℕ) (n : Node) (d : ValueDef) → ((u : ℕ) → has (used d) u ≡ true → node g (original_of g u) ≡ node g u)
        → def_number g inputs number n (with_originals g d) ≡ def_number g inputs number n d
    stays inputs n (Constant z) same = refl
    stays inputs n (Operation o cc args) same =
        ap₂ (λ (numbers : List (Option ℕ)) (w : ℕ). and_then (all_of numbers) (compute o cc n.width w))
        (ap (map number) (values_originals g args) ∙ map-map number (original_of g) (values args) ∙ map_among (λ u. number (original_of g u)) number (values args) (λ u h. by_node (original_of g u) u (same u h)))
        (first_width args same)
    stays inputs n Variable same = refl
    stays inputs n Deleted same = refl

  pub behind_originals : BehindOriginals g
  behind_originals = record {
    values = same_values (resolved_def g) g (operands_redefine g lawful);
    definitions = def_within (resolved_def g) g;
    operands = λ v w h. original_redefined (resolved_def g) g w ∙ operand_own v w h;
    reach = λ v u own. ((λ r. reach_down r own), (λ w. subst (Reach (resolved g) v) w.2 (reach_up w.1 v refl own)));
    numbers = λ inputs v. same_numbers (resolved_def g) g inputs inputs (λ number same u lt. stays number same inputs (node g u) (def_of g u) (operand_node g lawful u)) v;
  }
