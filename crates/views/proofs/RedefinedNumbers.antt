-- Numbers behind a view that changes definitions and nothing else. Assumes nothing.
use Rattle.std.proofs.Common.{◌≡◌, ℕ, zero, suc, ◌<◌, map, length, get_or, Option, sym, refl, ap, ◌∙◌, ⊎_elim}
use mathlib.Core.Path.{fun_ext}
use Rattle.std.proofs.lemmas.List.{get_or_past}
use Rattle.std.proofs.lemmas.Bool.{cases_lt}
use Rattle.ir.specs.Entities.{values}
use Rattle.ir.specs.Operations.{compute}
use Rattle.flow.specs.Meaning.{Flow, Node, missing, node, def_of}
use Rattle.flow.specs.Number.{def_number, value_step, number_of}
use Rattle.ir.specs.Options.{and_then}
use Rattle.flow.specs.Rounds.{all_of, rounds}
use Rattle.flow.specs.declared.definition.ValueDef.{ValueDef}
use Rattle.flow.specs.declared.definition.ValueDef.TheVariants.{Constant, Operation, Variable, Deleted}
use Rattle.views.specs.Redefined.{redefined_node, redefined}
use Rattle.views.specs.RedefinedLaws.{length_redefined, width_redefined, node_within, node_past}

module _ (f : Node → ValueDef) (g : Flow) where
  def_number_redefined : (inputs : ℕ → ℕ) (number : ℕ → Option ℕ) (n : Node) (d : ValueDef)
      → def_number (redefined f g) inputs number (redefined_node f n) d ≡ def_number g inputs number n d
  def_number_redefined inputs number n (Constant z) = refl
  def_number_redefined inputs number n (Operation o cc args) =
      ap (λ w. and_then (all_of (map number (values args))) (compute o cc n.width w)) (width_redefined f g (get_or (values args) 0 0))
  def_number_redefined inputs number n Variable = refl
  def_number_redefined inputs number n Deleted = refl

  -- Numbers stay if each definition has the number behind the view that it has below, whatever the numbers of the operands are: values of one node have one number.
  module _ (inputs inputs' : ℕ → ℕ)
      (stays : (number : ℕ → Option ℕ) → ((u w : ℕ) → node g u ≡ node g w → number u ≡ number w) → (v : ℕ) → v < length g
      → def_number g inputs number (node g v) (f (node g v)) ≡ def_number g inputs' number (node g v) (def_of g v)) where
    by_node : (d u w : ℕ) → node g u ≡ node g w → rounds (value_step g inputs') d u ≡ rounds (value_step g inputs') d w
    unfolding rounds value_step
    by_node zero u w same = refl
    by_node (suc d) u w same = ap (λ (n : Node). def_number g inputs' (rounds (value_step g inputs') d) n n.def) same

    same_rounds : (d v : ℕ) → rounds (value_step (redefined f g) inputs) d v ≡ rounds (value_step g inputs') d v
    unfolding rounds value_step
    same_rounds zero v = refl
    same_rounds (suc d) v =
        let below : ℕ → Option ℕ = rounds (value_step g inputs') d in
        ap (λ (number : ℕ → Option ℕ). def_number (redefined f g) inputs number (node (redefined f g) v) (def_of (redefined f g) v)) (fun_ext (same_rounds d))
        ∙ ⊎_elim
        (λ lt.
        ap (λ (n : Node). def_number (redefined f g) inputs below n n.def) (node_within f g v lt)
        ∙ def_number_redefined inputs below (node g v) (f (node g v))
        ∙ stays below (by_node d) v lt)
        (λ past.
        let gone : node g v ≡ missing = get_or_past g v missing past in
        ap (λ (n : Node). def_number (redefined f g) inputs below n n.def) (node_past f g v past ∙ gone)
        ∙ sym (ap (λ (n : Node). def_number g inputs' below n n.def) gone))
        (cases_lt v (length g))

    pub same_numbers : (v : ℕ) → number_of (redefined f g) inputs v ≡ number_of g inputs' v
    unfolding number_of
    same_numbers v = ap (λ n. rounds (value_step (redefined f g) inputs) n v) (length_redefined f g) ∙ same_rounds (length g) v
