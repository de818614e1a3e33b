-- What holds behind pins. Assumes nothing.
use Rattle.std.proofs.Common.{◌≡◌, ℕ, ◌<◌, true, List, length, ℤ, Some, None, Option, sym, refl, ap, ◌∙◌, subst, ⊎_elim}
use Rattle.std.specs.Option.{option_map_or}
use Rattle.std.proofs.lemmas.Bool.{cases_lt}
use Rattle.ir.specs.Bitvectors.{unsigned}
use Rattle.flow.specs.Meaning.{Flow, Lawful, Node, Reach, here, through, node, width_of, original_of, def_of, used, uses, has}
use Rattle.flow.specs.Number.{def_number}
use Rattle.flow.specs.declared.definition.ValueDef.{ValueDef}
use Rattle.flow.specs.declared.definition.ValueDef.TheVariants.{Constant, Operation, Variable, Deleted}
use Rattle.views.specs.PinnedLaws.{shown_either, value_shows, pins_redefine}
use Rattle.views.specs.Pins.{pinned_to, pinned_def, pinned, pinned_inputs, Pinnable}
use Rattle.views.specs.RedefinedLaws.{def_within, node_past, same_values}
use Rattle.views.specs.Theorems.{BehindPins}
use Rattle.views.specs.declared.pin.Pin.{Pin}
use Rattle.views.proofs.RedefinedNumbers.{same_numbers}

-- what is reached where the same values are used
reach_same : (g h : Flow) → ((u : ℕ) → uses h u ≡ uses g u) → {v u : ℕ} → Reach h v u → Reach g v u
reach_same g h same (here e) = here e
reach_same g h same {v} (through w m r) = through w (subst (λ l. has l w ≡ true) (same v) m) (reach_same g h same r)

module _ (g : Flow) (lawful : Lawful g) (ps : List Pin) (all : Pinnable g ps) where
  uses_pinned : (v : ℕ) → uses (pinned ps g) v ≡ uses g v
  uses_pinned v = ⊎_elim
      (λ lt. ap used (def_within (pinned_def ps) g v lt) ∙ shown_either g lawful ps all (λ d. used d ≡ uses g v) v lt refl (λ z s. sym (ap used s.variable)))
      (λ past. ap (λ (n : Node). used n.def) (node_past (pinned_def ps) g v past))
      (cases_lt v (length g))

  module _ (inputs : ℕ → ℕ) (number : ℕ → Option ℕ) where
    -- a definition that is not pinned
    unpinned : (n : Node) (d : ValueDef) → pinned_to ps n.original ≡ None → def_number g inputs number n d ≡ def_number g (pinned_inputs g ps inputs) number n d
    unpinned n (Constant z) e = refl
    unpinned n (Operation o cc args) e = refl
    unpinned n Variable e = ap Some (sym (ap (λ o. option_map_or (unsigned (width_of g n.original)) o (inputs n.original)) e))
    unpinned n Deleted e = refl

    -- the definition of a pinned variable
    pinned_variable : (v : ℕ) → v < length g → (z : ℤ) → pinned_to ps (original_of g v) ≡ Some z
        → Some (unsigned (width_of g v) z) ≡ def_number g (pinned_inputs g ps inputs) number (node g v) (def_of g v)
    pinned_variable v lt z e =
        ap (λ w. Some (unsigned w z)) (sym (lawful.originals v lt).width)
        ∙ ap Some (sym (ap (λ o. option_map_or (unsigned (width_of g (original_of g v))) o (inputs (original_of g v))) e))
        ∙ sym (ap (def_number g (pinned_inputs g ps inputs) number (node g v)) (value_shows g lawful ps all v lt z e).variable)

    stays : (v : ℕ) → v < length g → def_number g inputs number (node g v) (pinned_def ps (node g v)) ≡ def_number g (pinned_inputs g ps inputs) number (node g v) (def_of g v)
    stays v lt = at (pinned_to ps (original_of g v)) refl
      where
        at : (o : Option ℤ) → pinned_to ps (original_of g v) ≡ o
            → def_number g inputs number (node g v) (option_map_or Constant o (def_of g v)) ≡ def_number g (pinned_inputs g ps inputs) number (node g v) (def_of g v)
        at None e = unpinned (node g v) (def_of g v) e
        at (Some z) e = pinned_variable v lt z e

  pub behind_pins : BehindPins g ps
  behind_pins = record {
    values = same_values (pinned_def ps) g (pins_redefine g lawful ps all);
    constants = λ v z lt e. def_within (pinned_def ps) g v lt ∙ ap (λ o. option_map_or Constant o (def_of g v)) e;
    others = λ v lt e. def_within (pinned_def ps) g v lt ∙ ap (λ o. option_map_or Constant o (def_of g v)) e;
    reach = λ v u. (reach_same g (pinned ps g) uses_pinned, reach_same (pinned ps g) g (λ w. sym (uses_pinned w)));
    numbers = λ inputs v. same_numbers (pinned_def ps) g inputs (pinned_inputs g ps inputs) (λ number same u lt. stays inputs number u lt) v;
  }
