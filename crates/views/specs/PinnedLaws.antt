-- The graph with pinned variables is lawful. Assumes nothing.
use Rattle.std.proofs.Common.{◌≡◌, ℕ, ◌<◌, Bool, true, false, cond, ◌&&◌, eqb, T, List, [], ◌∷◌, length, ℤ, Some, None, Option, sym, refl, ap, subst}
use Rattle.std.specs.List.{find, list_all}
use Rattle.std.specs.Option.{option_map, option_map_or}
use Rattle.std.proofs.lemmas.Bool.{both_ways, eqb-true, and_parts}
use Rattle.std.proofs.lemmas.Float.{T_from_true}
use Rattle.ir.specs.Widths.{is_integer, is_immediate}
use Rattle.flow.specs.Layout.{Layout, LawfulLayout}
use Rattle.flow.specs.Meaning.{Flow, Lawful, Node, node, width_of, original_of, def_of, is_variable, present, used, has, DefFits}
use Rattle.flow.specs.declared.definition.ValueDef.{ValueDef}
use Rattle.flow.specs.declared.definition.ValueDef.TheVariants.{Constant, Operation, Variable, Deleted}
use Rattle.ir.proofs.Options.{none_is_no_some, some_injective}
use Rattle.views.specs.Pins.{pinned_to, pinned_def, pinned, can_pin, Pinnable}
use Rattle.views.specs.Redefined.{Redefines}
use Rattle.views.specs.declared.pin.Pin.{Pin}
use Rattle.views.specs.RedefinedLaws.{node_original, redefined_lawful, redefined_laid_out}

pub variable_is : (d : ValueDef) → is_variable d ≡ true → d ≡ Variable
variable_is (Constant z) e = absurd (both_ways false refl e)
variable_is (Operation o cc args) e = absurd (both_ways false refl e)
variable_is Variable e = refl
variable_is Deleted e = absurd (both_ways false refl e)

-- what a node has to be, so that it can be shown as the constant z
pub record Shows (n : Node) (z : ℤ) : Type 0 where
  pub variable : n.def ≡ Variable
  pub integer : T (is_integer n.width)
  pub immediate : T (is_immediate n.width z)

shows : (n : Node) (z : ℤ) → is_variable n.def && (is_integer n.width && is_immediate n.width z) ≡ true → Shows n z
shows n z e =
    let a = and_parts (is_variable n.def) _ e in
    let b = and_parts (is_integer n.width) _ a.1 in
    record { variable = variable_is n.def a.0; integer = T_from_true _ b.0; immediate = T_from_true _ b.1 }

found_shows : (g : Flow) (ps : List Pin) → Pinnable g ps → (o : ℕ) (z : ℤ) → pinned_to ps o ≡ Some z → Shows (node g o) z
found_shows g [] all o z e = none_is_no_some z e
found_shows g (p ∷ ps) all o z e = let both = and_parts (can_pin g p) (list_all (can_pin g) ps) all in at (eqb p.original.0 o) refl e both.0 (found_shows g ps both.1 o z)
  where
    at : (b : Bool) → eqb p.original.0 o ≡ b → option_map (λ (p : Pin). p.imm) (cond b (Some p) (find (λ (p : Pin). eqb p.original.0 o) ps)) ≡ Some z
        → can_pin g p ≡ true → (pinned_to ps o ≡ Some z → Shows (node g o) z) → Shows (node g o) z
    at true same q can rest =
        subst (λ k. Shows (node g k) z) (eqb-true p.original.0 o same)
        (subst (λ m. Shows (node g p.original.0) m) (some_injective p.imm z q) (shows (node g p.original.0) p.imm can))
    at false same q can rest = rest q

module _ (g : Flow) (lawful : Lawful g) (ps : List Pin) (all : Pinnable g ps) where
  -- a value that is shown as a constant can be
  pub value_shows : (v : ℕ) → v < length g → (z : ℤ) → pinned_to ps (original_of g v) ≡ Some z → Shows (node g v) z
  value_shows v lt z e = subst (λ n. Shows n z) (node_original g lawful v lt) (found_shows g ps all (original_of g v) z e)

  -- a value keeps its definition, or can be shown as the constant that it is shown as
  pub shown_either : (P : ValueDef → Type 0) (v : ℕ) → v < length g → P (def_of g v) → ((z : ℤ) → Shows (node g v) z → P (Constant z)) → P (pinned_def ps (node g v))
  shown_either P v lt same other = at (pinned_to ps (original_of g v)) refl
    where
      at : (o : Option ℤ) → pinned_to ps (original_of g v) ≡ o → P (option_map_or Constant o (def_of g v))
      at None e = same
      at (Some z) e = other z (value_shows v lt z e)

  pub pins_redefine : Redefines (pinned_def ps) g
  pins_redefine = record {
    alive = λ v lt. shown_either (λ d. present d ≡ present (def_of g v)) v lt refl (λ z s. sym (ap present s.variable));
    operands = λ v w lt. shown_either (λ d. has (used d) w ≡ true → (u : ℕ) × (has (used (def_of g v)) u ≡ true) × (node g u ≡ node g w)) v lt (λ h. (w, h, refl)) (λ z s h. absurd (both_ways false refl h));
    fits = λ v lt. shown_either (DefFits g (width_of g v)) v lt (lawful.fits v) (λ z s. (s.integer, s.immediate));
  }

  pub pinned_lawful : Lawful (pinned ps g)
  pinned_lawful = redefined_lawful (pinned_def ps) g pins_redefine lawful

  pub pinned_laid_out : (l : Layout) → LawfulLayout g l → LawfulLayout (pinned ps g) l
  pinned_laid_out = redefined_laid_out (pinned_def ps) g pins_redefine
