-- The graph with resolved operands is lawful. Assumes nothing.
use Rattle.std.proofs.Common.{◌≡◌, ℕ, ◌<◌, true, T, List, map, length, get_or, sym, refl, ap, ◌∙◌, subst}
use Rattle.std.proofs.lemmas.List.{get_or-map, length-map}
use Rattle.std.proofs.lemmas.Simd.{map-map}
use Rattle.ir.specs.Entities.{values}
use Rattle.ir.specs.Widths.{Signature, is_integer}
use Rattle.ir.specs.declared.instructions.Operands.{Operands}
use Rattle.ir.specs.declared.instructions.Operands.TheVariants.{Nullary, Unary, Binary, Ternary}
use Rattle.flow.specs.Layout.{Layout, LawfulLayout}
use Rattle.flow.specs.Meaning.{Flow, Lawful, Node, node, width_of, original_of, def_of, present, used, uses, has, DefFits}
use Rattle.flow.specs.declared.definition.ValueDef.{ValueDef}
use Rattle.flow.specs.declared.definition.ValueDef.TheVariants.{Constant, Operation, Variable, Deleted}
use Rattle.flow.proofs.Among.{has_before_map, map_among}
use Rattle.flow.proofs.Paths.{live_exists}
use Rattle.views.specs.Redefined.{Redefines}
use Rattle.views.specs.Originals.{originals, with_originals, resolved_def, resolved}
use Rattle.views.specs.RedefinedLaws.{node_original, redefined_lawful, redefined_laid_out}

pub values_originals : (g : Flow) (args : Operands) → values (originals g args) ≡ map (original_of g) (values args)
values_originals g Nullary = refl
values_originals g (Unary a) = refl
values_originals g (Binary a b) = refl
values_originals g (Ternary a b c) = refl

pub used_originals : (g : Flow) (d : ValueDef) → used (with_originals g d) ≡ map (original_of g) (used d)
used_originals g (Constant z) = refl
used_originals g (Operation o cc args) = values_originals g args
used_originals g Variable = refl
used_originals g Deleted = refl

present_originals : (g : Flow) (d : ValueDef) → present (with_originals g d) ≡ present d
present_originals g (Constant z) = refl
present_originals g (Operation o cc args) = refl
present_originals g Variable = refl
present_originals g Deleted = refl

module _ (g : Flow) (lawful : Lawful g) where
  -- the original of an operand has the operand's node
  pub operand_node : (v u : ℕ) → has (uses g v) u ≡ true → node g (original_of g u) ≡ node g u
  operand_node v u h = node_original g lawful u (live_exists g u (lawful.operands_live v u h))

  operands_fit : (w : ℕ) (d : ValueDef) → ((u : ℕ) → has (used d) u ≡ true → node g (original_of g u) ≡ node g u) → DefFits g w d → DefFits g w (with_originals g d)
  operands_fit w (Constant z) same f = f
  operands_fit w (Operation o cc args) same f = (f.0, integers, subst (Signature o w) (sym widths) f.2)
    where
      vs : List ℕ
      vs = values args

      widths : map (width_of g) (values (originals g args)) ≡ map (width_of g) vs
      widths =
          ap (map (width_of g)) (values_originals g args) ∙ map-map (width_of g) (original_of g) vs
          ∙ map_among (λ u. width_of g (original_of g u)) (width_of g) vs (λ u h. ap (λ (n : Node). n.width) (same u h))

      integers : (k : ℕ) → k < length (values (originals g args)) → T (is_integer (width_of g (get_or (values (originals g args)) k 0)))
      integers k lt =
          let inside : k < length vs = subst (λ n. k < n) (ap length (values_originals g args) ∙ length-map vs (original_of g)) lt in
          let agree : width_of g (get_or (values (originals g args)) k 0) ≡ width_of g (get_or vs k 0) =
          sym (get_or-map (width_of g) (values (originals g args)) k 0 0 lt) ∙ ap (λ l. get_or l k 0) widths ∙ get_or-map (width_of g) vs k 0 0 inside in
          subst (λ n. T (is_integer n)) (sym agree) (f.1 k inside)
  operands_fit w Variable same f = f
  operands_fit w Deleted same f = f

  pub operands_redefine : Redefines (resolved_def g) g
  operands_redefine = record {
    alive = λ v lt. present_originals g (def_of g v);
    operands = λ v w lt h.
        let before = has_before_map (original_of g) (uses g v) w (subst (λ l. has l w ≡ true) (used_originals g (def_of g v)) h) in
        (before.0, before.1, sym (operand_node v before.0 before.1) ∙ ap (node g) before.2);
    fits = λ v lt. operands_fit (width_of g v) (def_of g v) (operand_node v) (lawful.fits v);
  }

  pub resolved_lawful : Lawful (resolved g)
  resolved_lawful = redefined_lawful (resolved_def g) g operands_redefine lawful

  pub resolved_laid_out : (l : Layout) → LawfulLayout g l → LawfulLayout (resolved g) l
  resolved_laid_out = redefined_laid_out (resolved_def g) g operands_redefine
