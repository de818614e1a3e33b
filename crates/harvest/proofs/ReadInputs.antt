-- The number of a value reads no input but those of the variables that it reaches. Assumes nothing.
use Rattle.std.proofs.Common.{◌≡◌, ℕ, zero, suc, ◌^◌, ◌<◌, Bool, true, false, cond, List, [], ◌∷◌, map, length, get_or, Some, Option, sym, refl, ap, subst, pow_pos}
use Rattle.std.specs.Prelude.{nat_lt}
use Rattle.std.proofs.lemmas.Bool.{lt-ltb, ltb-true, or_right}
use Rattle.ir.specs.Entities.{values}
use Rattle.ir.specs.Operations.{compute}
use Rattle.ir.specs.Options.{and_then}
use Rattle.flow.specs.Meaning.{Flow, Lawful, Reach, here, through, node, width_of, original_of, def_of, has, present, used, uses}
use Rattle.flow.specs.Number.{def_number, number_of, value_step, InputsFit}
use Rattle.flow.specs.Rounds.{all_of, rounds}
use Rattle.flow.specs.declared.definition.ValueDef.{ValueDef}
use Rattle.flow.specs.declared.definition.ValueDef.TheVariants.{Constant, Operation, Variable, Deleted}
use Rattle.flow.proofs.Among.{has_here}
use Rattle.flow.proofs.Paths.{live_exists, reach_transitive}
use Rattle.harvest.specs.Written.{ReachedFit}

-- ---- numbers that agree on what is reached

map_agree : (f h : ℕ → Option ℕ) (vs : List ℕ) → ((u : ℕ) → has vs u ≡ true → f u ≡ h u) → map f vs ≡ map h vs
map_agree f h [] same = refl
map_agree f h (v ∷ vs) same = λ i. same v (has_here v vs) i ∷ map_agree f h vs (λ u m. same u (or_right _ _ m)) i

def_agree : (g : Flow) (v : ℕ) (a b : ℕ → ℕ) (f h : ℕ → Option ℕ) (d : ValueDef) → def_of g v ≡ d
    → (def_of g v ≡ Variable → a (original_of g v) ≡ b (original_of g v)) → ((u : ℕ) → has (uses g v) u ≡ true → f u ≡ h u)
    → def_number g a f (node g v) d ≡ def_number g b h (node g v) d
def_agree g v a b f h (Constant z) e input same = refl
def_agree g v a b f h (Operation o c args) e input same =
    ap (λ (l : List (Option ℕ)). and_then (all_of l) (compute o c (width_of g v) (width_of g (get_or (values args) 0 0))))
    (map_agree f h (values args) (λ u m. same u (subst (λ d. has (used d) u ≡ true) (sym e) m)))
def_agree g v a b f h Variable e input same = ap Some (input e)
def_agree g v a b f h Deleted e input same = refl

module _ (g : Flow) (root : ℕ) (a b : ℕ → ℕ) (same : (u : ℕ) → Reach g root u → def_of g u ≡ Variable → a (original_of g u) ≡ b (original_of g u)) where
  in_rounds : (d v : ℕ) → Reach g root v → rounds (value_step g a) d v ≡ rounds (value_step g b) d v
  unfolding rounds value_step
  in_rounds zero v r = refl
  in_rounds (suc d) v r =
      def_agree g v a b (rounds (value_step g a) d) (rounds (value_step g b) d) (def_of g v) refl (same v r)
      (λ u m. in_rounds d u (reach_transitive g root v u r (through u m (here refl))))

  pub numbers_agree : (v : ℕ) → Reach g root v → number_of g a v ≡ number_of g b v
  unfolding number_of
  numbers_agree v r = in_rounds (length g) v r

-- ---- inputs that fit, in place of those of which only what is read does

-- a number where it fits its original, and else 0
pub within : Flow → (ℕ → ℕ) → ℕ → ℕ
within g f o = cond (nat_lt (f o) (2 ^ width_of g o)) (f o) 0

below : (n w : ℕ) (b : Bool) → nat_lt n (2 ^ w) ≡ b → cond b n 0 < 2 ^ w
below n w true e = ltb-true n (2 ^ w) e
below n w false e = pow_pos w

pub within_fits : (g : Flow) → Lawful g → (f : ℕ → ℕ) → InputsFit g (within g f)
unfolding within
within_fits g lawful f v e =
    let i = live_exists g v (ap present e) in
    subst (λ w. within g f (original_of g v) < 2 ^ w) (lawful.originals v i).width (below (f (original_of g v)) (width_of g (original_of g v)) _ refl)

pub within_same : (g : Flow) → Lawful g → (root : ℕ) (f : ℕ → ℕ) → ReachedFit g root f → (u : ℕ) → Reach g root u → def_of g u ≡ Variable → f (original_of g u) ≡ within g f (original_of g u)
unfolding within
within_same g lawful root f fit u r e =
    let o = original_of g u in
    let i = live_exists g u (ap present e) in
    let fits : f o < 2 ^ width_of g o = subst (λ w. f o < 2 ^ w) (sym (lawful.originals u i).width) (fit u r e) in
    sym (ap (λ b. cond b (f o) 0) (lt-ltb (f o) (2 ^ width_of g o) fits))
