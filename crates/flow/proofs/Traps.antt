-- A live value has no number exactly where an operation that it reaches traps. Assumes nothing.
use Rattle.std.proofs.Common.{◌≡◌, ℕ, true, false, ◌⊎◌, List, [], ◌∷◌, map, Some, None, Option, sym, refl, ap, ◌∙◌, inl, inr, ⊎_elim}
use Rattle.std.proofs.lemmas.Bool.{both_ways, eqb-true, or_cases, or_right}
use Rattle.ir.specs.Entities.{values}
use Rattle.flow.specs.Meaning.{Flow, Lawful, Node, Reach, here, through, node, def_of, present, live, used, has}
use Rattle.flow.specs.Number.{def_number, number_of, Traps, NoneWhereTrapped}
use Rattle.ir.specs.Options.{and_then}
use Rattle.flow.specs.Rounds.{all_of}
use Rattle.flow.specs.declared.definition.ValueDef.{ValueDef}
use Rattle.flow.specs.declared.definition.ValueDef.TheVariants.{Constant, Operation, Variable, Deleted}
use Rattle.flow.proofs.Among.{has_here}
use Rattle.flow.proofs.Paths.{by_uses}
use Rattle.ir.proofs.Options.{none_is_no_some}
use Rattle.flow.proofs.Unfolds.{number_unfolds}

some_or_none : {A : Type 0} (x : Option A) → ((a : A) × (x ≡ Some a)) ⊎ (x ≡ None)
some_or_none (Some a) = inl (a, refl)
some_or_none None = inr refl

and_then_at : {A B : Type 0} (x : Option A) (f : A → Option B) (a : A) → x ≡ Some a → and_then x f ≡ f a
and_then_at x f a e = ap (λ y. and_then y f) e

and_then_none : {A B : Type 0} (x : Option A) (f : A → Option B) → x ≡ None → and_then x f ≡ None
and_then_none x f e = ap (λ y. and_then y f) e

-- one is missing exactly where not all are there
missing_one : (f : ℕ → Option ℕ) (vs : List ℕ) → all_of (map f vs) ≡ None → (w : ℕ) × (has vs w ≡ true) × (f w ≡ None)
missing_one f [] e = none_is_no_some [] (sym e)
missing_one f (v ∷ vs) e = ⊎_elim
    (λ s. let r = missing_one f vs (rest s.0 (sym (and_then_at (f v) _ s.0 s.1) ∙ e)) in (r.0, or_right _ _ r.1, r.2))
    (λ n. (v, has_here v vs, n))
    (some_or_none (f v))
  where
    rest : (n : ℕ) → and_then (all_of (map f vs)) (λ ns. Some (n ∷ ns)) ≡ None → all_of (map f vs) ≡ None
    rest n q = ⊎_elim (λ s. none_is_no_some (n ∷ s.0) (sym q ∙ and_then_at _ _ s.0 s.1)) (λ z. z) (some_or_none (all_of (map f vs)))

not_all : (f : ℕ → Option ℕ) (vs : List ℕ) (w : ℕ) → has vs w ≡ true → f w ≡ None → all_of (map f vs) ≡ None
not_all f [] w h e = absurd (both_ways false refl h)
not_all f (v ∷ vs) w h e = ⊎_elim
    (λ q. and_then_none (f v) _ (ap f (eqb-true v w q) ∙ e))
    (λ q. ⊎_elim (λ s. and_then_at (f v) _ s.0 s.1 ∙ and_then_none (all_of (map f vs)) _ (not_all f vs w q e)) (and_then_none (f v) _) (some_or_none (f v)))
    (or_cases _ _ h)

module _ (g : Flow) (inputs : ℕ → ℕ) where
  -- an operation that v reaches traps
  abbrev Trapped : ℕ → Type 0
  Trapped v = (w : ℕ) × Reach g v w × Traps g inputs w

  -- a value with no number traps itself, or uses a value with no number
  none_why : (v : ℕ) (d : ValueDef) → def_of g v ≡ d → present d ≡ true → def_number g inputs (number_of g inputs) (node g v) d ≡ None
      → Traps g inputs v ⊎ ((w : ℕ) × (has (used d) w ≡ true) × (number_of g inputs w ≡ None))
  none_why v (Constant z) is there e = none_is_no_some _ (sym e)
  none_why v (Operation o c args) is there e = ⊎_elim
      (λ s. inl (record {
        opcode = o;
        condition = c;
        args = args;
        numbers = s.0;
        operation = is;
        given = s.1;
        nothing = sym (and_then_at _ _ s.0 s.1) ∙ e;
      }))
      (λ n. inr (missing_one (number_of g inputs) (values args) n))
      (some_or_none (all_of (map (number_of g inputs) (values args))))
  none_why v Variable is there e = none_is_no_some _ (sym e)
  none_why v Deleted is there e = absurd (both_ways false refl there)

  none_trapped : Lawful g → (v : ℕ) → live g v ≡ true → number_of g inputs v ≡ None → Trapped v
  none_trapped lawful = by_uses g lawful (λ v. live g v ≡ true → number_of g inputs v ≡ None → Trapped v)
      (λ v below alive e. ⊎_elim
      (λ t. (v, here refl, t))
      (λ m. let r = below m.0 m.1 (lawful.operands_live v m.0 m.1) m.2 in (r.0, through m.0 m.1 r.1, r.2))
      (none_why v (def_of g v) refl alive (sym (number_unfolds g inputs v) ∙ e)))

  -- a value that uses one with no number has none
  none_above : (d : Node) (def : ValueDef) (w : ℕ) → has (used def) w ≡ true → number_of g inputs w ≡ None → def_number g inputs (number_of g inputs) d def ≡ None
  none_above d (Constant z) w h e = absurd (both_ways false refl h)
  none_above d (Operation o c args) w h e = and_then_none _ _ (not_all (number_of g inputs) (values args) w h e)
  none_above d Variable w h e = absurd (both_ways false refl h)
  none_above d Deleted w h e = refl

  trapped_itself : (v : ℕ) → Traps g inputs v → number_of g inputs v ≡ None
  trapped_itself v t =
      number_unfolds g inputs v ∙ ap (def_number g inputs (number_of g inputs) (node g v)) t.operation
      ∙ and_then_at _ _ t.numbers t.given ∙ t.nothing

  trapped_none : {v w : ℕ} → Reach g v w → Traps g inputs w → number_of g inputs v ≡ None
  trapped_none {v} {w} (here e) t = ap (number_of g inputs) e ∙ trapped_itself w t
  trapped_none {v} (through x m r) t = number_unfolds g inputs v ∙ none_above (node g v) (def_of g v) x m (trapped_none r t)

pub none_where_trapped : NoneWhereTrapped
none_where_trapped g inputs lawful v alive = (none_trapped g inputs lawful v alive, λ t. trapped_none g inputs t.1 t.2)
