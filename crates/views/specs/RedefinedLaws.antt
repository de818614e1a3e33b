-- A view that changes definitions and nothing else: what stays, what it reaches, and that it is lawful. Assumes nothing.
use Rattle.std.proofs.Common.{◌≡◌, ℕ, ◌<◌, ◌≤◌, true, cond, T, map, length, get_or, Ok, Err, nat_lt, sym, refl, ap, ◌∙◌, subst, ⊎_elim}
use mathlib.Core.Path.{fun_ext}
use Rattle.std.proofs.lemmas.List.{get_or-map, get_or_past, length-map}
use Rattle.std.proofs.lemmas.Bool.{cases_lt, cond-true, cond-false, lt-ltb, le-ltb}
use Rattle.ir.specs.Entities.{value, values, not_live}
use Rattle.ir.specs.Widths.{Signature, is_integer}
use Rattle.flow.specs.Layout.{Layout, LawfulLayout}
use Rattle.flow.specs.Meaning.{Flow, Lawful, Node, Reach, here, through, missing, node, width_of, original_of, def_of, asked, present, live, used, uses, has, DefFits}
use Rattle.flow.specs.declared.definition.ValueDef.{ValueDef}
use Rattle.flow.specs.declared.definition.ValueDef.TheVariants.{Constant, Operation, Variable, Deleted}
use Rattle.views.specs.Redefined.{redefined_node, redefined, Redefines, SameValues}

-- a value has the node of its original
pub node_original : (g : Flow) → Lawful g → (v : ℕ) → v < length g → node g (original_of g v) ≡ node g v
node_original g lawful v lt =
    let r = lawful.originals v lt in
    λ i. record { width = r.width i; original = r.own i; def = r.def i }

-- a value uses what each value of its node uses
pub uses_same : (g : Flow) (a x u : ℕ) → node g x ≡ node g a → has (uses g a) u ≡ true → has (uses g x) u ≡ true
uses_same g a x u same h = subst (λ (n : Node). has (used n.def) u ≡ true) (sym same) h

-- a definition fits in every graph that gives the same widths
pub def_fits : (g h : Flow) → ((u : ℕ) → width_of h u ≡ width_of g u) → (w : ℕ) (d : ValueDef) → DefFits g w d → DefFits h w d
def_fits g h same w (Constant z) f = f
def_fits g h same w (Operation o cc args) f = (
  f.0,
  (λ k lt. subst (λ n. T (is_integer n)) (sym (same (get_or (values args) k 0))) (f.1 k lt)),
  subst (λ (widths : ℕ → ℕ). Signature o w (map widths (values args))) (sym (fun_ext same)) f.2,
)
def_fits g h same w Variable f = f
def_fits g h same w Deleted f = f

module _ (f : Node → ValueDef) (g : Flow) where
  pub length_redefined : length (redefined f g) ≡ length g
  unfolding redefined
  length_redefined = length-map g (redefined_node f)

  pub node_within : (v : ℕ) → v < length g → node (redefined f g) v ≡ redefined_node f (node g v)
  unfolding redefined
  node_within v lt = get_or-map (redefined_node f) g v missing missing lt

  pub node_past : (v : ℕ) → length g ≤ v → node (redefined f g) v ≡ node g v
  node_past v past = get_or_past (redefined f g) v missing (subst (λ n. n ≤ v) (sym length_redefined) past) ∙ sym (get_or_past g v missing past)

  -- what the view does not change of a node
  same_field : {A : Type 0} (field : Node → A) → ((n : Node) → field (redefined_node f n) ≡ field n) → (v : ℕ) → field (node (redefined f g) v) ≡ field (node g v)
  same_field field same v = ⊎_elim (λ lt. ap field (node_within v lt) ∙ same (node g v)) (λ past. ap field (node_past v past)) (cases_lt v (length g))

  pub width_redefined : (v : ℕ) → width_of (redefined f g) v ≡ width_of g v
  width_redefined = same_field (λ (n : Node). n.width) (λ n. refl)

  pub original_redefined : (v : ℕ) → original_of (redefined f g) v ≡ original_of g v
  original_redefined = same_field (λ (n : Node). n.original) (λ n. refl)

  pub def_within : (v : ℕ) → v < length g → def_of (redefined f g) v ≡ f (node g v)
  def_within v lt = ap (λ (n : Node). n.def) (node_within v lt)

  -- ---- the answers of the view, from those of the graph below

  asked_same : {A : Type 0} (v : ℕ) (x y : A) → (v < length g → x ≡ y) → asked (redefined f g) v x ≡ asked g v y
  asked_same v x y same = ap (λ n. cond (nat_lt v n) (Ok x) (Err not_live)) length_redefined ∙ ⊎_elim
      (λ lt. cond-true (nat_lt v (length g)) (Ok x) (Err not_live) (lt-ltb v (length g) lt) ∙ ap Ok (same lt) ∙ sym (cond-true (nat_lt v (length g)) (Ok y) (Err not_live) (lt-ltb v (length g) lt)))
      (λ past. cond-false (nat_lt v (length g)) (Ok x) (Err not_live) (le-ltb v (length g) past) ∙ sym (cond-false (nat_lt v (length g)) (Ok y) (Err not_live) (le-ltb v (length g) past)))
      (cases_lt v (length g))

  pub asked_original : (v : ℕ) → asked (redefined f g) v (value (original_of (redefined f g) v)) ≡ asked g v (value (original_of g v))
  asked_original v = asked_same v _ _ (λ lt. ap value (original_redefined v))

  pub asked_def : (v : ℕ) → asked (redefined f g) v (def_of (redefined f g) v) ≡ asked g v (f (node g v))
  asked_def v = asked_same v _ _ (def_within v)

  module _ (may : Redefines f g) where
    pub live_redefined : (v : ℕ) → live (redefined f g) v ≡ live g v
    live_redefined v = ⊎_elim
        (λ lt. ap present (def_within v lt) ∙ may.alive v lt)
        (λ past. ap (λ (n : Node). present n.def) (node_past v past))
        (cases_lt v (length g))

    pub same_values : SameValues g (redefined f g)
    same_values = record {
      count = length_redefined;
      widths = width_redefined;
      originals = original_redefined;
      alive = live_redefined;
    }

    -- an operand of the view has the node of an operand below
    operand_below : (v w : ℕ) → has (uses (redefined f g) v) w ≡ true → (u : ℕ) × (has (uses g v) u ≡ true) × (node g u ≡ node g w)
    operand_below v w h = ⊎_elim
        (λ lt. may.operands v w lt (subst (λ d. has (used d) w ≡ true) (def_within v lt) h))
        (λ past. (w, subst (λ (n : Node). has (used n.def) w ≡ true) (node_past v past) h, refl))
        (cases_lt v (length g))

    -- What the view reaches from a value, the graph reaches from each value of the same node, up to a value of the same node.
    pub reach_below : {a b : ℕ} → Reach (redefined f g) a b → (x : ℕ) → node g x ≡ node g a → (y : ℕ) × Reach g x y × (node g y ≡ node g b)
    reach_below (here e) x same = (x, here refl, same ∙ ap (node g) e)
    reach_below {a} (through w m r) x same =
        let below = operand_below a w m in
        let rest = reach_below r below.0 below.2 in
        (rest.0, through below.0 (uses_same g a x below.0 same below.1) rest.1, rest.2)

    pub redefined_lawful : Lawful g → Lawful (redefined f g)
    redefined_lawful lawful = record {
      few = subst (λ n. n ≤ 1024) (sym length_redefined) lawful.few;
      originals = λ v lt.
          let inside : v < length g = subst (λ n. v < n) length_redefined lt in
          let same : node (redefined f g) (original_of (redefined f g) v) ≡ node (redefined f g) v =
          ap (node (redefined f g)) (original_redefined v) ∙ node_within (original_of g v) (lawful.originals v inside).exists ∙ ap (redefined_node f) (node_original g lawful v inside) ∙ sym (node_within v inside) in
          record {
            exists = subst (λ n. original_of (redefined f g) v < n) (sym length_redefined) (subst (λ u. u < length g) (sym (original_redefined v)) (lawful.originals v inside).exists);
            own = ap (λ (n : Node). n.original) same;
            width = ap (λ (n : Node). n.width) same;
            def = ap (λ (n : Node). n.def) same;
          };
      operands_live = λ v w h.
          let below = operand_below v w h in
          live_redefined w ∙ ap (λ (n : Node). present n.def) (sym below.2) ∙ lawful.operands_live v below.0 below.1;
      fits = λ v. ⊎_elim
          (λ lt. subst (λ (n : Node). DefFits (redefined f g) n.width n.def) (sym (node_within v lt)) (def_fits g (redefined f g) width_redefined (width_of g v) (f (node g v)) (may.fits v lt)))
          (λ past. subst (λ (n : Node). DefFits (redefined f g) n.width n.def) (sym (node_past v past)) (def_fits g (redefined f g) width_redefined (width_of g v) (def_of g v) (lawful.fits v)))
          (cases_lt v (length g));
      loopless = λ v w h r.
          let below = operand_below v w h in
          let end = reach_below r below.0 below.2 in
          lawful.loopless end.0 below.0 (uses_same g v end.0 below.0 end.2 below.1) end.1;
    }

    pub redefined_laid_out : (l : Layout) → LawfulLayout g l → LawfulLayout (redefined f g) l
    redefined_laid_out l lawful = record {
      few_blocks = lawful.few_blocks;
      few_insts = lawful.few_insts;
      block_exists = lawful.block_exists;
      result_live = λ i v e. live_redefined v.0 ∙ lawful.result_live i v e;
    }
