-- No building call makes a loop, if the source of a new alias reaches nothing that leads through the destination. Assumes nothing.
use Rattle.std.proofs.Common.{◌≡◌, ℕ, ◌<◌, true, false, eqb, length, get_or, None, sym, refl, ap, ◌∙◌, subst, inl, inr}
use Rattle.std.specs.List.{AllByRecursion as All}
use Rattle.std.proofs.lemmas.List.{get_or-set_other}
use Rattle.std.proofs.lemmas.Bool.{and_parts, or_cases, or_left, or_right, eqb-true, eq-eqb, ltb-true, false≢true}
use Rattle.ir.specs.Constraints.{constraints_of}
use Rattle.ir.specs.Entities.{values}
use Rattle.ir.specs.declared.constraints.OpcodeConstraints.{OpcodeConstraints}
use Rattle.ir.specs.declared.constraints.OpcodeConstraints.TheVariants as kind
use Rattle.ir.specs.declared.entities.Inst.{Inst as IrInst}
use Rattle.ir.specs.declared.entities.Value.{Value}
use Rattle.ir.specs.declared.instructions.Operands.{Operands}
use Rattle.ir.specs.declared.instructions.Operands.TheVariants.{Nullary, Unary, Binary, Ternary}
use Rattle.flow.specs.Loops.{Path, Loopless}
use Rattle.flow.specs.Meaning.{NoLoop, used, has}
use Rattle.flow.proofs.Loops.{loopless, no_loop}
use Rattle.rows.specs.Meaning.{flow, def_by, inst_def, def_in}
use Rattle.rows.specs.Rows.{Rows, value_at, inst_at, no_inst, type_in, width_at, is_alias, original, original_in, all_live, erased}
use Rattle.rows.specs.WellFormed.{Sound, value_fits}
use Rattle.rows.proofs.Aliases.{follow_end}
use Rattle.rows.proofs.Lawfulness.{live_in, def_live, original_in_lem, original_own}
use Rattle.rows.proofs.Leaning.{uses_in, uses_are}
use Rattle.plain.specs.Attached.{cleared, map_args, rewritten}
use Rattle.ir.specs.Refusals.{first}
use Rattle.plain.specs.Feed.{checks, grown}
use Rattle.plain.specs.Loops.{through}
use Rattle.plain.proofs.Accepted as accepted
use Rattle.plain.proofs.Chains.{original_more, original_through, original_past, erased_ends}
use Rattle.plain.proofs.Changes.{same_part, get_or_mapped}
use Rattle.plain.proofs.Growth.{Grown, row_kept, inst_kept}
use Rattle.plain.proofs.Loops.{same_loop, grown_loop, resolved_loop, aliased_loop}
use Rattle.calls.specs.Calls.{ClearResults, ChangeToAlias, ResolveAllAliases}
use Rattle.rows.specs.declared.instruction.InstructionData.{InstructionData}
use Rattle.rows.specs.declared.value.ValueData.{ValueData}
use Rattle.rows.specs.declared.value.ValueData.TheVariants.{Inst, Param, Alias, Union, Deleted}

pub rows_loopless : (p : Rows) → NoLoop (flow p) → Loopless (uses_in p)
rows_loopless p none = subst Loopless (sym (uses_are p)) (loopless (flow p) none)

pub rows_no_loop : (p : Rows) → Loopless (uses_in p) → NoLoop (flow p)
rows_no_loop p none = no_loop (flow p) (subst Loopless (uses_are p) none)

-- ---- rows are added

module _ (p q : Rows) (g : Grown p q) (s : Sound p) (plain_rows : All (λ row. is_alias row ≡ false) g.values)
    (operands : (i : ℕ) → all_live p (inst_at q i).args ≡ true) where
  def_kept : (row : ValueData) → value_fits p row ≡ true → def_in q row ≡ def_in p row
  def_kept (Inst ty num i) h =
      ap inst_def (inst_kept p q g s.1 s.2 i.0 (ltb-true _ _ (and_parts _ _ (and_parts _ _ h).1).0))
  def_kept (Param ty num b) h = refl
  def_kept (Alias ty o) h = refl
  def_kept (Union ty x y) h = refl
  def_kept Deleted h = refl

  original_kept : (v : ℕ) → original q v ≡ original p v
  original_kept v = ap (λ rows. original_in rows v) g.values_are ∙ original_more p.values g.values plain_rows s.4 v

  uses_kept : (v : ℕ) → v < length p.values → uses_in q v ≡ uses_in p v
  uses_kept v l =
      ap (λ w. used (def_in q (value_at q w))) (original_kept v)
      ∙ ap (λ row. used (def_in q row)) (row_kept p q g s.1 s.2 (original p v) (original_in_lem p s v l))
      ∙ ap used (def_kept (value_at p (original p v)) (s.1 (original p v)))

  pub more_no_loop : NoLoop (flow p) → NoLoop (flow q)
  more_no_loop none =
      rows_no_loop q
      (grown_loop (uses_in p) (uses_in q) (length p.values) uses_kept
      (λ v a h. live_in p a (def_live q (width_at p) operands (value_at q (original q v)) a h))
      (rows_loopless p none))

-- ---- clear_results

def_cleared : (s : OpcodeConstraints) (i : InstructionData) → def_by s (cleared i) ≡ def_by s i
def_cleared kind.Constant i = refl
def_cleared kind.Unary i = refl
def_cleared kind.Binary i = refl
def_cleared kind.Shift i = refl
def_cleared kind.Select i = refl
def_cleared kind.Extend i = refl
def_cleared kind.Compare i = refl
def_cleared kind.Opaque i = refl

same_defs : (p : Rows) (i : IrInst) → i.0 < length p.insts → (row : ValueData) → def_in (grown p (ClearResults i)) row ≡ def_in p row
same_defs p i l (Inst ty num k) =
    same_part inst_def p.insts i.0 (cleared (inst_at p i.0)) no_inst (def_cleared (constraints_of (inst_at p i.0).opcode) (inst_at p i.0)) l k.0
same_defs p i l (Param ty num b) = refl
same_defs p i l (Alias ty o) = refl
same_defs p i l (Union ty x y) = refl
same_defs p i l Deleted = refl

pub clear_no_loop : (p : Rows) (i : IrInst) → i.0 < length p.insts → NoLoop (flow p) → NoLoop (flow (grown p (ClearResults i)))
clear_no_loop p i l none =
    let q : Rows = grown p (ClearResults i) in
    rows_no_loop q (same_loop (uses_in p) (uses_in q) (λ v. ap used (same_defs p i l (value_at p (original p v)))) (rows_loopless p none))

-- ---- resolve_all_aliases

uses_rewritten : (f : ℕ → ℕ) (s : OpcodeConstraints) (i : InstructionData) (b : ℕ) → has (used (def_by s (rewritten f i))) b ≡ true
    → (a : ℕ) × (has (used (def_by s i)) a ≡ true) × (f a ≡ b)
uses_rewritten f s i b h = by s h
  where
    one_mapped : (x : Value) → has (values (map_args f (Unary x))) b ≡ true → (a : ℕ) × (has (values (Unary x)) a ≡ true) × (f a ≡ b)
    one_mapped x h =
        elim (or_cases (eqb (f x.0) b) false h)
        [ inl e ↦ (x.0, or_left _ _ (eq-eqb x.0 x.0 refl), eqb-true (f x.0) b e) | inr e ↦ absurd (false≢true e) ]

    two_mapped : (x y : Value) → has (values (map_args f (Binary x y))) b ≡ true → (a : ℕ) × (has (values (Binary x y)) a ≡ true) × (f a ≡ b)
    two_mapped x y h =
        elim (or_cases (eqb (f x.0) b) (has (values (map_args f (Unary y))) b) h) [
          | inl e ↦ (x.0, or_left _ _ (eq-eqb x.0 x.0 refl), eqb-true (f x.0) b e)
          | inr g ↦ let m = one_mapped y g in (m.0, or_right (eqb x.0 m.0) _ m.1, m.2)
        ]

    mapped : (o : Operands) → has (values (map_args f o)) b ≡ true → (a : ℕ) × (has (values o) a ≡ true) × (f a ≡ b)
    mapped Nullary h = absurd (false≢true h)
    mapped (Unary x) h = one_mapped x h
    mapped (Binary x y) h = two_mapped x y h
    mapped (Ternary x y z) h =
        elim (or_cases (eqb (f x.0) b) (has (values (map_args f (Binary y z))) b) h) [
          | inl e ↦ (x.0, or_left _ _ (eq-eqb x.0 x.0 refl), eqb-true (f x.0) b e)
          | inr g ↦ let m = two_mapped y z g in (m.0, or_right (eqb x.0 m.0) _ m.1, m.2)
        ]

    by : (s : OpcodeConstraints) → has (used (def_by s (rewritten f i))) b ≡ true → (a : ℕ) × (has (used (def_by s i)) a ≡ true) × (f a ≡ b)
    by kind.Constant h = absurd (false≢true h)
    by kind.Unary h = mapped i.args h
    by kind.Binary h = mapped i.args h
    by kind.Shift h = mapped i.args h
    by kind.Select h = mapped i.args h
    by kind.Extend h = mapped i.args h
    by kind.Compare h = mapped i.args h
    by kind.Opaque h = absurd (false≢true h)

-- what a row uses after the rewriting are the originals of what it used before, and an alias uses nothing
row_uses : (p : Rows) (row : ValueData) (b : ℕ) → has (used (def_in (grown p ResolveAllAliases) (erased row))) b ≡ true
    → (is_alias row ≡ false) × ((a : ℕ) × (has (used (def_in p row)) a ≡ true) × (original p a ≡ b))
row_uses p (Inst ty num i) b h = (
  refl,
  uses_rewritten (original p) (constraints_of (inst_at p i.0).opcode) (inst_at p i.0) b
      (sym (ap (λ r. has (used (inst_def r)) b) (get_or_mapped (rewritten (original p)) p.insts i.0 no_inst)) ∙ h),
)
row_uses p (Param ty num x) b h = absurd (false≢true h)
row_uses p (Alias ty o) b h = absurd (false≢true h)
row_uses p (Union ty x y) b h = absurd (false≢true h)
row_uses p Deleted b h = absurd (false≢true h)

pub resolve_no_loop : (p : Rows) → Sound p → NoLoop (flow p) → NoLoop (flow (grown p ResolveAllAliases))
resolve_no_loop p s none =
    let q : Rows = grown p ResolveAllAliases in
    rows_no_loop q
    (resolved_loop (uses_in p) (uses_in q) (original p)
    (λ v b h.
    let own : original q v ≡ v = follow_end q.values (length q.values) v (erased_ends p.values v) in
    let e : uses_in q v ≡ used (def_in q (erased (value_at p v))) =
    ap (λ w. used (def_in q (value_at q w))) own ∙ ap (λ row. used (def_in q row)) (get_or_mapped erased p.values v Deleted) in
    let t = row_uses p (value_at p v) b (ap (λ o. has o b) (sym e) ∙ h) in
    let mine : original p v ≡ v = follow_end p.values (length p.values) v t.0 in
    let u = t.1 in
    (u.0, ap (λ w. has (used (def_in p (value_at p w))) u.0) mine ∙ u.1, u.2))
    (λ a. ap (λ w. used (def_in p (value_at p w))) (original_own p s a))
    (rows_loopless p none))

-- ---- change_to_alias

-- what leads through the destination uses what the source uses, and all else what it used
module _ (p : Rows) (marks : ℕ) (dest src : Value) (e : first (checks p marks (ChangeToAlias dest src)) ≡ None) (s : Sound p) where
  pub taken : (v : ℕ) → through p.values dest.0 v ≡ true → uses_in (grown p (ChangeToAlias dest src)) v ≡ uses_in p (original p src.0)
  taken v h =
      let a = accepted.alias_accepted p marks dest src e in
      let l = live_in p dest.0 a.dest_live in
      let r : ℕ = original p src.0 in
      ap (λ w. used (def_in p (get_or (grown p (ChangeToAlias dest src)).values w Deleted))) (original_through p.values dest.0 (type_in (value_at p dest.0)) r l (s.4 src.0) a.other s.4 v h)
      ∙ ap (λ x. used (def_in p x)) (get_or-set_other p.values dest.0 r (Alias (type_in (value_at p dest.0)) (record { 0 = r })) Deleted a.other)
      ∙ sym (ap (λ w. used (def_in p (value_at p w))) (original_own p s src.0))

  pub left : (v : ℕ) → through p.values dest.0 v ≡ false → uses_in (grown p (ChangeToAlias dest src)) v ≡ uses_in p v
  left v h =
      let a = accepted.alias_accepted p marks dest src e in
      let l = live_in p dest.0 a.dest_live in
      let r : ℕ = original p src.0 in
      let t = original_past p.values dest.0 (type_in (value_at p dest.0)) r l (s.4 src.0) a.other s.4 v h in
      ap (λ w. used (def_in p (get_or (grown p (ChangeToAlias dest src)).values w Deleted))) t.0
      ∙ ap (λ x. used (def_in p x)) (get_or-set_other p.values dest.0 (original p v) (Alias (type_in (value_at p dest.0)) (record { 0 = r })) Deleted t.1)

  pub alias_no_loop : ((w : ℕ) → Path (uses_in p) (original p src.0) w → through p.values dest.0 w ≡ false)
      → NoLoop (flow p) → NoLoop (flow (grown p (ChangeToAlias dest src)))
  alias_no_loop clear none =
      rows_no_loop (grown p (ChangeToAlias dest src))
      (aliased_loop (uses_in p) (uses_in (grown p (ChangeToAlias dest src))) (through p.values dest.0) (original p src.0) taken left clear
      (rows_loopless p none))
