-- The calls that change rows in place keep a plain graph sound. Assumes nothing.
use Rattle.std.proofs.Common.{◌≡◌, ℕ, zero, suc, ◌<◌, ◌≤◌, true, false, ◌&&◌, ltb, List, [], ◌∷◌, map, length, get_or, set, None, sym, refl, ap, ◌∙◌, subst, inl, inr, arith}
use Rattle.std.proofs.lemmas.List.{length-set, length-map, get_or-set_same, get_or-set_other}
use Rattle.std.proofs.lemmas.Bool.{and_parts, and_from, eqb-true, eq-eqb, cases_eq, false≢true}
use Rattle.ir.specs.Codes.{type_bits}
use Rattle.ir.specs.declared.entities.Inst.{Inst as Ir-as-Inst}
use Rattle.ir.specs.declared.entities.Value.{Value}
use Rattle.ir.specs.declared.instructions.Operands.{Operands}
use Rattle.ir.specs.declared.instructions.Operands.TheVariants.{Nullary, Unary, Binary, Ternary}
use Rattle.ir.specs.declared.types.Type as T
use Rattle.ir.specs.Constraints.{constraints_of, arg_count_fits, widths_fit, immediate_fits}
use Rattle.ir.specs.Entities.{arg_count}
use Rattle.rows.specs.Rows.{Rows, value_at, inst_at, no_inst, type_in, width_in, width_at, all_live, widths_of, is_alias, original, lists, names, erased}
use Rattle.rows.specs.WellFormed.{Sound, BlocksFit, value_fits, result_fits, fits_with, results_fit}
use Rattle.rows.proofs.Lawfulness.{live_in, width_follow}
use Rattle.plain.specs.Attached.{attached, attached_in, cleared, map_args, rewritten}
use Rattle.ir.specs.Refusals.{first}
use Rattle.plain.specs.Feed.{checks, grown}
use Rattle.plain.proofs.Accepted as accepted
use Rattle.plain.proofs.Chains.{settled_aliased, settled_erased}
use Rattle.plain.proofs.Growth.{Keeps, OverInsts, over, over_inst, over_param, all_live_kept, arg_widths_kept, listed_kept}
use Rattle.calls.specs.Calls.{ClearResults, ChangeToAlias, ResolveAllAliases}
use Rattle.rows.specs.declared.instruction.InstructionData.{InstructionData}
use Rattle.rows.specs.declared.value.ValueData.{ValueData}
use Rattle.rows.specs.declared.value.ValueData.TheVariants.{Inst, Param, Alias, Union, Deleted}

-- ---- clear_results

-- what a changed row has in common with the row it was, each row has
pub same_part : {X Y : Type 0} (f : X → Y) (xs : List X) (i : ℕ) (x d : X) → f x ≡ f (get_or xs i d) → i < length xs
    → (k : ℕ) → f (get_or (set xs i x) k d) ≡ f (get_or xs k d)
same_part f xs i x d e l k =
    elim (cases_eq k i) [
      | inl eq ↦ subst (λ j. f (get_or (set xs i x) j d) ≡ f (get_or xs j d)) (sym eq) (ap f (get_or-set_same xs i x d l) ∙ e)
      | inr ne ↦ ap f (get_or-set_other xs i k x d ne)
    ]

pub clear_sound : (p : Rows) (i : Ir-as-Inst) → i.0 < length p.insts → Sound p → Sound (grown p (ClearResults i))
clear_sound p i l s =
    let q : Rows = grown p (ClearResults i) in
    let n : length q.insts ≡ length p.insts = length-set p.insts i.0 (cleared (inst_at p i.0)) in
    let o : OverInsts p q =
    λ k ty h. (
      omega (arith, n),
      λ r. same_part (λ row. result_fits p row ty) p.insts i.0 (cleared (inst_at p i.0)) no_inst refl l k ∙ r,
    ) in (
      (s.0.0, omega (arith, n, s.0.1), s.0.2),
      (λ v. over p q o (omega arith) (λ w h. refl) (value_at p v) (s.1 v)),
      (λ k. same_part (λ row. all_live p row.args) p.insts i.0 (cleared (inst_at p i.0)) no_inst refl l k ∙ s.2 k),
      (λ k.
          elim (cases_eq k i.0) [
            | inl e ↦
                subst (λ j. results_fit p j (inst_at q j).results ≡ true) (sym e)
                (ap (λ row. results_fit p i.0 row.results) (get_or-set_same p.insts i.0 (cleared (inst_at p i.0)) no_inst l))
            | inr ne ↦
                ap (λ row. results_fit p k row.results) (get_or-set_other p.insts i.0 k (cleared (inst_at p i.0)) no_inst ne) ∙ s.3 k
          ]),
      s.4,
    )

-- ---- change_to_alias

-- a listed result is attached
named_attached : (p : Rows) (v i place : ℕ) (row : ValueData) → names row i place ≡ true → lists (inst_at p i).results v ≡ true
    → attached_in p v row ≡ true
named_attached p v i place (Inst ty num inst) n l =
    let e : inst.0 ≡ i = eqb-true inst.0 i (and_parts _ _ n).0 in
    ap (λ j. lists (inst_at p j).results v) e ∙ l
named_attached p v i place (Param ty num b) n l = refl
named_attached p v i place (Alias ty o) n l = absurd (false≢true n)
named_attached p v i place (Union ty x y) n l = absurd (false≢true n)
named_attached p v i place Deleted n l = absurd (false≢true n)

pub alias_sound : (p : Rows) (marks : ℕ) (dest src : Value) → first (checks p marks (ChangeToAlias dest src)) ≡ None → Sound p
    → Sound (grown p (ChangeToAlias dest src))
alias_sound p marks dest src e s =
    let a = accepted.alias_accepted p marks dest src e in
    let q : Rows = grown p (ChangeToAlias dest src) in
    let d : ℕ = dest.0 in
    let ty : T.Type = type_in (value_at p d) in
    let r : ℕ = original p src.0 in
    let row : ValueData = Alias ty (record { 0 = r }) in
    let l : d < length p.values = live_in p d a.dest_live in
    let rt : width_at p r ≡ type_bits ty = width_follow p s.1 (length p.values) src.0 ∙ sym a.widths in
    let same : (v : ℕ) → width_at q v ≡ width_at p v = same_part width_in p.values d row Deleted refl l in
    let keeps : Keeps p q = λ v h. same v in
    let o : OverInsts p q =
    λ k t h. (h, λ f. ap (fits_with (inst_at p k) t) (arg_widths_kept p q keeps (inst_at p k).args (s.2 k)) ∙ f) in
    let name : (i v place : ℕ) → lists (inst_at p i).results v ≡ true → names (value_at p v) i place ≡ true → names (value_at q v) i place ≡ true =
    λ i v place li n.
    elim (cases_eq v d) [
      | inl eq ↦ absurd (false≢true (sym a.free ∙ subst (λ w. attached p w ≡ true) eq (named_attached p v i place (value_at p v) n li)))
      | inr ne ↦ ap (λ x. names x i place) (get_or-set_other p.values d v row Deleted ne) ∙ n
    ] in (
      (omega (arith, length-set p.values d row, s.0.0), s.0.1, s.0.2),
      (λ v.
          elim (cases_eq v d) [
            | inl eq ↦
                subst (λ w. value_fits q (value_at q w) ≡ true) (sym eq)
                (ap (value_fits q) (get_or-set_same p.values d row Deleted l)
                ∙ and_from _ _ a.dest_live (eq-eqb _ _ (same r ∙ rt)))
            | inr ne ↦
                ap (value_fits q) (get_or-set_other p.values d v row Deleted ne) ∙ over p q o (omega arith) keeps (value_at p v) (s.1 v)
          ]),
      (λ i. all_live_kept p q keeps (inst_at p i).args (s.2 i)),
      (λ i. listed_kept p q i (inst_at p i).results (name i) (s.3 i)),
      settled_aliased p.values d ty r l (s.4 src.0) a.other s.4,
    )

-- ---- resolve_all_aliases

pub get_or_mapped : {X Y : Type 0} (f : X → Y) (xs : List X) (k : ℕ) (d : X) → get_or (map f xs) k (f d) ≡ f (get_or xs k d)
get_or_mapped f [] k d = refl
get_or_mapped f (x ∷ xs) zero d = refl
get_or_mapped f (x ∷ xs) (suc k) d = get_or_mapped f xs k d

width_erased : (row : ValueData) → is_alias row ≡ false → width_in (erased row) ≡ width_in row
width_erased (Inst ty num i) e = refl
width_erased (Param ty num b) e = refl
width_erased (Alias ty o) e = absurd (false≢true (sym e))
width_erased (Union ty x y) e = refl
width_erased Deleted e = refl

names_erased : (row : ValueData) (i place : ℕ) → names (erased row) i place ≡ names row i place
names_erased (Inst ty num inst) i place = refl
names_erased (Param ty num b) i place = refl
names_erased (Alias ty o) i place = refl
names_erased (Union ty x y) i place = refl
names_erased Deleted i place = refl

module _ (p q : Rows) (f : ℕ → ℕ) (same : (v : ℕ) → width_at q (f v) ≡ width_at p v) where
  live_mapped : (o : Operands) → all_live q (map_args f o) ≡ all_live p o
  live_mapped Nullary = refl
  live_mapped (Unary a) = let x = same a.0 in cc
  live_mapped (Binary a b) = let x = same a.0 in let y = same b.0 in cc
  live_mapped (Ternary a b c) = let x = same a.0 in let y = same b.0 in let z = same c.0 in cc

  widths_mapped : (o : Operands) → widths_of q (map_args f o) ≡ widths_of p o
  widths_mapped Nullary = refl
  widths_mapped (Unary a) = let x = same a.0 in cc
  widths_mapped (Binary a b) = let x = same a.0 in let y = same b.0 in cc
  widths_mapped (Ternary a b c) = let x = same a.0 in let y = same b.0 in let z = same c.0 in cc

count_mapped : (f : ℕ → ℕ) (o : Operands) → arg_count (map_args f o) ≡ arg_count o
count_mapped f Nullary = refl
count_mapped f (Unary a) = refl
count_mapped f (Binary a b) = refl
count_mapped f (Ternary a b c) = refl

fits_rewritten : (f : ℕ → ℕ) (i : InstructionData) (w : ℕ) (ws : ℕ × ℕ × ℕ) → fits_with (rewritten f i) w ws ≡ fits_with i w ws
fits_rewritten f i w ws =
    ap
    (λ n.
    arg_count_fits (constraints_of i.opcode) n
    && (widths_fit (constraints_of i.opcode) w ws.0 ws.1 ws.2 && immediate_fits (constraints_of i.opcode) w i.imm))
    (count_mapped f i.args)

erased_fits : (p q : Rows) → OverInsts p q → p.blocks ≤ q.blocks → (row : ValueData) → value_fits p row ≡ true → value_fits q (erased row) ≡ true
erased_fits p q o b (Inst ty num i) h = over_inst p q o b ty num i h
erased_fits p q o b (Param ty num block) h = over_param p q o b ty num block h
erased_fits p q o b (Alias ty r) h = refl
erased_fits p q o b (Union ty x y) h = h
erased_fits p q o b Deleted h = refl

pub resolve_sound : (p : Rows) → Sound p → Sound (grown p ResolveAllAliases)
resolve_sound p s =
    let q : Rows = grown p ResolveAllAliases in
    let value : (v : ℕ) → value_at q v ≡ erased (value_at p v) = λ v. get_or_mapped erased p.values v Deleted in
    let inst : (i : ℕ) → inst_at q i ≡ rewritten (original p) (inst_at p i) = λ i. get_or_mapped (rewritten (original p)) p.insts i no_inst in
    let same : (v : ℕ) → width_at q (original p v) ≡ width_at p v =
    λ v.
    ap width_in (value (original p v)) ∙ width_erased (value_at p (original p v)) (s.4 v)
    ∙ width_follow p s.1 (length p.values) v in
    let n : length q.insts ≡ length p.insts = length-map p.insts (rewritten (original p)) in
    let o : OverInsts p q =
    λ i ty h. (
      omega (arith, n),
      λ r. ap (λ row. result_fits q row ty) (inst i) ∙ fits_rewritten (original p) (inst_at p i) ty _ ∙ ap (fits_with (inst_at p i) ty) (widths_mapped p q (original p) same (inst_at p i).args) ∙ r,
    ) in (
      (omega (arith, length-map p.values erased, s.0.0), omega (arith, n, s.0.1), s.0.2),
      (λ v. ap (value_fits q) (value v) ∙ erased_fits p q o (omega arith) (value_at p v) (s.1 v)),
      (λ i. ap (λ row. all_live q row.args) (inst i) ∙ live_mapped p q (original p) same (inst_at p i).args ∙ s.2 i),
      (λ i.
          ap (λ row. results_fit q i row.results) (inst i)
          ∙ listed_kept p q i (inst_at p i).results (λ v place l h. ap (λ row. names row i place) (value v) ∙ names_erased (value_at p v) i place ∙ h) (s.3 i)),
      settled_erased p.values,
    )

-- ---- the blocks stay

pub clear_blocks : (p : Rows) (i : Ir-as-Inst) → i.0 < length p.insts → BlocksFit p → BlocksFit (grown p (ClearResults i))
clear_blocks p i l b k m =
    same_part (λ row. ltb row.block.0 p.blocks) p.insts i.0 (cleared (inst_at p i.0)) no_inst refl l k
    ∙ b k (omega (arith, length-set p.insts i.0 (cleared (inst_at p i.0))))

pub resolve_blocks : (p : Rows) → BlocksFit p → BlocksFit (grown p ResolveAllAliases)
resolve_blocks p b k m =
    ap (λ row. ltb row.block.0 p.blocks) (get_or_mapped (rewritten (original p)) p.insts k no_inst)
    ∙ b k (omega (arith, length-map p.insts (rewritten (original p))))
