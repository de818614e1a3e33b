-- The calls that add rows keep a plain graph sound. Assumes nothing.
use Rattle.std.proofs.Common.{◌≡◌, ℕ, suc, ◌+◌, ◌<◌, ◌≤◌, true, false, ◌&&◌, List, [], ◌∷◌, ◌++◌, length, get_or, ℤ, is_some, None, sym, refl, ap, ◌∙◌, subst, inl, inr, arith}
use Rattle.std.specs.List.{AllByRecursion as All}
use Rattle.std.proofs.lemmas.List.{length-append, length_push, append-nil, get_or_push, get_or_past, get_or_at, get_or-append-add}
use Rattle.std.proofs.lemmas.Bool.{and_parts, and_from, lt-ltb, eq-eqb, eqb-true, cases_eq}
use Rattle.ir.specs.Codes.{type_bits, type_at}
use Rattle.ir.proofs.Limits.{known_live}
use Rattle.ir.specs.Constraints.{constraints_of, arg_count_fits, result_count_fits, widths_fit, immediate_fits}
use Rattle.ir.specs.Entities.{arg_count}
use Rattle.ir.specs.declared.constraints.OpcodeConstraints.{OpcodeConstraints}
use Rattle.ir.specs.declared.constraints.OpcodeConstraints.TheVariants.{Constant, Unary, Binary, Shift, Select, Extend, Compare, Opaque}
use Rattle.ir.specs.declared.entities.Block.{Block}
use Rattle.rows.specs.Rows.{Rows, value_at, names, is_alias, inst_at, no_inst, widths_of}
use Rattle.rows.specs.WellFormed.{Sound, value_fits, result_fits, results_fit}
use Rattle.plain.specs.Attached.{param_count}
use Rattle.ir.specs.Codes.{type_or}
use Rattle.ir.specs.Refusals.{first}
use Rattle.plain.specs.Feed.{checks, grown, result_rows, results_from, inst_row, types_known, args_of, first_type, constraints_in}
use Rattle.plain.proofs.Accepted as accepted
use Rattle.plain.proofs.Chains.{settled_more}
use Rattle.plain.proofs.Growth.{Grown, Keeps, keeps, values_fit, insts_fit, results_fit_lem, arg_widths_kept, all_live_kept}
use Rattle.calls.specs.Calls.{AppendBlockParam, AppendInst}
use Rattle.calls.specs.Calls.{InstCall}
use Rattle.rows.specs.declared.instruction.InstructionData.{InstructionData}
use Rattle.rows.specs.declared.value.ValueData.TheVariants.{Inst, Param, Deleted}

unfoldable pub param_grown : (p : Rows) (b : Block) (ty : ℕ) → Grown p (grown p (AppendBlockParam b ty))
param_grown p b ty =
    record {
      values = Param (type_or ty) (param_count p.values b.0) b ∷ [];
      insts = [];
      values_are = refl;
      insts_are = sym (append-nil p.insts);
      blocks = omega arith;
    }

unfoldable pub inst_grown : (p : Rows) (n : InstCall) → Grown p (grown p (AppendInst n))
inst_grown p n =
    record {
      values = result_rows n.types (length p.insts);
      insts = inst_row p n ∷ [];
      values_are = refl;
      insts_are = refl;
      blocks = omega arith;
    }

pub param_sound : (p : Rows) (b : Block) (ty : ℕ) → first (checks p 1024 (AppendBlockParam b ty)) ≡ None → Sound p
    → Sound (grown p (AppendBlockParam b ty))
unfolding param_grown
param_sound p b ty e s =
    let a = accepted.param_accepted p b ty e in
    let q : Rows = grown p (AppendBlockParam b ty) in
    let g : Grown p q = param_grown p b ty in (
      (simp length_push (omega (arith, a.room)), s.0.1, s.0.2),
      values_fit p q g s.1 s.2 (and_from _ _ (known_live ty a.known_type) (lt-ltb b.0 p.blocks a.in_block), tt),
      insts_fit p q g s.1 s.2 tt,
      results_fit_lem p q g s.1 s.2 s.3
          (λ i l. ap (λ row. results_fit q i row.results) (get_or_past p.insts i no_inst l)),
      settled_more p.values (Param (type_or ty) (param_count p.values b.0) b ∷ []) (refl, tt) s.4,
    )

-- two results are an Opaque instruction's, which takes any types
pair_fits : (s : OpcodeConstraints) (k : ℕ) → result_count_fits s (suc (suc k)) ≡ true → (w a b c : ℕ) (z : ℤ) → (widths_fit s w a b c && immediate_fits s w z) ≡ true
pair_fits Constant k e w a b c z = absurd (omega (arith, eqb-true (suc (suc k)) 1 e))
pair_fits Unary k e w a b c z = absurd (omega (arith, eqb-true (suc (suc k)) 1 e))
pair_fits Binary k e w a b c z = absurd (omega (arith, eqb-true (suc (suc k)) 1 e))
pair_fits Shift k e w a b c z = absurd (omega (arith, eqb-true (suc (suc k)) 1 e))
pair_fits Select k e w a b c z = absurd (omega (arith, eqb-true (suc (suc k)) 1 e))
pair_fits Extend k e w a b c z = absurd (omega (arith, eqb-true (suc (suc k)) 1 e))
pair_fits Compare k e w a b c z = absurd (omega (arith, eqb-true (suc (suc k)) 1 e))
pair_fits Opaque k e w a b c z = refl

module _ (q : Rows) (i : ℕ) (row : InstructionData) (here : i < length q.insts) (is : inst_at q i ≡ row) where
  row_fits : (ty num : ℕ) → is_some (type_at ty) ≡ true → result_fits q row (type_bits (type_or ty)) ≡ true → value_fits q (Inst (type_or ty) num (record { 0 = i })) ≡ true
  row_fits ty num k h =
      and_from _ _ (known_live ty k) (and_from _ _ (lt-ltb i (length q.insts) here) (ap (λ r. result_fits q r (type_bits (type_or ty))) is ∙ h))

  rows_fit : (types : List ℕ) → types_known types ≡ true
      → arg_count_fits (constraints_of row.opcode) (arg_count row.args) ≡ true
      → result_count_fits (constraints_of row.opcode) (length types) ≡ true
      → widths_fit (constraints_of row.opcode) (type_bits (first_type types)) (widths_of q row.args).0 (widths_of q row.args).1 (widths_of q row.args).2 ≡ true
      → immediate_fits (constraints_of row.opcode) (type_bits (first_type types)) row.imm ≡ true
      → All (λ r. value_fits q r ≡ true) (result_rows types i)
  rows_fit [] k a c w m = tt
  rows_fit (ty ∷ []) k a c w m = (row_fits ty 0 (and_parts _ _ k).0 (and_from _ _ a (and_from _ _ w m)), tt)
  rows_fit (ty ∷ uy ∷ more) k a c w m =
      let ks = and_parts _ _ k in
      let t = widths_of q row.args in (
        row_fits ty 0 ks.0 (and_from _ _ a (pair_fits _ (length more) c (type_bits (type_or ty)) t.0 t.1 t.2 row.imm)),
        (row_fits uy 1 (and_parts _ _ ks.1).0 (and_from _ _ a (pair_fits _ (length more) c (type_bits (type_or uy)) t.0 t.1 t.2 row.imm)), tt),
      )

length_rows : (types : List ℕ) (i : ℕ) → length types ≤ 2 → length (result_rows types i) ≡ length types
length_rows [] i h = refl
length_rows (a ∷ []) i h = refl
length_rows (a ∷ b ∷ []) i h = refl
length_rows (a ∷ b ∷ c ∷ more) i h = absurd (omega arith)

pub rows_end : (types : List ℕ) (i : ℕ) → All (λ row. is_alias row ≡ false) (result_rows types i)
rows_end [] i = tt
rows_end (a ∷ []) i = (refl, tt)
rows_end (a ∷ b ∷ more) i = (refl, (refl, tt))

-- the new instruction's results are the new rows
new_named : (p q : Rows) (types : List ℕ) (i : ℕ) → q.values ≡ p.values ++ result_rows types i
    → results_fit q i (results_from types (length p.values)) ≡ true
new_named p q [] i e = refl
new_named p q (a ∷ []) i e =
    let x : value_at q (length p.values) ≡ Inst (type_or a) 0 (record { 0 = i }) =
    ap (λ rows. get_or rows (length p.values) Deleted) e ∙ get_or_at p.values _ [] Deleted (length p.values) refl in
    ap (λ row. names row i 0) x ∙ and_from _ _ (eq-eqb i i refl) refl
new_named p q (a ∷ b ∷ more) i e =
    let x : value_at q (length p.values) ≡ Inst (type_or a) 0 (record { 0 = i }) =
    ap (λ rows. get_or rows (length p.values) Deleted) e ∙ get_or_at p.values _ _ Deleted (length p.values) refl in
    let y : value_at q (length p.values + 1) ≡ Inst (type_or b) 1 (record { 0 = i }) =
    ap (λ rows. get_or rows (length p.values + 1) Deleted) e ∙ get_or-append-add p.values (result_rows (a ∷ b ∷ more) i) 1 Deleted in
    and_from _ _ (ap (λ row. names row i 0) x ∙ and_from _ _ (eq-eqb i i refl) refl)
    (ap (λ row. names row i 1) y ∙ and_from _ _ (eq-eqb i i refl) refl)

new_results_fit : (p : Rows) (n : InstCall) (i : ℕ) → length p.insts ≤ i
    → results_fit (grown p (AppendInst n)) i (inst_at (grown p (AppendInst n)) i).results ≡ true
new_results_fit p n i h =
    let q : Rows = grown p (AppendInst n) in
    elim (cases_eq i (length p.insts)) [
      | inl e ↦
          subst (λ j. results_fit q j (inst_at q j).results ≡ true) (sym e)
          (ap (λ row. results_fit q (length p.insts) row.results) (get_or_push p.insts (inst_row p n) no_inst (length p.insts) refl)
          ∙ new_named p q n.types (length p.insts) refl)
      | inr ne ↦
          let l : length q.insts ≤ i = omega (arith, length_push p.insts (inst_row p n)) in
          ap (λ row. results_fit q i row.results) (get_or_past q.insts i no_inst l)
    ]

pub inst_sound : (p : Rows) (n : InstCall) → first (checks p 1024 (AppendInst n)) ≡ None → Sound p → Sound (grown p (AppendInst n))
unfolding inst_grown
inst_sound p n e s =
    let a = accepted.inst_accepted p n e in
    let q : Rows = grown p (AppendInst n) in
    let g : Grown p q = inst_grown p n in
    let k : Keeps p q = keeps p q g s.1 s.2 in
    let t : widths_of q (args_of n) ≡ widths_of p (args_of n) = arg_widths_kept p q k (args_of n) a.operands in
    let l : length q.insts ≡ length p.insts + 1 = length_push p.insts (inst_row p n) in
    let m : length q.values ≡ length p.values + length n.types =
    length-append p.values (result_rows n.types (length p.insts)) ∙ ap (λ x. length p.values + x) (length_rows n.types (length p.insts) a.few_results) in
    let w : widths_fit (constraints_in n) (type_bits (first_type n.types)) (widths_of q (args_of n)).0 (widths_of q (args_of n)).1 (widths_of q (args_of n)).2 ≡ true =
    ap (λ (x : ℕ × ℕ × ℕ). widths_fit (constraints_in n) (type_bits (first_type n.types)) x.0 x.1 x.2) t ∙ a.widths in (
      (omega (arith, m, a.value_room), omega (arith, l, a.inst_room), s.0.2),
      values_fit p q g s.1 s.2
          (rows_fit q (length p.insts) (inst_row p n) (omega (arith, l)) (get_or_push p.insts (inst_row p n) no_inst (length p.insts) refl)
          n.types a.types a.arg_count_lem a.result_count w a.imm),
      insts_fit p q g s.1 s.2 (all_live_kept p q k (args_of n) a.operands, tt),
      results_fit_lem p q g s.1 s.2 s.3 (λ i h. new_results_fit p n i h),
      settled_more p.values (result_rows n.types (length p.insts)) (rows_end n.types (length p.insts)) s.4,
    )
