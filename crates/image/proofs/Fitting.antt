-- The rows of records that nothing stands against, tested one by one. Assumes nothing.
use Rattle.std.proofs.Common.{◌≡◌, ℕ, ◌+◌, ◌%◌, ◌<◌, ◌≤◌, Bool, true, cond, not, ◌&&◌, ◌||◌, ltb, eqb, List, map, length, get_or, Some, None, Option, unwrap_or, sym, refl, ap, ap₂, ◌∙◌, subst, inl, inr, arith}
use Rattle.std.specs.Option.{option_map}
use Rattle.std.proofs.lemmas.Bool.{and_from, and_parts, cases_lt, cond_both, cond-true, eq-eqb, eqb-false, eqb-true, false≢true, lt-ltb, ltb-true, or_cases}
use Rattle.ir.specs.Codes.{opcode_at, type_bits, type_or}
use Rattle.ir.specs.Constraints.{constraints_of, arg_count_fits, immediate_fits, widths_fit}
use Rattle.ir.specs.Entities.{arg_count}
use Rattle.ir.specs.declared.constraints.OpcodeConstraints.{OpcodeConstraints}
use Rattle.ir.specs.declared.constraints.OpcodeConstraints.TheVariants as kind
use Rattle.ir.specs.declared.instructions.Operands.{Operands}
use Rattle.ir.specs.declared.instructions.Operands.TheVariants.{Nullary, Unary, Binary, Ternary}
use Rattle.ir.specs.declared.opcodes.Opcode.{Opcode}
use Rattle.ir.specs.declared.opcodes.Opcode.TheVariants as op
use Rattle.ir.specs.declared.refusal.Cause.TheVariants.{Immediate, Widths}
use Rattle.ir.proofs.Faults.{none_stands}
use Rattle.ir.proofs.Limits.{few_args, known_live}
use Rattle.rows.specs.Rows.{Rows, value_at, inst_at, no_inst, width_at, width_in, widths_of, all_live, all_live_by, names}
use Rattle.rows.specs.WellFormed.{Few, ValuesFit, InstsFit, BlocksFit, ResultsFit, result_fits, results_fit, value_fits}
use Rattle.rows.specs.declared.instruction.InstructionData.{InstructionData}
use Rattle.rows.specs.declared.value.ValueData.{ValueData}
use Rattle.rows.specs.declared.value.ValueData.TheVariants as row
use Rattle.records.specs.Faults as faults
use Rattle.records.specs.Faults.{args_live, args_unused, asked_at, asked_by, behind_inst, codes_unused, counts_fit, counts_of, inst_shape, is_deleted, is_instruction, is_opaque, live_at, names_record, records_refusal, results_named, results_unused, type_known, value_fields_fit}
use Rattle.records.specs.Fields.{record_at, value_record, inst_record, zeros}
use Rattle.records.specs.Order.{ValuesFirst}
use Rattle.records.specs.RowsOf.{args_of, blocks_for, blocks_in, inst_row, inst_row_at, results_of, rows_from, rows_of, value_row, value_row_at}
use Rattle.records.specs.declared.check.Counts.{Counts}
use Rattle.records.specs.declared.inst_record.InstRecord.{InstRecord}
use Rattle.records.specs.declared.value_record.ValueRecord.{ValueRecord}
use Rattle.records.specs.declared.value_record.ValueRecord.TheVariants.{Inst, Param, Alias, Union, Deleted}
use Rattle.records.proofs.Order.{clean_in_order, none_first}
use Rattle.records.proofs.Passed as passed
use Rattle.records.proofs.Passed.{PassedInst, PassedValue, asked_is, inst_passed, instruction_is, value_is, value_passed}
use Rattle.image.specs.Held.{rows_in}
use Rattle.image.specs.Verdict.{result_fault, row_fault, row_fault_in, widths_refusal}
use Rattle.image.proofs.Held.{inst_in, inst_past, num_insts, num_values, value_in, value_past}
use Rattle.image.proofs.Naming.{blocks_are, most_has, most_within}

-- ---- types

record_live : (r : ValueRecord) → type_known r ≡ true → not (is_deleted r) ≡ true → ltb 0 (width_in (value_row r)) ≡ true
record_live (Inst t num inst) k d = known_live t k
record_live (Param t num block) k d = known_live t k
record_live (Alias t x o) k d = known_live t k
record_live (Union t x y) k d = known_live t k
record_live (Deleted x) k d = absurd (false≢true d)

-- ---- operands

-- what is asked of the numbers below a count, is so at one of them
within_count : (n k : ℕ) (b : Bool) → ltb n k || b ≡ true → k ≤ n → b ≡ true
within_count n k b h l = elim (or_cases (ltb n k) b h) [ inl e ↦ absurd (omega (arith, ltb-true n k e)) | inr e ↦ e ]

-- a fact of the operands that a count tells, by the count
args_by : (i : InstRecord) (P : Operands → Type 0) → (i.arg_count ≡ 0 → P Nullary)
    → (i.arg_count ≡ 1 → P (Unary (record { 0 = get_or i.args 0 0 })))
    → (i.arg_count ≡ 2 → P (Binary (record { 0 = get_or i.args 0 0 }) (record { 0 = get_or i.args 1 0 })))
    → (3 ≤ i.arg_count → P (Ternary (record { 0 = get_or i.args 0 0 }) (record { 0 = get_or i.args 1 0 }) (record { 0 = get_or i.args 2 0 })))
    → P (args_of i)
args_by i P none one two three =
    let n : ℕ = i.arg_count in
    cond_both (eqb n 0) _ _ P (λ e. none (eqb-true n 0 e))
    (λ a. cond_both (eqb n 1) _ _ P (λ e. one (eqb-true n 1 e))
    (λ b. cond_both (eqb n 2) _ _ P (λ e. two (eqb-true n 2 e))
    (λ c. three (omega (arith, eqb-false n 0 a, eqb-false n 1 b, eqb-false n 2 c)))))

args_alive : (bs : List ℕ) (t : ℕ → ℕ) → ((v : ℕ) → live_at bs v ≡ true → ltb 0 (t v) ≡ true) → (i : InstRecord) → args_live bs i ≡ true
    → all_live_by t (args_of i) ≡ true
args_alive bs t alive i h =
    let n : ℕ = i.arg_count in
    let a = and_parts _ _ h in
    let b = and_parts _ _ a.1 in
    let first = λ (l : 1 ≤ n). alive (get_or i.args 0 0) (within_count n 1 _ a.0 l) in
    let second = λ (l : 2 ≤ n). alive (get_or i.args 1 0) (within_count n 2 _ b.0 l) in
    let third = λ (l : 3 ≤ n). alive (get_or i.args 2 0) (within_count n 3 _ b.1 l) in
    args_by i (λ args. all_live_by t args ≡ true) (λ e. refl) (λ e. first (omega arith)) (λ e. and_from _ _ (first (omega arith)) (second (omega arith)))
    (λ l. and_from _ _ (first (omega arith)) (and_from _ _ (second (omega arith)) (third (omega arith))))

args_counted : (c : OpcodeConstraints) (i : InstRecord) → arg_count_fits c i.arg_count ≡ true → arg_count_fits c (arg_count (args_of i)) ≡ true
args_counted c i h =
    let few = few_args c i.arg_count h in
    let same : arg_count (args_of i) ≡ i.arg_count = args_by i (λ args. arg_count args ≡ i.arg_count) sym sym sym (λ l. omega arith) in
    ap (arg_count_fits c) same ∙ h

-- ---- opcodes

counts_args : (o : Option Opcode) (a r : ℕ) → counts_fit (option_map constraints_of o) a r ≡ true → arg_count_fits (constraints_of (unwrap_or o op.Opaque)) a ≡ true
counts_args None a r h = absurd (false≢true h)
counts_args (Some o) a r h = (and_parts _ _ h).0

opaque_kind : (c : OpcodeConstraints) → is_opaque (Some c) ≡ true → c ≡ kind.Opaque
opaque_kind kind.Constant h = absurd (false≢true h)
opaque_kind kind.Unary h = absurd (false≢true h)
opaque_kind kind.Binary h = absurd (false≢true h)
opaque_kind kind.Shift h = absurd (false≢true h)
opaque_kind kind.Select h = absurd (false≢true h)
opaque_kind kind.Extend h = absurd (false≢true h)
opaque_kind kind.Compare h = absurd (false≢true h)
opaque_kind kind.Opaque h = refl

asked_opaque : (o : Option Opcode) → is_opaque (option_map constraints_of o) ≡ true → constraints_of (unwrap_or o op.Opaque) ≡ kind.Opaque
asked_opaque None h = absurd (false≢true h)
asked_opaque (Some o) h = opaque_kind (constraints_of o) h

-- ---- results

-- a record that names another, and a place among its results, stands for a row that names that instruction and place
named_row : (bs : List ℕ) (k place i : ℕ) (r : ValueRecord) → place < 2 → ((j : ℕ) → is_instruction bs j k ≡ true → j ≡ i)
    → names_record bs k place r ≡ true → names (value_row r) i place ≡ true
named_row bs k place i (Inst t num inst) l one h =
    let a = and_parts _ _ h in
    let same : num ≡ place = eqb-true num place a.0 in
    and_from _ _ (eq-eqb inst i (one inst a.1)) (eq-eqb (num % 65536) place (omega (arith, same)))
named_row bs k place i (Param t num block) l one h = absurd (false≢true h)
named_row bs k place i (Alias t x o) l one h = absurd (false≢true h)
named_row bs k place i (Union t x y) l one h = absurd (false≢true h)
named_row bs k place i (Deleted x) l one h = absurd (false≢true h)

-- ---- rows that nothing stands against, by their widths

abbrev fits_widths : Rows → ℕ → ℕ → Bool
fits_widths p i w = widths_fit (constraints_of (inst_at p i).opcode) w (widths_of p (inst_at p i).args).0 (widths_of p (inst_at p i).args).1 (widths_of p (inst_at p i).args).2

-- a result of the width w goes with instruction i
abbrev WidthsGo : Rows → ℕ → ℕ → Type 0
WidthsGo p i w = (fits_widths p i w ≡ true) × (immediate_fits (constraints_of (inst_at p i).opcode) w (inst_at p i).imm ≡ true)

widths_passed : (p : Rows) (i w : ℕ) → result_fault p i w ≡ None → WidthsGo p i w
widths_passed p i w e =
    let a = none_first (fits_widths p i w) Widths _ e in
    (a.0, (none_first (immediate_fits (constraints_of (inst_at p i).opcode) w (inst_at p i).imm) Immediate _ a.1).0)

-- nothing stands against a row that fits
pub fits_clean : (p : Rows) (r : ValueData) → value_fits p r ≡ true → row_fault_in p r ≡ None
fits_clean p (row.Inst t num inst) h =
    let a = and_parts (ltb 0 (type_bits t)) _ h in
    let b = and_parts (ltb inst.0 (length p.insts)) _ a.1 in
    let c = and_parts (arg_count_fits (constraints_of (inst_at p inst.0).opcode) (arg_count (inst_at p inst.0).args)) _ b.1 in
    let d = and_parts _ _ c.1 in
    let imm : Bool = immediate_fits (constraints_of (inst_at p inst.0).opcode) (type_bits t) (inst_at p inst.0).imm in
    cond_both (eqb num 0) (result_fault p inst.0 (type_bits t)) None (λ o. o ≡ None)
    (λ e. ap (λ x. cond (not x) (Some Widths) (cond (not imm) (Some Immediate) None)) d.0 ∙ ap (λ x. cond (not x) (Some Immediate) None) d.1) (λ e. refl)
fits_clean p (row.Param t num block) h = refl
fits_clean p (row.Alias t o) h = ap (λ x. cond (not x) (Some Widths) None) (and_parts _ _ h).1
fits_clean p (row.Union t x y) h = refl
fits_clean p row.Deleted h = refl

-- ---- the rows of records that nothing stands against

module _ (bs : List ℕ) (none : records_refusal bs ≡ None) where
  abbrev n : Counts
  n = counts_of bs

  abbrev p : Rows
  p = rows_in bs n

  order : ValuesFirst bs
  order = clean_in_order bs none

  -- value records come first
  pub rows_are : rows_of bs ≡ rows_in bs (counts_of bs)
  unfolding rows_of rows_in
  rows_are = ap₂ (λ vs is. rows_from (map (value_row_at bs) vs) (map (inst_row_at bs) is)) order.values order.insts

  row_live : (v : ℕ) → live_at bs v ≡ true → ltb 0 (width_at p v) ≡ true
  row_live v h =
      elim (cases_lt v n.values) [
        | inl l ↦
            ap (λ r. ltb 0 (width_in r)) (value_in bs n v l)
            ∙ record_live (value_record (record_at bs v)) (value_passed bs none v l).known (ap (λ r. not (is_deleted r)) (sym (value_is bs none v l)) ∙ h)
        | inr l ↦ absurd (false≢true (sym (ap (λ r. not (is_deleted r)) (passed.value_past bs none v l)) ∙ h))
      ]

  pub insts_fit : InstsFit p
  insts_fit i =
      elim (cases_lt i n.insts) [
        | inl l ↦
            ap (λ (r : InstructionData). all_live p r.args) (inst_in bs n i l)
            ∙ args_alive bs (width_at p) row_live (inst_record (record_at bs (n.values + i))) (inst_passed bs none i l).live
        | inr l ↦ ap (λ (r : InstructionData). all_live p r.args) (inst_past bs n i l)
      ]

  -- ---- results

  result_named : (i place v : ℕ) → place < 2 → names_record bs (n.values + i) place (faults.value_at bs v) ≡ true → names (value_at p v) i place ≡ true
  result_named i place v small h =
      elim (cases_lt v n.values) [
        | inl l ↦
            ap (λ r. names r i place) (value_in bs n v l)
            ∙ named_row bs (n.values + i) place i (value_record (record_at bs v)) small (λ j g. omega (arith, (instruction_is bs none j (n.values + i) g).1))
            (ap (names_record bs (n.values + i) place) (sym (value_is bs none v l)) ∙ h)
        | inr l ↦ absurd (false≢true (sym (ap (names_record bs (n.values + i) place) (passed.value_past bs none v l)) ∙ h))
      ]

  results_in : (i : ℕ) (r : InstRecord) → results_named bs (n.values + i) r ≡ true → results_fit p i (results_of r) ≡ true
  results_in i r h =
      let c : ℕ = r.result_count in
      let a = and_parts _ _ h in
      let first = λ (l : c ≡ 0 → ⊥). result_named i 0 (get_or r.results 0 0) (omega arith)
      (elim (or_cases (eqb c 0) _ a.0) [ inl e ↦ absurd (l (eqb-true c 0 e)) | inr e ↦ e ]) in
      cond_both (eqb c 0) _ _ (λ s. results_fit p i s ≡ true) (λ e. refl)
      (λ some. cond_both (eqb c 1) _ _ (λ s. results_fit p i s ≡ true) (λ e. first (eqb-false c 0 some))
      (λ more. and_from _ _ (first (eqb-false c 0 some))
      (result_named i 1 (get_or r.results 1 0) (omega arith) (within_count c 2 _ a.1 (omega (arith, eqb-false c 0 some, eqb-false c 1 more))))))

  shape_parts : (k : ℕ) (r : InstRecord) → inst_shape bs k r ≡ true → (ltb r.block 64 ≡ true) × (results_named bs k r ≡ true)
  shape_parts k r h =
      let a = and_parts (zeros (record_at bs k) 5 8) _ h in
      let b = and_parts (codes_unused r) _ a.1 in
      let c = and_parts (args_unused r) _ b.1 in
      let d = and_parts (results_unused r) _ c.1 in
      and_parts _ _ d.1

  pub results_fit_lem : ResultsFit p
  results_fit_lem i =
      elim (cases_lt i n.insts) [
        | inl l ↦
            ap (λ (r : InstructionData). results_fit p i r.results) (inst_in bs n i l)
            ∙ results_in i (inst_record (record_at bs (n.values + i)))
            (shape_parts (n.values + i) (inst_record (record_at bs (n.values + i))) (inst_passed bs none i l).shape).1
        | inr l ↦ ap (λ (r : InstructionData). results_fit p i r.results) (inst_past bs n i l)
      ]

  -- ---- blocks

  value_block : (v : ℕ) → v < n.values → blocks_in (value_at p v) ≤ p.blocks
  value_block v l = omega (arith, blocks_are bs n, most_has blocks_in p.values v row.Deleted (omega (arith, num_values bs n)))

  inst_block : (i : ℕ) → i < length p.insts → blocks_for (inst_at p i) ≤ p.blocks
  inst_block i l = omega (arith, blocks_are bs n, most_has blocks_for p.insts i no_inst l)

  pub blocks_fit : BlocksFit p
  blocks_fit i l = lt-ltb (inst_at p i).block.0 p.blocks (inst_block i l)

  few_blocks_in : (r : ValueRecord) → value_fields_fit r ≡ true → blocks_in (value_row r) ≤ 64
  few_blocks_in (Inst t num inst) h = omega arith
  few_blocks_in (Param t num block) h = ltb-true block 64 h
  few_blocks_in (Alias t x o) h = omega arith
  few_blocks_in (Union t x y) h = omega arith
  few_blocks_in (Deleted x) h = omega arith

  few_by_value : (v : ℕ) → v < length p.values → blocks_in (value_at p v) ≤ 64
  few_by_value v h =
      let l : v < n.values = omega (arith, num_values bs n) in
      let a = and_parts (not (behind_inst bs v)) _ (value_passed bs none v l).shape in
      let b = and_parts (zeros (record_at bs v) 1 4) _ a.1 in
      let c = and_parts (zeros (record_at bs v) 14 40) _ b.1 in
      subst (λ r. blocks_in r ≤ 64) (sym (value_in bs n v l)) (few_blocks_in (value_record (record_at bs v)) c.1)

  few_by_inst : (i : ℕ) → i < length p.insts → blocks_for (inst_at p i) ≤ 64
  few_by_inst i h =
      let l : i < n.insts = omega (arith, num_insts bs n) in
      let r : InstRecord = inst_record (record_at bs (n.values + i)) in
      subst (λ r. blocks_for r ≤ 64) (sym (inst_in bs n i l))
      (ltb-true r.block 64 (shape_parts (n.values + i) r (inst_passed bs none i l).shape).0)

  pub few : Few p
  few =
      let blocks : p.blocks ≤ 64 =
      omega (arith, blocks_are bs n, most_within blocks_in p.values 64 row.Deleted few_by_value, most_within blocks_for p.insts 64 no_inst few_by_inst) in
      (omega (arith, num_values bs n, order.few_values), omega (arith, num_insts bs n, order.few_insts), blocks)

  -- ---- values

  opaque_result : (i w : ℕ) → constraints_of (inst_at p i).opcode ≡ kind.Opaque → WidthsGo p i w
  opaque_result i w e = (
    ap (λ c. widths_fit c w (widths_of p (inst_at p i).args).0 (widths_of p (inst_at p i).args).1 (widths_of p (inst_at p i).args).2) e,
    ap (λ c. immediate_fits c w (inst_at p i).imm) e,
  )

  result_in : (inst w num : ℕ) → inst < n.insts → eqb num 0 || (eqb num 1 && is_opaque (asked_at bs inst)) ≡ true
      → cond (eqb (num % 65536) 0) (result_fault p inst w) None ≡ None → result_fits p (inst_at p inst) w ≡ true
  result_in inst w num l h e =
      let r : InstRecord = inst_record (record_at bs (n.values + inst)) in
      let counts : arg_count_fits (constraints_of (inst_at p inst).opcode) (arg_count (inst_at p inst).args) ≡ true =
      ap (λ (i : InstructionData). arg_count_fits (constraints_of i.opcode) (arg_count i.args)) (inst_in bs n inst l)
      ∙ args_counted (constraints_of (inst_row r).opcode) r (counts_args (opcode_at r.opcode) r.arg_count r.result_count (inst_passed bs none inst l).counts) in
      let fit : WidthsGo p inst w =
      elim (or_cases (eqb num 0) _ h) [
        | inl z ↦ widths_passed p inst w (sym (cond-true (eqb (num % 65536) 0) _ _ (eq-eqb (num % 65536) 0 (omega (arith, eqb-true num 0 z)))) ∙ e)
        | inr o ↦
            opaque_result inst w
            (ap (λ (i : InstructionData). constraints_of i.opcode) (inst_in bs n inst l)
            ∙ asked_opaque (opcode_at r.opcode) (ap is_opaque (sym (asked_is bs none inst l)) ∙ (and_parts _ _ o).1))
      ] in
      and_from _ _ counts (and_from _ _ fit.0 fit.1)

  row_fits : (v : ℕ) (r : ValueRecord) → PassedValue bs v r → row_fault_in p (value_row r) ≡ None → blocks_in (value_row r) ≤ p.blocks → value_fits p (value_row r) ≡ true
  row_fits v (Inst t num inst) h e b =
      let l = ltb-true inst n.insts h.live in
      and_from _ _ (known_live t h.known)
      (and_from _ _ (lt-ltb inst (length p.insts) (omega (arith, num_insts bs n))) (result_in inst (type_bits (type_or t)) num l h.number e))
  row_fits v (Param t num block) h e b = and_from _ _ (known_live t h.known) (lt-ltb block p.blocks b)
  row_fits v (Alias t x o) h e b =
      and_from _ _ (known_live t h.known) (none_first (eqb (width_at p o) (type_bits (type_or t))) Widths None e).0
  row_fits v (Union t x y) h e b = known_live t h.known
  row_fits v (Deleted x) h e b = refl

  pub values_fit : widths_refusal p ≡ None → ValuesFit p
  unfolding widths_refusal row_fault
  values_fit clean v =
      elim (cases_lt v n.values) [
        | inl l ↦
            let at = value_in bs n v l in
            ap (value_fits p) at
            ∙ row_fits v (value_record (record_at bs v)) (value_passed bs none v l)
            (ap (row_fault_in p) (sym at) ∙ none_stands (row_fault p) (length p.values) 0 clean v (omega arith) (omega (arith, num_values bs n)))
            (subst (λ r. blocks_in r ≤ p.blocks) at (value_block v l))
        | inr l ↦ ap (value_fits p) (value_past bs n v l)
      ]
