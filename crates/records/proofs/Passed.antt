-- What each record says where nothing stands against the records. Assumes nothing.
use Rattle.std.proofs.Common.{◌≡◌, ℕ, ◌+◌, ◌<◌, ◌≤◌, Bool, true, List, map, length, get_or, Some, None, filter, sym, refl, ap, ◌∙◌, zero-add, arith}
use Rattle.std.specs.List.{range_with_len}
use Rattle.std.proofs.lemmas.Bool.{and_parts, eqb-true, ltb-true, false≢true}
use Rattle.std.proofs.lemmas.List.{get_or_past, length-map}
use Rattle.std.proofs.lemmas.List.Elements.{All-get_or, filter_passes}
use Rattle.std.proofs.lemmas.List.FromFn.{get_or-range_with_len, get_or-map-range_with_len}
use Rattle.ir.specs.Refusals.{first}
use Rattle.ir.specs.declared.constraints.OpcodeConstraints.TheVariants.{Opaque}
use Rattle.ir.specs.declared.refusal.Cause.TheVariants.{NotLive, Unknown, WrongCount, BrokenLayout}
use Rattle.records.specs.Faults.{args_live, asked_at, asked_by, codes_known, counts_fit, fault_by, inst_checks, inst_shape, is_instruction, names_live, number_fits, record_fault, records_refusal, type_known, value_at, value_checks, value_shape}
use Rattle.records.specs.Fields.{record_at, record_count, value_record, inst_record}
use Rattle.records.specs.Kinds.{kind_at, is_value, is_inst, is_value_at, is_inst_at, value_places, inst_places}
use Rattle.records.specs.Order.{ValuesFirst}
use Rattle.records.specs.declared.inst_record.InstRecord.{InstRecord}
use Rattle.records.specs.declared.record.Kind.{Kind}
use Rattle.records.specs.declared.record.Kind.TheVariants as kind
use Rattle.records.specs.declared.value_record.ValueRecord.{ValueRecord}
use Rattle.records.specs.declared.value_record.ValueRecord.TheVariants.{Deleted}
use Rattle.records.proofs.Order.{clean_at, clean_in_order, none_first}

-- ---- one record

-- a value's record that passes its checks
pub record PassedValue (bs : List ℕ) (k : ℕ) (v : ValueRecord) : Type 0 where
  pub shape : value_shape bs k v ≡ true
  pub known : type_known v ≡ true
  pub number : number_fits bs v ≡ true
  pub live : names_live bs v ≡ true

passed_value : (bs : List ℕ) (k : ℕ) (v : ValueRecord) → first (value_checks bs k v) ≡ None → PassedValue bs k v
passed_value bs k v e =
    let a = none_first (value_shape bs k v) BrokenLayout _ e in
    let b = none_first (type_known v) Unknown _ a.1 in
    let c = none_first (number_fits bs v) WrongCount _ b.1 in
    let d = none_first (names_live bs v) NotLive _ c.1 in
    record { shape = a.0; known = b.0; number = c.0; live = d.0 }

-- an instruction's record that passes its checks
pub record PassedInst (bs : List ℕ) (k : ℕ) (i : InstRecord) : Type 0 where
  pub shape : inst_shape bs k i ≡ true
  pub known : codes_known i ≡ true
  pub counts : counts_fit (asked_by i.opcode) i.arg_count i.result_count ≡ true
  pub live : args_live bs i ≡ true

passed_inst : (bs : List ℕ) (k : ℕ) (i : InstRecord) → first (inst_checks bs k i) ≡ None → PassedInst bs k i
passed_inst bs k i e =
    let a = none_first (inst_shape bs k i) BrokenLayout _ e in
    let b = none_first (codes_known i) Unknown _ a.1 in
    let c = none_first (counts_fit (asked_by i.opcode) i.arg_count i.result_count) WrongCount _ b.1 in
    let d = none_first (args_live bs i) NotLive _ c.1 in
    record { shape = a.0; known = b.0; counts = c.0; live = d.0 }

-- ---- each record in its place

is_value_kind : (t : Kind) → is_value t ≡ true → t ≡ kind.Value
is_value_kind kind.Value e = refl
is_value_kind kind.Inst e = absurd (false≢true e)
is_value_kind kind.Unknown e = absurd (false≢true e)

is_inst_kind : (t : Kind) → is_inst t ≡ true → t ≡ kind.Inst
is_inst_kind kind.Value e = absurd (false≢true e)
is_inst_kind kind.Inst e = refl
is_inst_kind kind.Unknown e = absurd (false≢true e)

-- what a filter keeps at a place passes its test
kept_passes : (p : ℕ → Bool) (xs : List ℕ) (k : ℕ) → k < length (filter p xs) → p (get_or (filter p xs) k 0) ≡ true
kept_passes p xs k l = All-get_or (λ x. p x ≡ true) (filter p xs) k 0 l (filter_passes p xs)

module _ (bs : List ℕ) (none : records_refusal bs ≡ None) where
  order : ValuesFirst bs
  order = clean_in_order bs none

  value_place : (v : ℕ) → v < length (value_places bs) → get_or (value_places bs) v 0 ≡ v
  value_place v l = ap (λ ks. get_or ks v 0) order.values ∙ get_or-range_with_len 0 (length (value_places bs)) v 0 l ∙ zero-add v

  inst_place : (i : ℕ) → i < length (inst_places bs) → get_or (inst_places bs) i 0 ≡ length (value_places bs) + i
  inst_place i l = ap (λ ks. get_or ks i 0) order.insts ∙ get_or-range_with_len (length (value_places bs)) (length (inst_places bs)) i 0 l

  value_kind : (v : ℕ) → v < length (value_places bs) → kind_at bs v ≡ kind.Value
  unfolding value_places
  value_kind v l =
      is_value_kind (kind_at bs v) (ap (is_value_at bs) (sym (value_place v l)) ∙ kept_passes (is_value_at bs) (range_with_len 0 (record_count bs)) v l)

  inst_kind : (i : ℕ) → i < length (inst_places bs) → kind_at bs (length (value_places bs) + i) ≡ kind.Inst
  unfolding inst_places
  inst_kind i l =
      is_inst_kind (kind_at bs (length (value_places bs) + i))
      (ap (is_inst_at bs) (sym (inst_place i l)) ∙ kept_passes (is_inst_at bs) (range_with_len 0 (record_count bs)) i l)

  pub value_passed : (v : ℕ) → v < length (value_places bs) → PassedValue bs v (value_record (record_at bs v))
  unfolding record_fault
  value_passed v l =
      passed_value bs v (value_record (record_at bs v))
      (ap (fault_by bs v) (sym (value_kind v l)) ∙ clean_at bs none v (omega (arith, order.all)))

  pub inst_passed : (i : ℕ) → i < length (inst_places bs)
      → PassedInst bs (length (value_places bs) + i) (inst_record (record_at bs (length (value_places bs) + i)))
  unfolding record_fault
  inst_passed i l =
      let k : ℕ = length (value_places bs) + i in
      passed_inst bs k (inst_record (record_at bs k))
      (ap (fault_by bs k) (sym (inst_kind i l)) ∙ clean_at bs none k (omega (arith, order.all)))

  -- ---- what one record says of another

  pub value_is : (v : ℕ) → v < length (value_places bs) → value_at bs v ≡ value_record (record_at bs v)
  value_is v l =
      ap (λ ks. get_or (map (λ k. value_record (record_at bs k)) ks) v (Deleted 0)) order.values
      ∙ get_or-map-range_with_len (λ k. value_record (record_at bs k)) 0 (length (value_places bs)) v v (Deleted 0) l (omega arith)

  pub value_past : (v : ℕ) → length (value_places bs) ≤ v → value_at bs v ≡ Deleted 0
  value_past v l =
      get_or_past (map (λ k. value_record (record_at bs k)) (value_places bs)) v (Deleted 0)
      (omega (arith, length-map (value_places bs) (λ k. value_record (record_at bs k))))

  pub asked_is : (i : ℕ) → i < length (inst_places bs)
      → asked_at bs i ≡ asked_by (inst_record (record_at bs (length (value_places bs) + i))).opcode
  asked_is i l =
      ap (λ ks. get_or (map (λ k. asked_by (inst_record (record_at bs k)).opcode) ks) i (Some Opaque)) order.insts
      ∙ get_or-map-range_with_len (λ k. asked_by (inst_record (record_at bs k)).opcode) (length (value_places bs)) (length (inst_places bs)) i
      (length (value_places bs) + i) (Some Opaque) l refl

  pub instruction_is : (i k : ℕ) → is_instruction bs i k ≡ true → (i < length (inst_places bs)) × (length (value_places bs) + i ≡ k)
  instruction_is i k h =
      let a = and_parts _ _ h in
      let l = ltb-true i (length (inst_places bs)) a.0 in
      (l, sym (inst_place i l) ∙ eqb-true (get_or (inst_places bs) i 0) k a.1)
