-- Records that nothing stands against. Assumes nothing.
use Rattle.std.proofs.Common.{◌≡◌, ℕ, zero, suc, ◌+◌, ◌%◌, ◌<◌, ◌≤◌, Bool, true, false, cond, ◌&&◌, ◌||◌, eqb, leb, ◌⊎◌, List, [], ◌∷◌, length, Some, None, filter, sym, refl, ap, ◌∙◌, inl, inr, add-one, arith}
use Rattle.std.specs.List.{range_with_len}
use Rattle.std.proofs.lemmas.List.{length-append}
use Rattle.std.proofs.lemmas.Bool.{cond-true, cond-false, lt-leb, and_right}
use Rattle.ir.specs.Refusals.{because, first_fault}
use Rattle.ir.specs.declared.refusal.Cause.TheVariants.{NotRecords}
use Rattle.records.specs.Faults.{fault_by, record_fault, is_whole, records_refusal}
use Rattle.records.specs.Fields.{record_count}
use Rattle.records.specs.Kinds.{kind_at, is_value, is_inst, is_value_at, is_inst_at, value_places, inst_places}
use Rattle.records.specs.declared.record.Kind.{Kind}
use Rattle.records.specs.declared.record.Kind.TheVariants.{Value, Inst, Unknown}
use Rattle.records.proofs.Indexing.{kept_more, kept_length, with_noted}

-- a record that nothing stands against is of a value or of an instruction
known_kind : (bs : List ℕ) (k : ℕ) (t : Kind) → fault_by bs k t ≡ None → is_value t || is_inst t ≡ true
known_kind bs k Value e = refl
known_kind bs k Inst e = refl
known_kind bs k Unknown e = cc

pub clean_kind : (bs : List ℕ) (k : ℕ) → record_fault bs k ≡ None → is_value_at bs k || is_inst_at bs k ≡ true
unfolding record_fault
clean_kind bs k e = known_kind bs k (kind_at bs k) e

one_more : (x y : Bool) (k : ℕ) (xs ys : List ℕ) → x || y ≡ true → suc (length xs + length ys) ≤ length (with_noted x k xs) + length (with_noted y k ys)
one_more true true k xs ys h = omega (arith, length-append xs (k ∷ []), length-append ys (k ∷ []))
one_more true false k xs ys h = omega (arith, length-append xs (k ∷ []))
one_more false true k xs ys h = omega (arith, length-append ys (k ∷ []))
one_more false false k xs ys h = let z : ◌≡◌ {A = ℕ} 0 1 = ap (λ b. cond b 1 0) h in absurd (omega arith)

-- as many records as there are of both kinds, if each is of one
counted : (bs : List ℕ) (k : ℕ) → ((j : ℕ) → j < k → is_value_at bs j || is_inst_at bs j ≡ true) → k ≤ length (filter (is_value_at bs) (range_with_len 0 k)) + length (filter (is_inst_at bs) (range_with_len 0 k))
counted bs zero all = omega arith
counted bs (suc k) all =
    let v = ap length (ap (λ n. filter (is_value_at bs) (range_with_len 0 n)) (sym (add-one k)) ∙ kept_more (is_value_at bs) k) in
    let i = ap length (ap (λ n. filter (is_inst_at bs) (range_with_len 0 n)) (sym (add-one k)) ∙ kept_more (is_inst_at bs) k) in
    omega (arith, counted bs k (λ j l. all j (omega arith)), v, i, one_more (is_value_at bs k) (is_inst_at bs k) k (filter (is_value_at bs) (range_with_len 0 k)) (filter (is_inst_at bs) (range_with_len 0 k)) (all k (omega arith)))

pub few_clean : (bs : List ℕ) (k : ℕ) → k ≤ record_count bs → ((j : ℕ) → j < k → record_fault bs j ≡ None) → k ≤ length (value_places bs) + length (inst_places bs)
unfolding value_places inst_places
few_clean bs k l clean =
    omega (arith, counted bs k (λ j m. clean_kind bs j (clean j m)), kept_length (is_value_at bs) k (record_count bs) l, kept_length (is_inst_at bs) k (record_count bs) l)

-- ---- bytes that are whole records, not too many

module _ (bs : List ℕ) where
  pub not_whole : is_whole bs ≡ false → records_refusal bs ≡ Some (because NotRecords)
  unfolding records_refusal
  not_whole e = cond-false (is_whole bs) _ _ e

  pub whole : is_whole bs ≡ true → records_refusal bs ≡ first_fault (record_fault bs) 0 (record_count bs)
  unfolding records_refusal
  whole e = cond-true (is_whole bs) _ _ e

  pub too_many : (1024 < length (value_places bs)) ⊎ (1024 < length (inst_places bs)) → is_whole bs ≡ false
  too_many (inl l) = and_right (eqb (length bs % 40) 0) _ (ap (λ b. b && leb (length (inst_places bs)) 1024) (lt-leb (length (value_places bs)) 1024 l))
  too_many (inr l) = and_right (eqb (length bs % 40) 0) _ (and_right (leb (length (value_places bs)) 1024) _ (lt-leb (length (inst_places bs)) 1024 l))
