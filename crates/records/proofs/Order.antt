-- Records that nothing stands against are in order. Assumes nothing.
use Rattle.std.proofs.Common.{◌≡◌, ℕ, zero, suc, ◌+◌, ◌-◌, ◌<◌, ◌≤◌, Bool, true, false, cond, not, leb, ◌||◌, ◌⊎◌, List, [], ◌∷◌, ◌++◌, length, get_or, Some, None, filter, Option, sym, refl, ap, ◌∙◌, inl, inr, add-one, arith}
use Rattle.std.specs.List.{range_with_len}
use Rattle.std.proofs.lemmas.List.FromFn.{length-range_with_len}
use Rattle.std.proofs.lemmas.Bool.{and_parts, cases_Bool, false≢true, leb-true, ltb-false, not-true}
use Rattle.ir.specs.declared.refusal.Cause.{Cause}
use Rattle.ir.proofs.Faults.{none_stands}
use Rattle.records.specs.Faults.{behind_inst, fault_by, is_whole, record_fault, records_refusal, value_shape}
use Rattle.records.specs.Fields.{record_at, record_count, value_record}
use Rattle.records.specs.Kinds.{kind_at, is_value, is_inst, is_value_at, is_inst_at, value_places, inst_places}
use Rattle.records.specs.Order.{CleanInOrder}
use Rattle.records.specs.declared.record.Kind.{Kind}
use Rattle.records.specs.declared.record.Kind.TheVariants.{Value, Inst, Unknown}
use Rattle.records.proofs.Clean.{clean_kind, not_whole, whole}
use Rattle.records.proofs.Indexing.{counting_split, kept_more, kept_split, with_noted}

-- ---- numbers that are kept by one of two tests, by the second behind all of the first

-- the first c of m numbers are kept by p, the others by q
record Cut (p q : ℕ → Bool) (m : ℕ) : Type 0 where
  at : ℕ
  within : at ≤ m
  front : filter p (range_with_len 0 m) ≡ range_with_len 0 at
  back : filter q (range_with_len 0 m) ≡ range_with_len at (m - at)

one_more : (a n : ℕ) → range_with_len a n ++ (a + n) ∷ [] ≡ range_with_len a (n + 1)
one_more a n = sym (counting_split a n 1)

module _ (p q : ℕ → Bool) (n : ℕ) (either : (k : ℕ) → k < n → p k ≡ not (q k))
    (first : (k : ℕ) → k < n → p k ≡ true → k ≤ get_or (filter q (range_with_len 0 n)) 0 k) where
  -- a number that p keeps comes before all that q keeps
  before : (m : ℕ) → m < n → p m ≡ true → (c : Cut p q m) → c.at ≡ m
  before m l is c = go (m - c.at) refl
    where
      go : (j : ℕ) → m - c.at ≡ j → c.at ≡ m
      go zero e = omega (arith, c.within)
      go (suc j) e =
          let rest : m + (n - m) ≡ n = omega arith in
          let all : filter q (range_with_len 0 n) ≡ range_with_len c.at (suc j) ++ filter q (range_with_len m (n - m)) =
          ap (λ k. filter q (range_with_len 0 k)) (sym rest) ∙ kept_split q m (n - m) ∙ ap (λ l. l ++ filter q (range_with_len m (n - m))) (c.back ∙ ap (range_with_len c.at) e) in
          absurd (omega (arith, first m l is, ap (λ l. get_or l 0 m) all))

  cut : (m : ℕ) → m ≤ n → Cut p q m
  cut zero l = record { at = 0; within = omega arith; front = refl; back = refl }
  cut (suc m) l = grown (cut m (omega arith)) (cases_Bool (q m))
    where
      grown : Cut p q m → (q m ≡ true) ⊎ (q m ≡ false) → Cut p q (suc m)
      grown c (inl h) = record {
        at = c.at;
        within = omega (arith, c.within);
        front =
            ap (λ k. filter p (range_with_len 0 k)) (sym (add-one m)) ∙ kept_more p m ∙ ap (λ b. with_noted b m (filter p (range_with_len 0 m))) (either m (omega arith) ∙ ap not h)
            ∙ c.front;
        back =
            let place : c.at + (m - c.at) ≡ m = omega (arith, c.within) in
            let long : m - c.at + 1 ≡ suc m - c.at = omega (arith, c.within) in
            ap (λ k. filter q (range_with_len 0 k)) (sym (add-one m)) ∙ kept_more q m ∙ ap (λ b. with_noted b m (filter q (range_with_len 0 m))) h
            ∙ ap (λ l. l ++ m ∷ []) c.back ∙ ap (λ k. range_with_len c.at (m - c.at) ++ k ∷ []) (sym place) ∙ one_more c.at (m - c.at) ∙ ap (range_with_len c.at) long;
      }
      grown c (inr h) =
          let is : p m ≡ true = either m (omega arith) ∙ ap not h in
          let here : c.at ≡ m = before m (omega arith) is c in
          record {
            at = suc m;
            within = omega arith;
            front =
                ap (λ k. filter p (range_with_len 0 k)) (sym (add-one m)) ∙ kept_more p m ∙ ap (λ b. with_noted b m (filter p (range_with_len 0 m))) is
                ∙ ap (λ l. l ++ m ∷ []) (c.front ∙ ap (range_with_len 0) here) ∙ ap (λ k. range_with_len 0 m ++ k ∷ []) (omega arith) ∙ one_more 0 m ∙ ap (range_with_len 0) (add-one m);
            back =
                let none : m - c.at ≡ 0 = omega (arith, here) in
                let still : suc m - suc m ≡ 0 = omega arith in
                ap (λ k. filter q (range_with_len 0 k)) (sym (add-one m)) ∙ kept_more q m ∙ ap (λ b. with_noted b m (filter q (range_with_len 0 m))) h
                ∙ c.back ∙ ap (range_with_len c.at) none ∙ sym (ap (range_with_len (suc m)) still);
          }

-- ---- records

kinds_exclude : (t : Kind) → is_value t || is_inst t ≡ true → is_value t ≡ not (is_inst t)
kinds_exclude Value h = refl
kinds_exclude Inst h = refl
kinds_exclude Unknown h = absurd (false≢true h)

-- where none of a list of checks stands, the first does not, and none of the others
pub none_first : (b : Bool) (why : Cause) (rest : Option Cause) → cond (not b) (Some why) rest ≡ None → (b ≡ true) × (rest ≡ None)
none_first true why rest e = (refl, e)
none_first false why rest e = cc

-- a value record that nothing stands against is behind no instruction
value_first : (bs : List ℕ) (k : ℕ) (t : Kind) → fault_by bs k t ≡ None → is_value t ≡ true → behind_inst bs k ≡ false
value_first bs k Value e is =
    not-true (behind_inst bs k) (and_parts _ _ (none_first (value_shape bs k (value_record (record_at bs k))) _ _ e).0).0
value_first bs k Inst e is = absurd (false≢true is)
value_first bs k Unknown e is = absurd (false≢true is)

module _ (bs : List ℕ) (none : records_refusal bs ≡ None) where
  pub clean_whole : is_whole bs ≡ true
  clean_whole = at (is_whole bs) refl
    where
      at : (b : Bool) → is_whole bs ≡ b → is_whole bs ≡ true
      at true e = e
      at false e = let f = not_whole bs e in cc

  pub clean_at : (k : ℕ) → k < record_count bs → record_fault bs k ≡ None
  clean_at k l = none_stands (record_fault bs) (record_count bs) 0 (sym (whole bs clean_whole) ∙ none) k (omega arith) (omega arith)

  cut_records : Cut (is_value_at bs) (is_inst_at bs) (record_count bs)
  unfolding record_fault inst_places
  cut_records =
      cut (is_value_at bs) (is_inst_at bs) (record_count bs) (λ k l. kinds_exclude (kind_at bs k) (clean_kind bs k (clean_at k l)))
      (λ k l is. ltb-false _ k (value_first bs k (kind_at bs k) (clean_at k l) is)) (record_count bs) (omega arith)

pub clean_in_order : CleanInOrder
unfolding value_places inst_places
clean_in_order bs none =
    let c = cut_records bs none in
    let v : length (value_places bs) ≡ c.at = ap length c.front ∙ length-range_with_len 0 c.at in
    let i : length (inst_places bs) ≡ record_count bs - c.at = ap length c.back ∙ length-range_with_len c.at (record_count bs - c.at) in
    let few : (leb (length (value_places bs)) 1024 ≡ true) × (leb (length (inst_places bs)) 1024 ≡ true) =
    and_parts _ _ (and_parts _ _ (clean_whole bs none)).1 in
    record {
      values = c.front ∙ ap (range_with_len 0) (sym v);
      insts = c.back ∙ ap (λ n. range_with_len n (record_count bs - c.at)) (sym v) ∙ ap (range_with_len (length (value_places bs))) (sym i);
      all = omega (arith, c.within);
      few_values = leb-true _ 1024 few.0;
      few_insts = leb-true _ 1024 few.1;
    }
