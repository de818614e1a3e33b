-- The first fault is the one that is named. Assumes nothing.
use Rattle.std.proofs.Common.{◌≡◌, ℕ, zero, suc, ◌+◌, ◌<◌, ◌≤◌, Bool, true, false, List, length, Some, None, Option, MatchOption, sym, refl, ap, ◌∙◌, subst, inl, inr, arith}
use Rattle.std.proofs.lemmas.Bool.{cases_lt}
use Rattle.std.specs.Option.{option_map}
use Rattle.ir.specs.Options.{or_else}
use Rattle.ir.specs.Refusals.{because, first_fault}
use Rattle.ir.specs.declared.refusal.Cause.{Cause}
use Rattle.ir.specs.declared.refusal.Cause.TheVariants.{NotRecords}
use Rattle.ir.specs.declared.refusal.Refusal.{Refusal}
use Rattle.ir.proofs.Faults.{none_stands}
use Rattle.ir.proofs.Options.{none_is_no_some, some_injective}
use Rattle.records.specs.Faults.{is_whole, record_fault, records_refusal}
use Rattle.records.specs.Fields.{record_count}
use Rattle.records.specs.RowsOf.{rows_of}
use Rattle.records.proofs.Clean.{not_whole as refused_whole, whole as judged_whole}
use Rattle.image.specs.Theorems.{FirstFault, FirstIsNamed, NoFault, PassedEarly, RefusedEarly, not_whole, at_record, at_row}
use Rattle.image.specs.Verdict.{early_refusal, row_fault, widths_refusal}

module _ (fault : ℕ → Option Cause) where
  -- what is found from k on, among n places
  Found : ℕ → ℕ → Refusal → Type 0
  Found k n why = (k ≤ why.place) × (why.place < k + n) × (fault why.place ≡ Some why.cause) × ((j : ℕ) → k ≤ j → j < why.place → fault j ≡ None)

  found : (n k : ℕ) (why : Refusal) → first_fault fault k n ≡ Some why → Found k n why
  unfolding first_fault Found
  found zero k why e = absurd (none_is_no_some why e)
  found (suc n) k why e = at (fault k) refl e (found n (suc k) why)
    where
      at : (o : Option Cause) → fault k ≡ o → or_else (option_map (λ (w : Cause). record { cause = w; place = k }) o) (first_fault fault (suc k) n) ≡ Some why
          → (first_fault fault (suc k) n ≡ Some why → Found (suc k) n why) → Found k (suc n) why
      at (Some c) is q rest =
          subst (Found k (suc n)) (some_injective (record { cause = c; place = k }) why q) (omega arith, omega arith, is, λ j l m. absurd (omega arith))
      at None is q rest =
          let r = rest q in (
            omega (arith, r.0),
            omega (arith, r.1),
            r.2,
            λ j l m.
                elim (cases_lt k j) [
                  | inl lt ↦ r.3 j lt m
                  | inr ge ↦ let same : j ≡ k = omega arith in ap fault same ∙ is
                ],
          )

  pub first_named : (n : ℕ) (why : Refusal) → first_fault fault 0 n ≡ Some why → FirstFault fault n why
  unfolding Found
  first_named n why e =
      let r = found n 0 why e in
      record { within = omega (arith, r.1); stands = r.2; none_before = λ k m. r.3 k (omega arith) m }

  pub none_named : (n : ℕ) → first_fault fault 0 n ≡ None → NoFault fault n
  none_named n e k m = none_stands fault n 0 e k (omega arith) (omega arith)

module _ (bs : List ℕ) where
  -- bytes whose records are not refused are whole
  passed_whole : records_refusal bs ≡ None → is_whole bs ≡ true
  passed_whole e = at (is_whole bs) refl
    where
      at : (b : Bool) → is_whole bs ≡ b → is_whole bs ≡ true
      at true w = w
      at false w = absurd (none_is_no_some (because NotRecords) (sym e ∙ refused_whole bs w))

  records_passed : records_refusal bs ≡ None → NoFault (record_fault bs) (record_count bs)
  records_passed e = none_named (record_fault bs) (record_count bs) (sym (judged_whole bs (passed_whole e)) ∙ e)

  record_named : (why : Refusal) → records_refusal bs ≡ Some why → RefusedEarly bs why
  record_named why e = at (is_whole bs) refl
    where
      at : (b : Bool) → is_whole bs ≡ b → RefusedEarly bs why
      at true w = at_record w (first_named (record_fault bs) (record_count bs) why (sym (judged_whole bs w) ∙ e))
      at false w = not_whole w (some_injective why (because NotRecords) (sym e ∙ refused_whole bs w))

  stages : (a b : Option Refusal) → records_refusal bs ≡ a → widths_refusal (rows_of bs) ≡ b → MatchOption (or_else a b) (PassedEarly bs) (RefusedEarly bs)
  unfolding widths_refusal
  stages (Some why) b e f = record_named why e
  stages None (Some why) e f = at_row (passed_whole e) (records_passed e) (first_named (row_fault (rows_of bs)) (length (rows_of bs).values) why f)
  stages None None e f =
      record { whole = passed_whole e; records = records_passed e; rows = none_named (row_fault (rows_of bs)) (length (rows_of bs).values) f }

pub first_is_named : FirstIsNamed
unfolding early_refusal
first_is_named bs = stages bs (records_refusal bs) (widths_refusal (rows_of bs)) refl refl
