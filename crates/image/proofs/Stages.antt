-- What the answers of the stages make of the verdict: of the check of records, then of widths, then of what goes round. Assumes nothing.
use Rattle.std.proofs.Common.{◌≡◌, ℕ, ◌≤◌, List, Some, None, Ok, Err, sym, refl, ap, ◌∙◌, subst}
use Rattle.ir.specs.Options.{or_else}
use Rattle.ir.specs.Refusals.{answer_unless}
use Rattle.ir.specs.declared.refusal.Refusal.{Refusal}
use Rattle.records.specs.Faults.{counts_of, records_refusal}
use Rattle.records.specs.RowsOf.{rows_of}
use Rattle.records.specs.declared.check.Counts.{Counts}
use Rattle.records.proofs.Order.{clean_in_order}
use Rattle.image.specs.Held.{rows_in}
use Rattle.image.specs.Verdict.{NothingGoesRound, RefusedByRounds, Verdict, early_refusal, widths_refusal}
use Rattle.ir.proofs.Answered.{passed, refused}
use Rattle.image.proofs.Fitting.{rows_are}

module _ (bs : List ℕ) where
  counts_told : (n : Counts) → Ok n ≡ answer_unless (records_refusal bs) (counts_of bs) → (records_refusal bs ≡ None) × (n ≡ counts_of bs)
  counts_told n e = passed (records_refusal bs) n (counts_of bs) e

  -- the rows that are judged are those of the bytes
  rows_told : (n : Counts) → Ok n ≡ answer_unless (records_refusal bs) (counts_of bs) → rows_in bs n ≡ rows_of bs
  rows_told n e = let t = counts_told n e in ap (rows_in bs) t.1 ∙ sym (rows_are bs t.0)

  pub few_counted : (n : Counts) → Ok n ≡ answer_unless (records_refusal bs) (counts_of bs) → (n.values ≤ 1024) × (n.insts ≤ 1024)
  few_counted n e =
      let t = counts_told n e in
      let order = clean_in_order bs t.0 in
      subst (λ (m : Counts). (m.values ≤ 1024) × (m.insts ≤ 1024)) (sym t.1) (order.few_values, order.few_insts)

  pub records_refuse : (why : Refusal) → Err why ≡ answer_unless (records_refusal bs) (counts_of bs) → Verdict bs (Err why)
  unfolding early_refusal
  records_refuse why e =
      let r = refused (records_refusal bs) (counts_of bs) why e in
      rw r refl

  module _ (n : Counts) (told : Ok n ≡ answer_unless (records_refusal bs) (counts_of bs)) where
    past_records : early_refusal bs ≡ widths_refusal (rows_in bs n)
    unfolding early_refusal
    past_records =
        ap (λ o. or_else o (widths_refusal (rows_of bs))) (counts_told n told).0 ∙ ap widths_refusal (sym (rows_told n told))

    pub widths_refuse : (why : Refusal) → Err why ≡ answer_unless (widths_refusal (rows_in bs n)) (tt {0}) → Verdict bs (Err why)
    widths_refuse why e =
        let early : early_refusal bs ≡ Some why = past_records ∙ refused (widths_refusal (rows_in bs n)) (tt {0}) why e in
        rw early refl

    module _ (clean : Ok (tt {0}) ≡ answer_unless (widths_refusal (rows_in bs n)) (tt {0})) where
      not_early : early_refusal bs ≡ None
      not_early = past_records ∙ (passed (widths_refusal (rows_in bs n)) (tt {0}) (tt {0}) clean).0

      pub rounds_refuse : (why : Refusal) → RefusedByRounds (rows_in bs n) why → Verdict bs (Err why)
      rounds_refuse why r = rw not_early (subst (λ p. RefusedByRounds p why) (rows_told n told) r)

      pub all_pass : NothingGoesRound (rows_in bs n) → Verdict bs (Ok n)
      all_pass none = ((not_early, subst NothingGoesRound (rows_told n told) none), (counts_told n told).1)
