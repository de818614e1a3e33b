-- Bytes are accepted exactly if they are an image, and there is one verdict on them. Assumes nothing.
use Rattle.std.proofs.Common.{◌≡◌, ℕ, Decides, List, is_ok, Some, None, Ok, Err, Option, Result, length, sym, refl, ap, ap₂, ◌∙◌, subst, inl, inr, arith}
use Rattle.std.proofs.lemmas.Bool.{false≢true}
use Rattle.ir.proofs.Faults.{none_found}
use Rattle.ir.proofs.OneToOne.{cause_numbers}
use Rattle.ir.proofs.Options.{neither}
use Rattle.ir.specs.Options.{or_else}
use Rattle.ir.specs.declared.refusal.Cause.{Cause}
use Rattle.ir.specs.declared.refusal.Refusal.{Refusal}
use Rattle.flow.specs.Meaning.{NoLoop}
use Rattle.rows.specs.Meaning.{flow}
use Rattle.rows.specs.Rows.{Rows, value_at}
use Rattle.rows.specs.WellFormed.{BlocksFit, Few, InstsFit, ResultsFit, Settled, ValuesFit, WellFormed}
use Rattle.rows.proofs.Circles.{settled_without_circles}
use Rattle.records.specs.Faults.{records_refusal}
use Rattle.records.specs.RowsOf.{rows_of}
use Rattle.records.specs.declared.check.Counts.{Counts}
use Rattle.image.specs.Theorems.{AcceptedExactly, OneVerdict}
use Rattle.image.specs.Verdict.{Accepted, IsImage, NothingGoesRound, RefusedWith, Verdict, early_refusal, row_fault, widths_refusal}
use Rattle.image.proofs.Fitting.{blocks_fit, few, fits_clean, insts_fit, results_fit_lem, rows_are, values_fit}

-- ---- what goes round

round_settled : (p : Rows) → NothingGoesRound p → Settled p.values × NoLoop (flow p)
round_settled p none = ((settled_without_circles p.values).1 (λ v c. none v (inl c)), λ v w h r. none v (inr (w, h, r)))

pub settled_round : (p : Rows) → Settled p.values → NoLoop (flow p) → NothingGoesRound p
settled_round p settled loopless v (inl c) = (settled_without_circles p.values).0 settled v c
settled_round p settled loopless v (inr (w, h, r)) = loopless v w h r

-- ---- widths that fit are told clean

widths_clean : (p : Rows) → ValuesFit p → widths_refusal p ≡ None
unfolding widths_refusal row_fault
widths_clean p fit = none_found (row_fault p) (length p.values) 0 (λ v l m. fits_clean p (value_at p v) (fit v))

module _ (bs : List ℕ) where
  -- ---- accepted bytes

  sound_rows : records_refusal bs ≡ None → widths_refusal (rows_of bs) ≡ None → NothingGoesRound (rows_of bs) → WellFormed (rows_of bs)
  sound_rows records widths none =
      let same = rows_are bs records in
      let p : Rows = rows_of bs in
      let ends = round_settled p none in
      let values : ValuesFit p = subst ValuesFit (sym same) (values_fit bs records (ap widths_refusal (sym same) ∙ widths)) in (
        (subst Few (sym same) (few bs records), values, subst InstsFit (sym same) (insts_fit bs records), subst ResultsFit (sym same) (results_fit_lem bs records), ends.0),
        subst BlocksFit (sym same) (blocks_fit bs records),
        ends.1,
      )

  -- what is accepted is an image
  pub accepted_image : Accepted bs → IsImage bs
  unfolding early_refusal
  accepted_image (early, none) =
      let clean = neither (records_refusal bs) (widths_refusal (rows_of bs)) early in
      (clean.0, sound_rows clean.0 clean.1 none)

  image_accepted : IsImage bs → Accepted bs
  unfolding early_refusal
  image_accepted (records, (sound, blocks, loopless)) = (
    ap (λ o. or_else o (widths_refusal (rows_of bs))) records ∙ widths_clean (rows_of bs) sound.1,
    settled_round (rows_of bs) sound.4 loopless,
  )

  -- ---- one verdict

  not_refused : (o : Option Refusal) (p : Rows) (why : Refusal) → o ≡ None → NothingGoesRound p → RefusedWith o p why → ⊥
  not_refused None p why e none r = none why.place r.1.goes_round
  not_refused (Some early) p why e none r = cc

  one_refusal : (o : Option Refusal) (p : Rows) (v w : Refusal) → RefusedWith o p v → RefusedWith o p w → v ≡ w
  one_refusal (Some early) p v w h k = h ∙ sym k
  one_refusal None p v w h k =
      let causes : v.cause ≡ w.cause = cause_numbers v.cause w.cause (h.0 ∙ sym k.0) in
      let places : v.place ≡ w.place = omega (arith, h.1.lowest w.place k.1.goes_round, k.1.lowest v.place h.1.goes_round) in
      ap₂ (λ (c : Cause) (k : ℕ). record { cause = c; place = k }) causes places

pub accepted_exactly : AcceptedExactly
accepted_exactly bs = (accepted_image bs, image_accepted bs)

pub one_verdict : OneVerdict
one_verdict bs (Ok m) (Ok n) h k = ap Ok (h.1 ∙ sym k.1)
one_verdict bs (Ok m) (Err why) h k = absurd (not_refused bs (early_refusal bs) (rows_of bs) why h.0.0 h.0.1 k)
one_verdict bs (Err why) (Ok n) h k = absurd (not_refused bs (early_refusal bs) (rows_of bs) why k.0.0 k.0.1 h)
one_verdict bs (Err v) (Err w) h k = ap Err (one_refusal bs (early_refusal bs) (rows_of bs) v w h k)

-- what a verdict says of the bytes
pub verdict_decides : (bs : List ℕ) (r : Result Counts Refusal) → Verdict bs r → Decides (is_ok r) (IsImage bs)
verdict_decides bs (Ok n) h = (λ e. accepted_image bs h.0, λ i. refl)
verdict_decides bs (Err why) h = (
  λ e. absurd (false≢true e),
  λ i. let a = image_accepted bs i in absurd (not_refused bs (early_refusal bs) (rows_of bs) why a.0 a.1 h),
)
