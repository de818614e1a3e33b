use Rattle.std.proofs.Common.{◌≡◌, Ok, sym, ◌∙◌}
use Rattle.std.proofs.lemmas.Result.{err_from_is_err_and}
use Rattle.ir.specs.Refusals.{answer_unless}
use Rattle.records.specs.Faults.{counts_of, records_refusal}
use Rattle.image.specs.Verdict.{Verdict}
use Rattle.image.proofs.Accepting.{verdict_decides}
use Rattle.image.proofs.Stages.{all_pass, few_counted, records_refuse, rounds_refuse, widths_refuse}
use Rattle.image.proofs.check.check_image.Goals as goal

pub returns-in_err-counts : goal.returns-in_err-counts
returns-in_err-counts c =
    let bs = c.args.bytes.now in
    let p = err_from_is_err_and c.from_residual.result c.from_residual.ensures.1 in
    let v = records_refuse bs c.in_err-counts.field-0.0 (sym c.in_err-counts.was ∙ c.check_records.ensures) in
    let w : Verdict bs c.from_residual.result = rw (p.1, p.2) v in
    record { verdict = w; accepted = verdict_decides bs c.from_residual.result w }

pub invariant_of-image : goal.invariant_of-image
invariant_of-image c =
    let few = few_counted c.args.bytes.now c.in_ok-counts.counts (sym c.in_ok-counts.was ∙ c.check_records.ensures) in
    record { few_values = few.0; few_insts = few.1 }

pub returns-in_err-check_widths : goal.returns-in_err-check_widths
returns-in_err-check_widths c =
    let bs = c.args.bytes.now in
    let told : Ok c.in_ok-counts.counts ≡ answer_unless (records_refusal bs) (counts_of bs) = sym c.in_ok-counts.was ∙ c.check_records.ensures in
    let p = err_from_is_err_and c.from_residual-in_err-check_widths.result c.from_residual-in_err-check_widths.ensures.1 in
    let v = widths_refuse bs c.in_ok-counts.counts told c.in_err-check_widths.field-0.0 (sym c.in_err-check_widths.was ∙ c.check_widths.ensures) in
    let w : Verdict bs c.from_residual-in_err-check_widths.result = rw (p.1, p.2) v in
    record { verdict = w; accepted = verdict_decides bs c.from_residual-in_err-check_widths.result w }

pub returns-in_err-check_rounds : goal.returns-in_err-check_rounds
returns-in_err-check_rounds c =
    let bs = c.args.bytes.now in
    let told : Ok c.in_ok-counts.counts ≡ answer_unless (records_refusal bs) (counts_of bs) = sym c.in_ok-counts.was ∙ c.check_records.ensures in
    let clean = sym c.in_ok-check_widths.was ∙ c.check_widths.ensures in
    let p = err_from_is_err_and c.from_residual-in_err-check_rounds.result c.from_residual-in_err-check_rounds.ensures.1 in
    let v = rounds_refuse bs c.in_ok-counts.counts told clean c.in_err-check_rounds.field-0.0 c.in_err-check_rounds.ensures in
    let w : Verdict bs c.from_residual-in_err-check_rounds.result = rw (p.1, p.2) v in
    record { verdict = w; accepted = verdict_decides bs c.from_residual-in_err-check_rounds.result w }

pub returns : goal.returns
returns c =
    let bs = c.args.bytes.now in
    let n = c.in_ok-counts.counts in
    let told : Ok n ≡ answer_unless (records_refusal bs) (counts_of bs) = sym c.in_ok-counts.was ∙ c.check_records.ensures in
    let w = all_pass bs n told (sym c.in_ok-check_widths.was ∙ c.check_widths.ensures) c.in_ok-check_rounds.ensures in
    record { verdict = w; accepted = verdict_decides bs (Ok n) w }
