use Rattle.std.proofs.Common.{◌≡◌, ◌-◌, length, None, Err, sym, ap, ◌∙◌, arith, rules}
use Rattle.std.proofs.lemmas.Result.{err_from_is_err_and}
use Rattle.ir.specs.Refusals.{answer_unless, first_fault}
use Rattle.ir.proofs.Faults.{fault_here, fault_on, fault_end}
use Rattle.rows.specs.Rows.{Rows}
use Rattle.records.proofs.Checked.{refused, passed}
use Rattle.image.specs.Held.{rows_in}
use Rattle.image.specs.Verdict.{row_fault, widths_refusal}
use Rattle.image.proofs.Held.{num_values}
use Rattle.image.proofs.image_rows.ImageRows.check_widths.Goals as goal

pub loop-place-init : goal.loop-place-init
unfolding widths_refusal
loop-place-init c =
    let s = c.args.self in
    let p : Rows = rows_in s.bytes.now s.counts in
    let all : length p.values ≡ s.counts.values - 0 = omega (arith, num_values s.bytes.now s.counts) in
    ap (first_fault (row_fault p) 0) all

pub returns-in_err-map_err : goal.returns-in_err-map_err
returns-in_err-map_err c =
    let s = c.args.self in
    let v = c.loop-place.place-counter in
    let fault = row_fault (rows_in s.bytes.now s.counts) in
    let p = err_from_is_err_and c.from_residual.result c.from_residual.ensures.1 in
    let w = refused (fault v) v c.map_err.result _ c.check_value.result (cc) c.map_err.ensures.cases (λ e w q. search rules) c.in_err-map_err.field-0.0 c.in_err-map_err.was in
    p.1 ∙ ap Err (p.2 ∙ w.2) ∙ sym (ap (λ o. answer_unless o tt) (c.loop-place.invariant ∙ fault_here fault v s.counts.values w.0 (omega arith) w.1))

pub loop-place-preserved : goal.loop-place-preserved
loop-place-preserved c =
    let s = c.args.self in
    let v = c.loop-place.place-counter in
    let fault = row_fault (rows_in s.bytes.now s.counts) in
    let clean : fault v ≡ None = passed (fault v) v c.map_err.result _ c.check_value.result (cc) c.map_err.ensures.cases tt c.in_ok-map_err.was in
    c.loop-place.invariant ∙ fault_on fault v s.counts.values (omega arith) clean

pub returns : goal.returns
returns c =
    let s = c.args.self in
    let fault = row_fault (rows_in s.bytes.now s.counts) in
    sym (ap (λ o. answer_unless o tt) (c.loop-place.invariant ∙ fault_end fault c.loop-place.place-counter s.counts.values (omega arith)))
