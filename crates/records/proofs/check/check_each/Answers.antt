use Rattle.std.proofs.Common.{◌≡◌, ℕ, ◌<◌, ◌≤◌, List, length, None, Err, sym, ap, ◌∙◌, arith, rules, below_more}
use Rattle.std.proofs.lemmas.Result.{err_from_is_err_and}
use Rattle.ir.specs.Refusals.{answer_unless}
use Rattle.ir.proofs.Faults.{fault_here, fault_on, fault_end}
use Rattle.records.specs.Faults.{record_fault}
use Rattle.records.specs.Fields.{record_count}
use Rattle.records.proofs.Checked.{refused, passed}
use Rattle.records.proofs.Clean.{few_clean}
use Rattle.records.proofs.check.check_each.Goals as goal

pub overflow_cast-place : goal.overflow_cast-place
overflow_cast-place c =
    let i = c.args.image.now in
    let inside : c.loop-number.number ≤ record_count i.bytes.now = omega arith in
    omega (
      arith,
      few_clean i.bytes.now c.loop-number.number inside c.loop-number.invariant.clean,
      i.few_values,
      i.few_insts,
      ap (λ (l : List ℕ). length l) i.values_listed,
      ap (λ (l : List ℕ). length l) i.insts_listed,
    )

pub loop-number-preserved : goal.loop-number-preserved
loop-number-preserved c =
    let bs = c.args.image.now.bytes.now in
    let k = c.loop-number.number in
    let inside : k < record_count bs = omega arith in
    let clean : record_fault bs k ≡ None = passed (record_fault bs k) k c.map_err.result _ c.check.result (cc) c.map_err.ensures.cases tt c.in_ok-map_err.was in
    record {
      same = c.loop-number.invariant.same ∙ fault_on (record_fault bs) k (record_count bs) inside clean;
      clean = below_more _ _ c.loop-number.invariant.clean clean;
    }

pub returns-in_err-map_err : goal.returns-in_err-map_err
returns-in_err-map_err c =
    let bs = c.args.image.now.bytes.now in
    let k = c.loop-number.number in
    let inside : k < record_count bs = omega arith in
    let p = err_from_is_err_and c.from_residual.result c.from_residual.ensures.1 in
    let w = refused (record_fault bs k) k c.map_err.result _ c.check.result (cc) c.map_err.ensures.cases (λ e w q. search rules) c.in_err-map_err.field-0.0 c.in_err-map_err.was in
    p.1 ∙ ap Err (p.2 ∙ w.2) ∙ sym (ap (λ o. answer_unless o tt) (c.loop-number.invariant.same ∙ fault_here (record_fault bs) k (record_count bs) w.0 inside w.1))

pub returns : goal.returns
returns c =
    let bs = c.args.image.now.bytes.now in
    let past : record_count bs ≤ c.loop-number.number = omega arith in
    sym (ap (λ o. answer_unless o tt) (c.loop-number.invariant.same ∙ fault_end (record_fault bs) c.loop-number.number (record_count bs) past))
