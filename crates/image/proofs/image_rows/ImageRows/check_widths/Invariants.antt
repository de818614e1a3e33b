use Rattle.std.proofs.Common.{◌≡◌, ◌-◌}
use Rattle.ir.specs.Refusals.{first_fault}
use Rattle.image.specs.Held.{rows_in}
use Rattle.image.specs.Verdict.{row_fault, widths_refusal}
use Rattle.image.proofs.image_rows.ImageRows.check_widths.Given as goal

abbrev pub invariant-loop-place : goal.invariant-loop-place
invariant-loop-place l =
    let p = rows_in l.self.bytes.now l.self.counts in widths_refusal p ≡ first_fault (row_fault p) l.place-counter (l.self.counts.values - l.place-counter)
