use Rattle.std.proofs.Common.{◌≡◌, ℕ, ◌-◌, ◌<◌, None}
use Rattle.ir.specs.Refusals.{first_fault}
use Rattle.records.specs.Faults.{record_fault}
use Rattle.records.specs.Fields.{record_count}
use Rattle.records.proofs.check.check_each.Given as goal

abbrev pub invariant-loop-number : goal.invariant-loop-number
invariant-loop-number l =
    let bs = l.image.bytes.now in
    record {
      same : first_fault (record_fault bs) 0 (record_count bs) ≡ first_fault (record_fault bs) l.number (record_count bs - l.number);
      clean : (j : ℕ) → j < l.number → record_fault bs j ≡ None;
    }
