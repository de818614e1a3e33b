use Rattle.std.proofs.Common.{◌≡◌, drop}
use Rattle.souper.specs.Check.{first_bad}
use Rattle.souper.proofs.check.first_bad.Given as goal

abbrev pub invariant-loop-at : goal.invariant-loop-at
invariant-loop-at l = first_bad l.rows l.at (drop l.at l.rows) ≡ first_bad l.rows 0 l.rows
