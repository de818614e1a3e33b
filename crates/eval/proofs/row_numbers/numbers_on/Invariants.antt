use Rattle.eval.specs.Known.{Holds}
use Rattle.eval.proofs.row_numbers.numbers_on.Given as goal

abbrev pub invariant-loop-r : goal.invariant-loop-r
invariant-loop-r l = Holds l.rows l.inputs l.numbers l.r
