use Rattle.std.proofs.Common.{sym}
use Rattle.arith.proofs.Divisions.{nothing_remains, defined_remainder}
use Rattle.arith.proofs.division.signed_remainder_or_zero.Goals as goal

pub returns-then-quotient_overflows : goal.returns-then-quotient_overflows
returns-then-quotient_overflows c = nothing_remains c.args.width.bits c.args.x c.args.y c.args.width.in_range.0 (sym c.if-quotient_overflows.ensures)

pub returns-else-quotient_overflows : goal.returns-else-quotient_overflows
returns-else-quotient_overflows c = defined_remainder c.args.width.bits c.args.x c.args.y c.signed_remainder.result (sym c.if-quotient_overflows.ensures) c.signed_remainder.ensures
