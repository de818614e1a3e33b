use Rattle.std.proofs.Common.{sym}
use Rattle.arith.proofs.Divisions.{Divides, division_asks, division_gives}
use Rattle.arith.proofs.division.divide_signed.Goals as goal

divides : (c : goal.After-signed-y) → Divides c.args.width.bits c.args.x c.args.y c.signed-x.result c.signed-y.result
divides c =
    record {
      wide = c.args.width.in_range.0;
      small = c.args.width.in_range.1;
      word = c.ranges.y.fits;
      divisor = c.if-y-eq0.false;
      defined = sym c.if-quotient_overflows.ensures;
      left = c.signed-x.ensures;
      right = c.signed-y.ensures;
      left_fits = c.signed-x.type_inv;
      right_fits = c.signed-y.type_inv;
    }

pub nonzero_div-x : goal.nonzero_div-x
nonzero_div-x c = division_asks c.args.width.bits c.args.x c.args.y c.signed-x.result c.signed-y.result (divides c)

pub nonzero_rem-x : goal.nonzero_rem-x
nonzero_rem-x c = division_asks c.args.width.bits c.args.x c.args.y c.signed-x.result c.signed-y.result (divides c.before)

pub returns : goal.returns
returns c =
    division_gives c.args.width.bits c.args.x c.args.y c.unsigned.result c.unsigned-2.result c.signed-x.result c.signed-y.result (divides c.before.before)
    c.unsigned.ensures c.unsigned-2.ensures
