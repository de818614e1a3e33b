use Rattle.std.proofs.Common.{◌≡◌, false, pos, w64}
use lib.Signed.{le_z}
use Rattle.std.proofs.lemmas.Int.{to_z-of_z}
use Rattle.arith.proofs.Signs.{unsigned_pos, unsigned_neg, minus_one_less}
use Rattle.arith.proofs.width.Width.unsigned.Goals as goal

pub returns-then-z-ge0 : goal.returns-then-z-ge0
returns-then-z-ge0 c =
    let e = to_z-of_z w64 c.args.z c.ranges.z in
    rw (e, c.max-max.ensures) (unsigned_pos c.args.self.bits c.args.z (rw e at c.if-z-ge0.true))

pub returns-else-z-ge0 : goal.returns-else-z-ge0
returns-else-z-ge0 c =
    let e = to_z-of_z w64 c.args.z c.ranges.z in
    let h : le_z (pos 0) c.args.z ≡ false = rw e at c.if-z-ge0.false in
    rw (e, minus_one_less c.args.z c.ranges.z h, c.max-max.ensures) (unsigned_neg c.args.self.bits c.args.z h)
