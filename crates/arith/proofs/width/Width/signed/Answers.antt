use Rattle.std.proofs.Common.{◌-◌, ◌^◌, ◌<◌, ◌≤◌, ◌∙◌, sym, arith, w64, pow_mono, pow_pos}
use Rattle.std.proofs.lemmas.Int.{ints, to_z_pos}
use Rattle.arith.proofs.Signs.{half, signed_low, signed_high}
use Rattle.arith.proofs.width.Width.signed.Goals as goal

pub returns-then-x-max : goal.returns-then-x-max
returns-then-x-max c =
    let h : c.args.x < 2 ^ (c.args.self.bits - 1) = omega (arith, half c.args.self.bits c.args.self.in_range.0, pow_pos (c.args.self.bits - 1)) in
    to_z_pos w64 c.args.x (omega (arith, pow_mono {i = c.args.self.bits - 1} {j = 63} (omega arith))) ∙ sym (signed_low c.args.self.bits c.args.x h)

pub returns-else-x-max : goal.returns-else-x-max
returns-else-x-max c =
    let h : 2 ^ (c.args.self.bits - 1) ≤ c.args.x = omega (arith, half c.args.self.bits c.args.self.in_range.0, pow_pos (c.args.self.bits - 1)) in
    rw (signed_high c.args.self.bits c.args.x h) (omega (arith, ints))
