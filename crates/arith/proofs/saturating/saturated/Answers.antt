use Rattle.std.proofs.Common.{◌≡◌, suc, ◌-◌, ◌/◌, ◌^◌, ap, ◌∙◌, arith, pow_mono, pow_pos}
use Rattle.ir.specs.Bitvectors.{unsigned}
use Rattle.arith.proofs.Saturation.{clamped}
use Rattle.arith.proofs.Signs.{half, back}
use Rattle.arith.proofs.saturating.saturated.Goals as goal

pub returns : goal.returns
returns c =
    let e : suc (c.max.result / 2) ≡ 2 ^ (c.args.width.bits - 1) = omega (arith, half c.args.width.bits c.args.width.in_range.0, pow_pos (c.args.width.bits - 1)) in
    let l = pow_mono {i = c.args.width.bits - 1} {j = 63} (omega arith) in
    c.unsigned.ensures
    ∙ ap (unsigned c.args.width.bits) (back c.clamp.result c.clamp.type_inv ∙ c.clamp.ensures.value ∙ clamped (c.args.width.bits - 1) (c.max.result / 2) c.args.z e l c.ranges.z.sfits)
