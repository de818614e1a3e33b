use Rattle.std.proofs.Common.{◌-◌, ◌-ℤ◌, ap₂, ap, ◌∙◌, arith, pow_mono}
use Rattle.std.specs.Int.{saturate_to_bits}
use Rattle.ir.specs.Bitvectors.{signed, signed_saturating_sub}
use Rattle.arith.proofs.Saturation.{saturated_at}
use Rattle.arith.proofs.Signs.{back}
use Rattle.arith.proofs.saturating.signed_saturating_sub.Goals as goal

pub returns : goal.returns
unfolding signed_saturating_sub
returns c =
    saturated_at c.args.width.bits c.saturated.result c.saturating_sub.result (signed c.args.width.bits c.args.x -ℤ signed c.args.width.bits c.args.y)
    (pow_mono {i = c.args.width.bits - 1} {j = 63} (omega arith))
    (c.saturating_sub.ensures
    ∙ ap (saturate_to_bits 63) (ap₂ ◌-ℤ◌ (back c.signed.result c.signed.type_inv ∙ c.signed.ensures) (back c.signed-2.result c.signed-2.type_inv ∙ c.signed-2.ensures)))
    c.saturated.ensures
