use Rattle.std.proofs.Common.{◌^◌, ap, ◌∙◌}
use lib.Signed.{shr_z}
use Rattle.ir.specs.Bitvectors.{unsigned, signed_shift_right}
use Rattle.arith.proofs.Signs.{shift_back}
use Rattle.arith.proofs.shifts.signed_shift_right.Goals as goal

pub returns : goal.returns
unfolding signed_shift_right
returns c =
    c.unsigned.ensures
    ∙ ap (unsigned c.args.width.bits) (shift_back c.signed.result (2 ^ c.args.amount) c.signed.type_inv ∙ ap (λ z. shr_z z (2 ^ c.args.amount)) c.signed.ensures)
