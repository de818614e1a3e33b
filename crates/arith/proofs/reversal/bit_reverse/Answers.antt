use Rattle.std.proofs.Common.{◌≡◌, ◌+◌, ◌-◌, ◌/◌, ◌^◌, ap, ◌∙◌, arith}
use Rattle.ir.specs.Bitvectors.{bit_reverse}
use Rattle.arith.proofs.Reverses.{reverse_part}
use Rattle.arith.proofs.reversal.bit_reverse.Goals as goal

pub returns : goal.returns
returns c =
    let e : 64 ≡ c.args.width.bits + (64 - c.args.width.bits) = omega arith in
    ap (λ n. n / 2 ^ (64 - c.args.width.bits)) (c.reverse_word.ensures ∙ ap (λ k. bit_reverse k c.args.x) e) ∙ reverse_part c.args.width.bits (64 - c.args.width.bits) c.args.x
