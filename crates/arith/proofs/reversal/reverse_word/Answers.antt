use Rattle.std.proofs.Common.{sym, refl, ap, ◌∙◌, div-one, arith}
use lib.Bits.{bit_and}
use Rattle.arith.proofs.Reverses.{reverse_step, rest_step}
use Rattle.arith.proofs.reversal.reverse_word.Goals as goal
use Rattle.ir.specs.Bitvectors.{bit_reverse}

pub loop-i-init : goal.loop-i-init
unfolding bit_reverse
loop-i-init c = (refl, sym (div-one c.args.x))

pub loop-i-preserved : goal.loop-i-preserved
loop-i-preserved c = (
  reverse_step 8 c.loop-i._i c.args.x c.loop-i.reversed c.from.result (omega arith) c.loop-i.invariant.0
      (c.from.ensures ∙ c.reverse_byte.ensures ∙ ap (λ n. bit_reverse 8 (bit_and n 255)) c.loop-i.invariant.1),
  rw c.loop-i.invariant.1 (rest_step 8 c.loop-i._i c.args.x),
)
