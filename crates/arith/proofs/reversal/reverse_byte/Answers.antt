use Rattle.std.proofs.Common.{ap, ◌∙◌, zero-add, arith}
use Rattle.arith.proofs.Reverses.{tabulated_at}
use Rattle.arith.proofs.reversal.reverse_byte.Goals as goal
use Rattle.ir.specs.Bitvectors.{bit_reverse}

-- the table is `bit_reverse 8` at each byte, which antt computes
pub returns : goal.returns
unfolding bit_reverse
returns c = tabulated_at (bit_reverse 8) 0 256 c.args.byte (omega arith) ∙ ap (bit_reverse 8) (zero-add c.args.byte)
