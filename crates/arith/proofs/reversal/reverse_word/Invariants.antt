use Rattle.std.proofs.Common.{◌≡◌, ◌*◌, ◌/◌, ◌^◌}
use Rattle.ir.specs.Bitvectors.{bit_reverse}
use Rattle.arith.proofs.reversal.reverse_word.Given as goal

abbrev pub invariant-loop-i : goal.invariant-loop-i
invariant-loop-i l = (l.reversed ≡ bit_reverse (8 * l._i) l.x) × (l.rest ≡ l.x / 2 ^ (8 * l._i))
