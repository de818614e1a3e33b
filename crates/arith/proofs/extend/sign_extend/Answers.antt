use Rattle.std.proofs.Common.{ap, ◌∙◌}
use Rattle.ir.specs.Bitvectors.{unsigned, sign_extend}
use Rattle.arith.proofs.Signs.{back}
use Rattle.arith.proofs.extend.sign_extend.Goals as goal

pub returns : goal.returns
unfolding sign_extend
returns c = c.unsigned.ensures ∙ ap (unsigned c.args.width.bits) (back c.signed.result c.signed.type_inv ∙ c.signed.ensures)
