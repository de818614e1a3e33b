use Rattle.ir.proofs.Signatures.{widths_decided}
use Rattle.ir.proofs.constraints.constraints_stand.Goals as goal

pub returns : goal.returns
returns c = widths_decided
