use Rattle.std.proofs.Common.{rules}
use Rattle.std.proofs.Output.{has_written_append, has_written_of_eq}
use Rattle.calls.specs.Printed.{type_text}
use Rattle.calls.proofs.Each.{each_next}
use Rattle.calls.proofs.print.TypesDisplay.fmt.Goals as goal

pub loop-bits-preserved : goal.loop-bits-preserved
loop-bits-preserved g c = λ plain.
    has_written_of_eq _ _ _ _ _ (each_next type_text c.args.self.now.0.now c.loop-bits.bits-index 0 (search rules))
    (has_written_append _ _ _ _ _ _ (c.loop-bits.invariant plain) (search rules))
