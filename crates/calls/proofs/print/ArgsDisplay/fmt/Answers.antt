use Rattle.std.proofs.Common.{rules}
use Rattle.std.proofs.Output.{has_written_append, has_written_of_eq}
use Rattle.ir.specs.Entities.{value}
use Rattle.ir.specs.Printed.{value_text}
use Rattle.calls.proofs.Each.{each_next}
use Rattle.calls.proofs.print.ArgsDisplay.fmt.Goals as goal

pub loop-arg-preserved : goal.loop-arg-preserved
loop-arg-preserved g c = λ plain.
    has_written_of_eq _ _ _ _ _ (each_next value_text c.args.self.now.0.now c.loop-arg.arg-index (value 0) (search rules))
    (has_written_append _ _ _ _ _ _ (c.loop-arg.invariant plain) (search rules))
