-- What was written so far is what the items so far make.
use Rattle.std.proofs.Common.{take}
use Rattle.std.specs.Fmt.{HasWritten, IsPlainFormatter}
use Rattle.ir.specs.Printed.{value_text}
use Rattle.calls.specs.Printed.{each}
use Rattle.calls.proofs.print.ArgsDisplay.fmt.Given as goal

abbrev pub invariant-loop-arg : goal.invariant-loop-arg
invariant-loop-arg g l = IsPlainFormatter l.fn.f → HasWritten g.W.Write.write_str_gives l.fn.f (each value_text (take l.arg-index l.arg-items)) l.f
