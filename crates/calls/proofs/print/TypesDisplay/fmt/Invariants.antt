-- What was written so far is what the items so far make.
use Rattle.std.proofs.Common.{take}
use Rattle.std.specs.Fmt.{HasWritten, IsPlainFormatter}
use Rattle.calls.specs.Printed.{each, type_text}
use Rattle.calls.proofs.print.TypesDisplay.fmt.Given as goal

abbrev pub invariant-loop-bits : goal.invariant-loop-bits
invariant-loop-bits g l = IsPlainFormatter l.fn.f → HasWritten g.W.Write.write_str_gives l.fn.f (each type_text (take l.bits-index l.bits-items)) l.f
