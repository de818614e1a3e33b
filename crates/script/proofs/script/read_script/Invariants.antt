use Rattle.std.proofs.Common.{◌≡◌, map, vec_items}
use Rattle.calls.specs.Calls.{call_of}
use Rattle.script.specs.Script.{lines_of, script_of}
use Rattle.script.proofs.script.read_script.Given as goal

abbrev pub invariant-loop-i : goal.invariant-loop-i
invariant-loop-i l = lines_of (map call_of (vec_items l.calls)) l.i-iterator.count l.i-iterator.iter ≡ script_of l.text
