use Rattle.std.proofs.Common.{◌≡◌, [], vec_items}
use Rattle.script.specs.Script.{types_of}
use Rattle.script.proofs.line.LineReader.types.Given as goal

abbrev pub invariant-loop-word : goal.invariant-loop-word
invariant-loop-word l = types_of (vec_items l.types) l.word-iterator ≡ types_of [] l.fn.self.words
