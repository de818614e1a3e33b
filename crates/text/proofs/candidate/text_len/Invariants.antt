use Rattle.std.proofs.Common.{◌≡◌, length, min}
use Rattle.text.proofs.Texts.{text_before}
use Rattle.text.proofs.candidate.text_len.Given as goal

abbrev pub invariant-loop-number : goal.invariant-loop-number
invariant-loop-number l = l.len ≡ min (length (text_before l.fn.root l.fn.name l.fn.rows l.number)) 18446744073709551615
