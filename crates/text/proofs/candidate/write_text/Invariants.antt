use Rattle.std.proofs.Common.{◌≡◌}
use Rattle.text.specs.Buffer.{put}
use Rattle.text.proofs.Texts.{text_before}
use Rattle.text.proofs.candidate.write_text.Given as goal

abbrev pub invariant-loop-number : goal.invariant-loop-number
invariant-loop-number l = (l.at, l.text) ≡ put (text_before l.fn.root l.fn.name l.fn.rows l.number) (0, l.fn.text)
