use Rattle.std.proofs.Common.{◌≡◌, ◌+◌, drop}
use Rattle.text.specs.Buffer.{put}
use Rattle.text.proofs.buffer.put.Given as goal

abbrev pub invariant-loop-byte : goal.invariant-loop-byte
invariant-loop-byte l = (put (drop l.byte-index l.fn.bytes) (l.at, l.out) ≡ put l.fn.bytes (l.fn.at, l.fn.out)) × (l.at ≡ l.fn.at + l.byte-index)
