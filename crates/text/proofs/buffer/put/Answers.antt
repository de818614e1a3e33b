use Rattle.std.proofs.Common.{◌≡◌, ◌+◌, get_or, drop, set, sym, ap, ◌∙◌, arith, rules}
use Rattle.std.proofs.lemmas.List.{set_past}
use Rattle.text.specs.Buffer.{put}
use Rattle.text.proofs.Buffers.{put_next, put_done}
use Rattle.text.proofs.buffer.put.Goals as goal
use Rattle.text.proofs.buffer.put.Goals.{then-at-out, else-at-out}

pub loop-byte-preserved : goal.loop-byte-preserved
loop-byte-preserved c =
    let i = c.loop-byte.byte-index in
    let x = get_or c.args.bytes.now i 0 in
    let at = c.loop-byte.at in
    let same : c.if-at-out.out ≡ set c.loop-byte.out at x = elim c.if-at-out.branch [ then-at-out w ↦ search rules | else-at-out w ↦ search (rules, set_past c.loop-byte.out at x) ] in (
      ap (λ l. put (drop (i + 1) c.args.bytes.now) (at + 1, l)) same ∙ sym (put_next c.args.bytes.now i at c.loop-byte.out c.loop-byte-test.true) ∙ c.loop-byte.invariant.0,
      omega arith,
    )

pub returns-clause-put : goal.returns-clause-put
returns-clause-put c = sym (put_done c.args.bytes.now c.loop-byte.byte-index (c.loop-byte.at, c.loop-byte.out) c.loop-byte-test.false) ∙ c.loop-byte.invariant.0
