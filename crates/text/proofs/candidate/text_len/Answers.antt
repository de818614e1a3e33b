use Rattle.std.proofs.Common.{length, ap, arith, length-append}
use Rattle.souper.specs.Rows.{row_at}
use Rattle.text.specs.Text.{heading, ending, row_line}
use Rattle.text.proofs.Buffers.{put_length}
use Rattle.text.proofs.Texts.{text_before, text_begins, text_more, text_ends}
use Rattle.text.proofs.candidate.text_len.Goals as goal

pub loop-number-init : goal.loop-number-init
loop-number-init c =
    let a = c.args in
    omega (
      arith,
      c.write_heading-len.type_inv,
      put_length (heading a.root a.name.now) _ _ _ c.write_heading-len.ensures,
      ap length (text_begins a.root a.name.now a.rows.now),
    )

pub loop-number-preserved : goal.loop-number-preserved
loop-number-preserved c =
    let a = c.args in
    let r = c.loop-number.number in
    let line = row_line r (row_at a.rows.now r) in
    omega (
      arith,
      c.loop-number.invariant,
      put_length line _ _ _ c.write_row.ensures,
      c.saturating_add-len.ensures,
      ap length (text_more a.root a.name.now a.rows.now r c.loop-number-test.true),
      length-append (text_before a.root a.name.now a.rows.now r) line,
    )

pub returns : goal.returns
returns c =
    let a = c.args in
    let r = c.loop-number.number in
    omega (
      arith,
      c.loop-number.invariant,
      put_length (ending a.rows.now) _ _ _ c.write_ending.ensures,
      c.saturating_add.ensures,
      ap length (text_ends a.root a.name.now a.rows.now r c.loop-number-test.false),
      length-append (text_before a.root a.name.now a.rows.now r) (ending a.rows.now),
    )
