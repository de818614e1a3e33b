use Rattle.std.proofs.Common.{◌<◌, length, sym, ◌∙◌, subst, arith, length-take}
use Rattle.std.proofs.lemmas.List.{get_or-take}
use Rattle.souper.specs.Rows.{variable_of}
use Rattle.eval.specs.Known.{RowReady, row_from}
use Rattle.eval.proofs.Numbering.{row_ready, holds_more}
use Rattle.eval.proofs.row_numbers.numbers_on.Goals as goal

pub row_from-requires : goal.row_from-requires
row_from-requires c =
    let rows = c.args.rows.now in
    let low : c.loop-r.r < c.args.count = omega (arith, length-take c.args.count rows) in
    let there : c.loop-r.r < length rows = omega (arith, c.requires.there) in
    subst (RowReady rows) (sym (get_or-take c.args.count rows c.loop-r.r (variable_of 0) low)) (row_ready rows c.requires.pass c.loop-r.r there)

pub loop-r-preserved : goal.loop-r-preserved
loop-r-preserved c =
    let rows = c.args.rows.now in
    let low : c.loop-r.r < c.args.count = omega (arith, length-take c.args.count rows) in
    let there : c.loop-r.r < length rows = omega (arith, c.requires.there) in
    let room : c.loop-r.r < length c.loop-r.numbers = omega (arith, c.requires.few) in
    holds_more rows c.requires.pass c.loop-r.r there c.args.inputs.now c.loop-r.numbers c.row_from.result c.loop-r.invariant room
    (c.row_from.ensures ∙ (λ i. row_from rows c.loop-r.numbers (c.number_at.ensures i) (get_or-take c.args.count rows c.loop-r.r (variable_of 0) low i)))
