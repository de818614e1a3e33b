use Rattle.image.specs.Held.{rows_in}
use Rattle.image.proofs.GoingRound.{none_leaning}
use Rattle.image.proofs.image_rows.ImageRows.lowest_round.Goals as goal

pub returns-then-is_loopless : goal.returns-then-is_loopless
returns-then-is_loopless c =
    let s = c.args.self in
    none_leaning (rows_in s.bytes.now s.counts) (c.is_loopless.ensures.0 c.if-is_loopless.true)
