use Rattle.souper.proofs.RowRange.{row_numbers_in_range}
use Rattle.souper.proofs.RowUnfolds.{row_unfolds}
use Rattle.souper.proofs.row_numbers_stand.Goals as goal

pub returns : goal.returns
returns c = record { unfolds = row_unfolds; in_range = row_numbers_in_range }
