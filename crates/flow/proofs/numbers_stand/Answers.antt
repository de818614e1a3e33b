use Rattle.flow.proofs.Range.{numbers_in_range}
use Rattle.flow.proofs.Traps.{none_where_trapped}
use Rattle.flow.proofs.Unfolds.{number_unfolds}
use Rattle.flow.proofs.numbers_stand.Goals as goal

pub returns : goal.returns
returns c = record { unfolds = number_unfolds; in_range = numbers_in_range; trapped = none_where_trapped }
