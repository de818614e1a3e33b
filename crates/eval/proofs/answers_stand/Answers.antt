use Rattle.eval.proofs.Answered.{answered_numbers, answered_row_numbers, answered_traps, answered_undefined}
use Rattle.eval.proofs.answers_stand.Goals as goal

pub returns : goal.returns
returns c = record { numbers = answered_numbers; traps = answered_traps; row_numbers = answered_row_numbers; undefined = answered_undefined }
