use Rattle.records.proofs.Order.{clean_in_order}
use Rattle.records.proofs.laws.records_stand.Goals as goal

pub returns : goal.returns
returns c = clean_in_order
