use Rattle.harvest.proofs.Counting.{counted_more}
use Rattle.harvest.proofs.counter.OperationCounterVisitor.show.Goals as goal

pub returns : goal.returns
returns g c = λ a shown f. counted_more _ _ _ _ _ c.args.v.0 shown c.is_counted.result c.is_counted.ensures f c.counted_on-self.ensures
