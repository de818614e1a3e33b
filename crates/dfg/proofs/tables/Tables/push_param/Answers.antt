use Rattle.dfg.proofs.Rows.{settled_param}
use Rattle.dfg.proofs.tables.Tables.push_param.Goals as goal

pub invariant_of-self-clause-settled : goal.invariant_of-self-clause-settled
invariant_of-self-clause-settled c = settled_param _ _ _ _ _ c.args.self.now.settled c.push_reserved.ensures.items
