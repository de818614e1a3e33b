use Rattle.dfg.proofs.Rows.{settled_results}
use Rattle.dfg.proofs.tables.Tables.push_inst.Goals as goal

pub invariant_of-self-clause-settled : goal.invariant_of-self-clause-settled
invariant_of-self-clause-settled c = settled_results _ _ _ _ c.args.self.now.settled c.push_results.ensures.items
