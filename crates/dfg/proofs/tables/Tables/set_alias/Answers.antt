use Rattle.std.proofs.Common.{vec_items}
use Rattle.plain.proofs.Chains.{settled_aliased}
use Rattle.dfg.proofs.tables.Tables.set_alias.Goals as goal

pub invariant_of-self-clause-settled : goal.invariant_of-self-clause-settled
invariant_of-self-clause-settled c =
    let t = c.args.self.now in
    settled_aliased (vec_items t.values) c.args.dest.0 c.value_type-ty.result c.args.original.0 c.requires.within c.requires.ends c.requires.other t.settled
