use Rattle.std.proofs.Common.{◌∙◌, rules}
use Rattle.std.proofs.lemmas.List.{with_items_is}
use Rattle.dfg.proofs.Rows.{settled_deleted}
use Rattle.dfg.proofs.tables.Tables.resolve_all.Goals as goal

pub invariant_of-self-clause-settled : goal.invariant_of-self-clause-settled
invariant_of-self-clause-settled c =
    settled_deleted _ _ (with_items_is c.resolve_operands.new.self.values c.delete_aliases.new.values (search rules) ∙ c.delete_aliases.ensures)
