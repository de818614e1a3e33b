use Rattle.std.proofs.Common.{sym, subst}
use Rattle.rows.specs.WellFormed.{WellFormed}
use Rattle.dfg.specs.Plain.{plain}
use Rattle.plain.proofs.Kept.{resolve_kept}
use Rattle.dfg.proofs.dfg.DataFlowGraph.resolve_all_aliases.Goals as goal

pub invariant_of-self : goal.invariant_of-self
invariant_of-self c =
    let g = c.args.self.now in
    record { well_formed = subst WellFormed (sym c.resolve_all.ensures) (resolve_kept (plain g) g.well_formed) }
