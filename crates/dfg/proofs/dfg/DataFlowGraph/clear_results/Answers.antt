use Rattle.std.proofs.Common.{◌<◌, length, sym, subst, rules}
use Rattle.rows.specs.WellFormed.{WellFormed}
use Rattle.dfg.specs.Plain.{plain}
use Rattle.plain.proofs.Kept.{clear_kept}
use Rattle.dfg.proofs.dfg.DataFlowGraph.clear_results.Goals as goal

pub invariant_of-self : goal.invariant_of-self
invariant_of-self c =
    let g = c.args.self.now in
    let there : c.args.inst.0 < length (plain g).insts = search rules in
    record { well_formed = subst WellFormed (sym c.clear.ensures) (clear_kept (plain g) c.args.inst there g.well_formed) }
