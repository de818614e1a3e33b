use Rattle.std.proofs.Common.{◌<◌, sym, subst, rules}
use Rattle.rows.specs.WellFormed.{WellFormed}
use Rattle.dfg.specs.Plain.{plain}
use Rattle.plain.proofs.Kept.{block_kept}
use Rattle.dfg.proofs.dfg.DataFlowGraph.make_block.Goals as goal

pub invariant_of-self : goal.invariant_of-self
invariant_of-self c =
    let g = c.args.self.now in
    let room : (plain g).blocks < 64 = search rules in
    record { well_formed = subst WellFormed (sym c.push_block.ensures.after) (block_kept (plain g) room g.well_formed) }
