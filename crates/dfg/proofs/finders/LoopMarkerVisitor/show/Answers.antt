use Rattle.rows.proofs.Lawfulness.{lawful}
use Rattle.dfg.specs.Plain.{plain}
use Rattle.dfg.proofs.Marking.{marked_more}
use Rattle.dfg.proofs.finders.LoopMarkerVisitor.show.Goals as goal

pub returns : goal.returns
returns c =
    let g = c.args.self.now.alias.graph.now in
    λ a shown f.
    marked_more _ _ _ shown _ _ c.args.v.0 c.reaches-reaches.result (lawful (plain g) g.well_formed.0 g.well_formed.2) f c.reaches-reaches.ensures c.mark.ensures
