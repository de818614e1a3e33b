use Rattle.std.proofs.Common.{◌∙◌, arith}
use Rattle.flow.proofs.Places.{walk_topological}
use Rattle.rows.specs.Meaning.{flow}
use Rattle.rows.proofs.Lawfulness.{lawful}
use Rattle.plain.proofs.Sweeping.{swept_whole}
use Rattle.dfg.specs.Plain.{plain}
use Rattle.dfg.proofs.Marking.{none_marked}
use Rattle.dfg.proofs.alias_loops.NewAlias.mark_reaching.Goals as goal

pub returns : goal.returns
returns c =
    let a = c.args.self.now in
    let g = a.graph.now in
    let done = c.in-Ok.ensures in
    record {
      marked =
          done.walked.shown.marks (none_marked (plain g) a.dest.0)
          (walk_topological (flow (plain g)) (lawful (plain g) g.well_formed.0 g.well_formed.2) a.original.0 a.alive);
      marks = done.cleared a.alive (omega arith) ∙ swept_whole c.args.marks.now (omega arith);
    }
