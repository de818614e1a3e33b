use Rattle.std.proofs.Common.{◌≡◌, length, vec_items}
use Rattle.harvest.specs.Roots.{roots_from}
use Rattle.harvest.proofs.Harvesting.{Found}
use Rattle.harvest.proofs.harvest.harvest_all.Given as goal

abbrev pub invariant-loop-candidate : goal.invariant-loop-candidate
invariant-loop-candidate g l = record {
  same : l.harvest.graph.now ≡ l.graph;
  found : Found (g.G.FlowGraph.meaning l.graph) (g.G.LaidOut.layout l.graph) l.harvest.from (vec_items l.all);
}

abbrev pub decreases-loop-candidate : goal.decreases-loop-candidate
decreases-loop-candidate g l = length (roots_from (g.G.FlowGraph.meaning l.graph) (g.G.LaidOut.layout l.graph) l.harvest.from)
