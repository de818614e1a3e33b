use Rattle.std.proofs.Common.{◌≡◌, ◌++◌}
use Rattle.std.specs.Iterator.Adapters.{rev_source}
use Rattle.ir.specs.Entities.{values}
use Rattle.flow.specs.Meaning.{uses}
use Rattle.walk.specs.Stacked.{entries, traced}
use Rattle.walk.proofs.root.LiveRoot.expand.Given as goal

abbrev pub invariant-loop-arg : goal.invariant-loop-arg
invariant-loop-arg g l = record {
  can : (goal.iterator-loop-arg g).can_next l.arg-iterator × (goal.iterator-loop-arg g).is_finite l.arg-iterator;
  pushes : traced (values (rev_source l.arg-iterator)) ++ entries l.stack ≡ traced (uses (g.G.FlowGraph.meaning l.self.graph.now) l.fn.v.0) ++ entries l.initial.stack;
}
