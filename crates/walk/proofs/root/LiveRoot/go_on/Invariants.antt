use Rattle.std.proofs.Common.{◌≡◌, ℕ, ◌+◌, ◌*◌, ◌-◌, List, length}
use Rattle.walk.specs.Going.{Walking}
use Rattle.walk.proofs.root.LiveRoot.go_on.Given as goal

abbrev pub invariant-loop-stack : goal.invariant-loop-stack
invariant-loop-stack g l = record {
  walking : (a : g.row.V.Denot)
      → Walking (g.G.FlowGraph.meaning l.self.graph.now) l.self.value.0 l.initial.marks.bytes.now l.initial.stack.items l.initial.steps (λ shown. g.V.Visitor.fits a shown l.initial.visitor)
      → Walking (g.G.FlowGraph.meaning l.self.graph.now) l.self.value.0 l.marks.bytes.now l.stack.items l.taken (λ shown. g.V.Visitor.fits a shown l.visitor);
  safe : Walking (g.G.FlowGraph.meaning l.self.graph.now) l.self.value.0 l.marks.bytes.now l.stack.items l.taken (λ shown. Unit {0});
  same_reference : l.marks.bytes.ghost_name ≡ l.initial.marks.bytes.ghost_name;
}

abbrev pub decreases-loop-stack : goal.decreases-loop-stack
decreases-loop-stack g l = 1 + 4 * length (g.G.FlowGraph.meaning l.self.graph.now) - l.taken
