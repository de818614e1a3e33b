use Rattle.harvest.proofs.Searching.{Blocks, Insts}
use Rattle.harvest.proofs.search.find_root.Given as goal

abbrev pub invariant-loop-inst : goal.invariant-loop-inst
invariant-loop-inst g l = Insts (g.G.FlowGraph.meaning l.graph) (g.G.LaidOut.layout l.graph) l.from l.block l.first l.index l.inst

abbrev pub invariant-loop-block : goal.invariant-loop-block
invariant-loop-block g l = Blocks (g.G.FlowGraph.meaning l.graph) (g.G.LaidOut.layout l.graph) l.from l.block
