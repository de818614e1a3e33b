-- The plain graph of a data-flow graph. Assumes nothing.
use Rattle.rows.specs.Rows.{Rows}
use Rattle.dfg.specs.Held.{held}
use Rattle.dfg.specs.declared.dfg.DataFlowGraph.{DataFlowGraph}

abbrev pub plain : DataFlowGraph → Rows
plain g = held g.tables
