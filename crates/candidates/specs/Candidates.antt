-- The candidates of a graph that rows mean. Assumes nothing.
use Rattle.std.specs.Prelude.{List}
use Rattle.rows.specs.Meaning.{flow, layout}
use Rattle.rows.specs.Rows.{Rows}
use Rattle.harvest.specs.Harvest.{Harvested}
use Rattle.harvest.specs.declared.harvest.Lhs.{Lhs}

-- the whole harvest of the flow graph and the layout that the rows mean
abbrev pub CandidatesOf : Rows → List Lhs → Type 0
CandidatesOf p all = Harvested (flow p) (layout p) all
