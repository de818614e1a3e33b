-- What holds of every plain graph that building calls make, whatever they are and whichever are refused. Assumes nothing.
use Rattle.std.specs.Prelude.{ℕ, List}
use Rattle.ir.specs.declared.entities.Value.{Value}
use Rattle.flow.specs.Layout.{LawfulLayout}
use Rattle.flow.specs.Meaning.{Lawful}
use Rattle.rows.specs.Meaning.{flow, layout}
use Rattle.rows.specs.Rows.{Rows, empty}
use Rattle.rows.specs.WellFormed.{WellFormed}
use Rattle.calls.specs.Calls.{Call, ChangeToAlias}
use Rattle.plain.specs.AliasLoops.{JudgedByLoops}
use Rattle.plain.specs.Feed.{fed_with, fed_all, answered}

-- a call keeps well-formed rows well-formed, refused or not
abbrev pub StaysWellFormed : Type 0
StaysWellFormed = (p : Rows) (marks : ℕ) (c : Call) → WellFormed p → WellFormed (fed_with marks p c)

-- the graph that any list of calls makes keeps the laws of a flow graph and of a layout
pub record LawfulBuilt (cs : List Call) : Type 0 where
  pub flow_graph : Lawful (flow (fed_all empty cs))
  pub laid_out : LawfulLayout (flow (fed_all empty cs)) (layout (fed_all empty cs))

abbrev pub AlwaysLawful : Type 0
AlwaysLawful = (cs : List Call) → LawfulBuilt cs

-- a new alias that the other checks let pass is refused with 9 exactly if the altered graph would have a loop,
-- at the lowest value that would be in one
abbrev pub AliasesJudged : Type 0
AliasesJudged = (p : Rows) (marks : ℕ) (dest src : Value) → WellFormed p → JudgedByLoops p marks dest src (answered marks p (ChangeToAlias dest src) tt)
