-- The graph in an image's bytes. Assumes nothing.
use Rattle.std.specs.Prelude.{◌≡◌, ℕ, List, []}
use Rattle.flow.specs.Layout.{Layout}
use Rattle.flow.specs.Meaning.{Flow}
use Rattle.rows.specs.Meaning.{flow, layout}
use Rattle.rows.specs.Rows.{Rows}
use Rattle.records.specs.RowsOf.{rows_of}
use Rattle.image.specs.Held.{rows_in}
use Rattle.image.specs.Verdict.{Accepted}
use Rattle.image.specs.declared.graph.Image.{Image}

-- the rows that the graph is made of
abbrev pub held : Image → Rows
held image = rows_in image.rows.bytes.now image.rows.counts

-- the graph with no value, no instruction and no block
pub record IsEmpty (g : Flow) (l : Layout) : Type 0 where
  pub no_values : g ≡ []
  pub no_insts : l.insts ≡ []
  pub no_blocks : l.num_blocks ≡ 0

-- accepted bytes mean the graph of their rows, all others the empty graph
pub record Means (bs : List ℕ) (g : Flow) (l : Layout) : Type 0 where
  pub flow_graph : Accepted bs → g ≡ flow (rows_of bs)
  pub laid_out : Accepted bs → l ≡ layout (rows_of bs)
  pub refused : (Accepted bs → ⊥) → IsEmpty g l
