-- A view that changes definitions and nothing else. Assumes nothing.
use Rattle.std.specs.Prelude.{◌≡◌, ℕ, ◌<◌, true, map, length}
use Rattle.flow.specs.Meaning.{Flow, Node, node, width_of, original_of, present, live, used, uses, has, DefFits}
use Rattle.flow.specs.declared.definition.ValueDef.{ValueDef}

-- a value, with the definition that f tells for it
abbrev pub redefined_node : (Node → ValueDef) → Node → Node
redefined_node f n = record { width = n.width; original = n.original; def = f n }

-- the graph, with the definition that f tells for each value
unfoldable pub redefined : (Node → ValueDef) → Flow → Flow
redefined f g = map (redefined_node f) g

-- What f may tell of a graph: what is live stays live, each operand has the node of an operand that the value had, and what is
-- told fits.
pub record Redefines (f : Node → ValueDef) (g : Flow) : Type 0 where
  pub alive : (v : ℕ) → v < length g → present (f (node g v)) ≡ live g v
  pub operands : (v w : ℕ) → v < length g → has (used (f (node g v))) w ≡ true → (u : ℕ) × (has (uses g v) u ≡ true) × (node g u ≡ node g w)
  pub fits : (v : ℕ) → v < length g → DefFits g (width_of g v) (f (node g v))

-- h has the values of g: each has its width and its original, and is live where it was
pub record SameValues (g h : Flow) : Type 0 where
  pub count : length h ≡ length g
  pub widths : (v : ℕ) → width_of h v ≡ width_of g v
  pub originals : (v : ℕ) → original_of h v ≡ original_of g v
  pub alive : (v : ℕ) → live h v ≡ live g v
