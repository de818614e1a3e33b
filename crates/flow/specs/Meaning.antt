-- What a flow graph means: for each value number a width, an original and a definition. And what is lawful.
-- Assumes nothing.
use Rattle.std.specs.Prelude.{◌≡◌, ℕ, ◌<◌, ◌≤◌, Bool, true, false, cond, not, ◌||◌, T, List, [], ◌∷◌, map, length, Ok, Err, Result, ◌==◌, nat_lt, slice_index, slice_index_or}
use Rattle.ir.specs.Entities.{values, not_live}
use Rattle.ir.specs.Widths.{Signature, is_integer, is_immediate}
use Rattle.ir.specs.declared.refusal.Refusal.{Refusal}
use Rattle.flow.specs.declared.definition.ValueDef.{ValueDef}
use Rattle.flow.specs.declared.definition.ValueDef.TheVariants.{Constant, Operation, Variable, Deleted}

-- what one value number means
pub record Node : Type 0 where
  -- 8, 16, 32 or 64 for an integer, 1 for anything else, 0 for a deleted or missing value
  pub width : ℕ
  -- the value at the end of its aliases
  pub original : ℕ
  pub def : ValueDef

abbrev pub Flow : Type 0
Flow = List Node

abbrev pub missing : Node
missing = record { width = 0; original = 0; def = Deleted }

abbrev pub node : Flow → ℕ → Node
node g v = slice_index_or g v missing

abbrev pub width_of : Flow → ℕ → ℕ
width_of g v = (node g v).width

abbrev pub original_of : Flow → ℕ → ℕ
original_of g v = (node g v).original

abbrev pub def_of : Flow → ℕ → ValueDef
def_of g v = (node g v).def

-- an answer about a value, refused where there is no such value
abbrev pub asked : {A : Type 0} → Flow → ℕ → A → Result A Refusal
asked g v answer = cond (nat_lt v (length g)) (Ok answer) (Err not_live)

abbrev pub present : ValueDef → Bool
present (Constant z) = true
present (Operation o cc args) = true
present Variable = true
present Deleted = false

abbrev pub is_variable : ValueDef → Bool
is_variable (Constant z) = false
is_variable (Operation o cc args) = false
is_variable Variable = true
is_variable Deleted = false

-- the value exists and is not deleted
abbrev pub live : Flow → ℕ → Bool
live g v = present (def_of g v)

-- the operands of a definition
abbrev pub used : ValueDef → List ℕ
used (Constant z) = []
used (Operation o cc args) = values args
used Variable = []
used Deleted = []

-- what a value uses: the operands of its operation
abbrev pub uses : Flow → ℕ → List ℕ
uses g v = used (def_of g v)

-- is v among vs?
abbrev pub has : List ℕ → ℕ → Bool
has [] v = false
has (w ∷ vs) v = w == v || has vs v

-- a value reaches itself, what it uses, and what those reach
pub data Reach (g : Flow) : ℕ → ℕ → Type 0 where
  here : {v u : ℕ} → v ≡ u → Reach g v u
  through : {v u : ℕ} (w : ℕ) → has (uses g v) w ≡ true → Reach g w u → Reach g v u

-- ---- the laws

-- a loop is a value that reaches itself in one step or more
abbrev pub NoLoop : Flow → Type 0
NoLoop g = (v w : ℕ) → has (uses g v) w ≡ true → Reach g w v → ⊥

-- the original is its own original, and the value shares its width and definition
pub record Resolved (g : Flow) (v : ℕ) : Type 0 where
  pub exists : original_of g v < length g
  pub own : original_of g (original_of g v) ≡ original_of g v
  pub width : width_of g (original_of g v) ≡ width_of g v
  pub def : def_of g (original_of g v) ≡ def_of g v

-- the width of a live value
abbrev pub is_type : ℕ → Bool
is_type w = w == 1 || is_integer w

-- a definition fits the width of its value: the immediate of a constant, the opcode, operands and widths of an operation
abbrev pub DefFits : Flow → ℕ → ValueDef → Type 0
DefFits g w (Constant z) = T (is_integer w) × T (is_immediate w z)
DefFits g w (Operation o cc args) = T (is_integer w) × ((k : ℕ) → k < length (values args) → T (is_integer (width_of g (slice_index (values args) k)))) × Signature o w (map (width_of g) (values args))
DefFits g w Variable = T (is_type w)
DefFits g w Deleted = w ≡ 0

pub record Lawful (g : Flow) : Type 0 where
  pub few : length g ≤ 1024
  pub originals : (v : ℕ) → v < length g → Resolved g v
  pub operands_live : (v w : ℕ) → has (uses g v) w ≡ true → live g w ≡ true
  pub fits : (v : ℕ) → DefFits g (width_of g v) (def_of g v)
  pub loopless : NoLoop g

-- a value is live exactly where its width is not 0
abbrev pub WidthTellsLive : Type 0
WidthTellsLive = (g : Flow) → Lawful g → (v : ℕ) → live g v ≡ not (width_of g v == 0)
