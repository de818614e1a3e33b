-- Which values are roots of candidates. Assumes nothing.
use Rattle.std.specs.Prelude.{◌≡◌, ℕ, ◌<◌, Bool, true, false, cond, ◌&&◌, ◌↔◌, List, length, Some, None, Option, nat_le}
use Rattle.std.specs.List.{filter_map}
use Rattle.ir.specs.Entities.{value}
use Rattle.ir.specs.Widths.{is_integer}
use Rattle.ir.specs.declared.entities.Value.{Value}
use Rattle.flow.specs.Layout.{Layout, InstRow, in_order, inst_at, onward}
use Rattle.flow.specs.Meaning.{Flow, Lawful, Reach, width_of}
use Rattle.ir.specs.Options.{and_then}
use Rattle.flow.specs.Walk.{walk}
use Rattle.flow.specs.declared.definition.ValueDef.{ValueDef}
use Rattle.flow.specs.declared.definition.ValueDef.TheVariants.{Constant, Operation, Variable, Deleted}
use Rattle.souper.specs.Counted.{counted, is_counted}
use Rattle.souper.specs.Translation.{shape}
use Rattle.harvest.specs.declared.place.Place.{Place}

-- v reaches two counted operations or more, itself included
pub record ReachesTwo (g : Flow) (v : ℕ) : Type 0 where
  pub one : ℕ
  pub other : ℕ
  pub apart : one ≡ other → ⊥
  pub reaches_one : Reach g v one
  pub reaches_other : Reach g v other
  pub counts_one : is_counted (shape g one) ≡ true
  pub counts_other : is_counted (shape g other) ≡ true

-- A candidate is harvested for v: an integer that reaches two counted operations or more, and the single result of an instruction.
pub record IsCandidate (g : Flow) (l : Layout) (v : ℕ) : Type 0 where
  pub inst : ℕ
  pub exists : inst < length l.insts
  pub result : (inst_at l inst).result ≡ Some (value v)
  pub integer : is_integer (width_of g v) ≡ true
  pub two : ReachesTwo g v

-- ---- the same as a test

-- an operation defines the value
abbrev pub is_operation : ValueDef → Bool
is_operation (Constant z) = false
is_operation (Operation o cc args) = true
is_operation Variable = false
is_operation Deleted = false

-- the walk of v has two counted operations or more
abbrev pub reaches_two : Flow → ℕ → Bool
reaches_two g v = nat_le 2 (counted g (walk g v))

-- a root is an integer whose walk has two counted operations or more
abbrev pub is_root : Flow → ℕ → Bool
is_root g v = is_integer (width_of g v) && reaches_two g v

-- the roots are the integers that reach two counted operations or more
abbrev pub RootsReachTwo : Type 0
RootsReachTwo = (g : Flow) → Lawful g → (v : ℕ) → (is_root g v ≡ true) ↔ ((is_integer (width_of g v) ≡ true) × ReachesTwo g v)

-- ---- the roots of a graph

-- the root among an instruction's results: its single result, if that is one
abbrev pub root_at : Flow → InstRow → Option Value
root_at g i = and_then i.result (λ v. cond (is_root g v.0) (Some v) None)

-- the roots at instructions, in their order
abbrev pub roots_at : Flow → List InstRow → List Value
roots_at g is = filter_map (root_at g) is

-- The roots of a graph, in layout order: one for each instruction whose single result is a root.
abbrev pub roots : Flow → Layout → List Value
roots g l = roots_at g (in_order l)

-- the roots from a place on
abbrev pub roots_from : Flow → Layout → Place → List Value
roots_from g l p = roots_at g (onward l p.block p.index)

-- the roots from the first place on are all roots of the graph
abbrev pub RootsFromTheStart : Type 0
RootsFromTheStart = (g : Flow) (l : Layout) → roots_from g l (record { block = 0; index = 0 }) ≡ roots g l
