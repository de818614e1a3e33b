-- The number of a value, from a number for each variable's original.
-- Assumes nothing.
use Rattle.std.specs.Prelude.{◌≡◌, ℕ, ◌^◌, ◌<◌, true, ◌↔◌, List, map, length, Some, None, Option, slice_index}
use Rattle.ir.specs.Bitvectors.{unsigned}
use Rattle.ir.specs.Entities.{values}
use Rattle.ir.specs.Operations.{compute}
use Rattle.ir.specs.declared.condcodes.IntCC.{IntCC}
use Rattle.ir.specs.declared.instructions.Operands.{Operands}
use Rattle.ir.specs.declared.opcodes.Opcode.{Opcode}
use Rattle.ir.specs.Options.{and_then}
use Rattle.flow.specs.Rounds.{all_of, Step, rounds}
use Rattle.flow.specs.Meaning.{Flow, Lawful, Node, Reach, node, width_of, original_of, def_of, live}
use Rattle.flow.specs.declared.definition.ValueDef.{ValueDef}
use Rattle.flow.specs.declared.definition.ValueDef.TheVariants.{Constant, Operation, Variable, Deleted}

-- the number of a definition, from the numbers of its operands: an immediate is read modulo 2 ^ width
abbrev pub def_number : Flow → (ℕ → ℕ) → (ℕ → Option ℕ) → Node → ValueDef → Option ℕ
def_number g inputs number d (Constant z) = Some (unsigned d.width z)
def_number g inputs number d (Operation o cc args) = and_then (all_of (map number (values args))) (compute o cc d.width (width_of g (slice_index (values args) 0)))
def_number g inputs number d Variable = Some (inputs d.original)
def_number g inputs number d Deleted = None

-- the number of a value, from the numbers of the values that it uses
unfoldable pub value_step : Flow → (ℕ → ℕ) → Step
value_step g inputs number v = def_number g inputs number (node g v) (def_of g v)

-- The number of a value: none where an operation that it reaches traps (`NoneWhereTrapped`).
-- As many rounds as there are values suffice (`NumberUnfolds`).
unfoldable pub number_of : Flow → (ℕ → ℕ) → ℕ → Option ℕ
number_of g inputs = rounds (value_step g inputs) (length g)

-- each variable's original is given a number of its width
abbrev pub InputsFit : Flow → (ℕ → ℕ) → Type 0
InputsFit g inputs = (v : ℕ) → def_of g v ≡ Variable → inputs (original_of g v) < 2 ^ width_of g v

abbrev pub NumbersInRange : Type 0
NumbersInRange = (g : Flow) (inputs : ℕ → ℕ) → Lawful g → InputsFit g inputs → (v n : ℕ) → number_of g inputs v ≡ Some n → n < 2 ^ width_of g v

-- the number of a value follows from those of the values that it uses, in every graph
abbrev pub NumberUnfolds : Type 0
NumberUnfolds = (g : Flow) (inputs : ℕ → ℕ) (v : ℕ) → number_of g inputs v ≡ def_number g inputs (number_of g inputs) (node g v) (def_of g v)

-- ---- values with no number

-- The operation that defines w traps: each operand has a number, and of these numbers nothing is computed.
pub record Traps (g : Flow) (inputs : ℕ → ℕ) (w : ℕ) : Type 0 where
  pub opcode : Opcode
  pub condition : IntCC
  pub args : Operands
  pub numbers : List ℕ
  pub operation : def_of g w ≡ Operation opcode condition args
  pub given : all_of (map (number_of g inputs) (values args)) ≡ Some numbers
  pub nothing : compute opcode condition (width_of g w) (width_of g (slice_index (values args) 0)) numbers ≡ None

-- a live value has no number exactly where an operation that it reaches traps
abbrev pub NoneWhereTrapped : Type 0
NoneWhereTrapped = (g : Flow) (inputs : ℕ → ℕ) → Lawful g → (v : ℕ) → live g v ≡ true → (number_of g inputs v ≡ None) ↔ ((w : ℕ) × Reach g v w × Traps g inputs w)
