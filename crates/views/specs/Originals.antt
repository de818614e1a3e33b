-- The graph that shows each operand as its original. Assumes nothing.
use Rattle.ir.specs.Entities.{value}
use Rattle.ir.specs.declared.instructions.Operands.{Operands}
use Rattle.ir.specs.declared.instructions.Operands.TheVariants.{Nullary, Unary, Binary, Ternary}
use Rattle.flow.specs.Meaning.{Flow, Node, original_of}
use Rattle.flow.specs.declared.definition.ValueDef.{ValueDef}
use Rattle.flow.specs.declared.definition.ValueDef.TheVariants.{Constant, Operation, Variable, Deleted}
use Rattle.views.specs.Redefined.{redefined}

-- the original of each operand
abbrev pub originals : Flow → Operands → Operands
originals g Nullary = Nullary
originals g (Unary a) = Unary (value (original_of g a.0))
originals g (Binary a b) = Binary (value (original_of g a.0)) (value (original_of g b.0))
originals g (Ternary a b c) = Ternary (value (original_of g a.0)) (value (original_of g b.0)) (value (original_of g c.0))

-- a definition, with the originals of its operands
abbrev pub with_originals : Flow → ValueDef → ValueDef
with_originals g (Constant z) = Constant z
with_originals g (Operation o cc args) = Operation o cc (originals g args)
with_originals g Variable = Variable
with_originals g Deleted = Deleted

-- the definition behind the view
abbrev pub resolved_def : Flow → Node → ValueDef
resolved_def g n = with_originals g n.def

-- the graph with each operand as its original
abbrev pub resolved : Flow → Flow
resolved g = redefined (resolved_def g) g
