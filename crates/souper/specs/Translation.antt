-- The rows of a walk: each value's word over its operands, and a helper before it where it needs one. Assumes nothing.
use Rattle.std.specs.Prelude.{ℕ, ◌+◌, ◌-◌, Bool, true, false, cond, List, [], ◌∷◌, map, length, ℤ, pos, negsuc, Some, None, Option, ◌==◌, slice_index}
use Rattle.std.specs.List.{flat_map}
use Rattle.ir.specs.Codes.{opcode_word, intcc_word}
use Rattle.ir.specs.Entities.{values}
use Rattle.ir.specs.Widths.{is_zero}
use Rattle.ir.specs.declared.condcodes.IntCC.{IntCC}
use Rattle.ir.specs.declared.opcodes.Opcode.{Opcode}
use Rattle.ir.specs.declared.opcodes.Opcode.TheVariants as op
use Rattle.ir.specs.declared.words.Word.{Word}
use Rattle.ir.specs.declared.words.Word.TheVariants.{Xor, Select, Zext, Ne}
use Rattle.flow.specs.Meaning.{Flow, width_of, def_of}
use Rattle.flow.specs.declared.definition.ValueDef.{ValueDef}
use Rattle.flow.specs.declared.definition.ValueDef.TheVariants as def
use Rattle.souper.specs.Rows.{given, variable_of}
use Rattle.souper.specs.declared.form.Form.{Form}
use Rattle.souper.specs.declared.form.Form.TheVariants.{Untranslated, Plain, Inverted, Selected, Compared}
use Rattle.souper.specs.declared.rows.Operand.{Operand}
use Rattle.souper.specs.declared.rows.Operand.TheVariants as operand
use Rattle.souper.specs.declared.rows.Row.{Row}
use Rattle.souper.specs.declared.rows.RowOperands.TheVariants.{One, Two, Three}

-- ---- how an operation is translated

-- where there is no word there is no translation
abbrev pub with_word : (Word → Form) → Option Word → Form
with_word form None = Untranslated
with_word form (Some word) = form word

-- The form of an operation. A comparison is decided by its condition, a shift by whether its two operands have one width.
abbrev pub form_of : Opcode → IntCC → Bool → Form
form_of op.Bnot c same = Inverted
form_of op.Select c same = Selected
form_of op.Icmp c same = with_word Compared (intcc_word c)
form_of op.Ishl c false = Untranslated
form_of op.Sshr c false = Untranslated
form_of op.Ushr c false = Untranslated
form_of o c same = with_word Plain (opcode_word o)

-- the first two operands have one width
abbrev pub same_widths : Flow → List ℕ → Bool
same_widths g [] = false
same_widths g (a ∷ []) = false
same_widths g (a ∷ (b ∷ vs)) = width_of g a == width_of g b

-- the form of a definition: what is no operation has none
abbrev pub def_form : Flow → ValueDef → Form
def_form g (def.Constant z) = Untranslated
def_form g (def.Operation o c args) = form_of o c (same_widths g (values args))
def_form g def.Variable = Untranslated
def_form g def.Deleted = Untranslated

-- what a value's rows are made from: nothing for a constant, else a form with the operands of the operation
pub data Shape : Type 0 where
  no_row : ℤ → Shape
  rows_as : Form → List ℕ → Shape

abbrev pub shape_of : Flow → ValueDef → Shape
shape_of g (def.Constant z) = no_row z
shape_of g (def.Operation o c args) = rows_as (form_of o c (same_widths g (values args))) (values args)
shape_of g def.Variable = rows_as Untranslated []
shape_of g def.Deleted = rows_as Untranslated []

abbrev pub shape : Flow → ℕ → Shape
shape g v = shape_of g (def_of g v)

-- every value but a constant has a row
abbrev pub has_row : Shape → Bool
has_row (no_row z) = false
has_row (rows_as f vs) = true

-- ---- how many rows a value has, and where they stand

-- a select whose condition has a row has a helper before it, one whose condition is a constant has none
abbrev pub condition_helpers : Shape → ℕ
condition_helpers (no_row z) = 0
condition_helpers (rows_as f vs) = 1

abbrev pub helpers : Flow → Form → List ℕ → ℕ
helpers g Untranslated vs = 0
helpers g (Plain word) vs = 0
helpers g Inverted vs = 0
helpers g Selected vs = condition_helpers (shape g (slice_index vs 0))
helpers g (Compared word) vs = 1

abbrev pub row_count_of : Flow → Shape → ℕ
row_count_of g (no_row z) = 0
row_count_of g (rows_as f vs) = helpers g f vs + 1

abbrev pub row_count : Flow → ℕ → ℕ
row_count g v = row_count_of g (shape g v)

-- the row behind those of the values that the walk has before v
unfoldable pub start_of : Flow → List ℕ → ℕ → ℕ
start_of g [] v = 0
start_of g (u ∷ us) v = cond (u == v) 0 (row_count g u + start_of g us v)

-- a value's row is the last of its rows
unfoldable pub row_of : Flow → List ℕ → ℕ → ℕ
unfolding start_of
row_of g walk v = start_of g walk v + row_count g v - 1

-- ---- the rows

-- a value as an operand: a constant itself, any other value by its row r
abbrev pub operand_at : Flow → ℕ → ℕ → Shape → Operand
operand_at g v r (no_row z) = operand.Constant (width_of g v) z
operand_at g v r (rows_as f vs) = operand.Row r

abbrev pub operand_of : Flow → List ℕ → ℕ → Operand
operand_of g walk v = operand_at g v (row_of g walk v) (shape g v)

-- the condition of a select that is a constant: 0 for zero, and else 1, of width 1
abbrev pub condition_of : ℤ → Operand
condition_of z = operand.Constant 1 (cond (is_zero z) (pos 0) (pos 1))

-- the helper of a select: whether the row r is not zero
abbrev pub is_nonzero : ℕ → Row
is_nonzero r = record { width = 1; word = Ne; operands = Two (operand.Row r) operand.Zero }

abbrev pub select_row : ℕ → Operand → Operand → Operand → Row
select_row w condition x y = record { width = w; word = Select; operands = Three condition x y }

-- a select of width w, with the condition a constant, or a row that a helper at the row `start` compares with zero
abbrev pub select_rows : ℕ → ℕ → Operand → Operand → Operand → List Row
select_rows w start (operand.Row r) x y = is_nonzero r ∷ select_row w (operand.Row start) x y ∷ []
select_rows w start (operand.Constant v z) x y = select_row w (condition_of z) x y ∷ []
select_rows w start operand.Zero x y = select_row w (condition_of (pos 0)) x y ∷ []

-- a word over the values vs, in order
abbrev pub word_row : (ℕ → Operand) → ℕ → Word → List ℕ → Row
word_row of w word vs = record { width = w; word = word; operands = given (map of vs) }

-- the rows of a form over the values vs, at a row of width w, from the row `start` on, where `of` gives each value as an operand
abbrev pub form_rows : (ℕ → Operand) → ℕ → ℕ → Form → List ℕ → List Row
form_rows of w start Untranslated vs = variable_of w ∷ []
form_rows of w start (Plain word) vs = word_row of w word vs ∷ []
form_rows of w start Inverted vs = record { width = w; word = Xor; operands = Two (of (slice_index vs 0)) (operand.Constant w (negsuc 0)) } ∷ []
form_rows of w start Selected vs = select_rows w start (of (slice_index vs 0)) (of (slice_index vs 1)) (of (slice_index vs 2))
form_rows of w start (Compared word) vs = word_row of 1 word vs ∷ record { width = w; word = Zext; operands = One (operand.Row start) } ∷ []

-- the rows of a value of width w
abbrev pub shape_rows : (ℕ → Operand) → ℕ → ℕ → Shape → List Row
shape_rows of w start (no_row z) = []
shape_rows of w start (rows_as f vs) = form_rows of w start f vs

abbrev pub value_rows : Flow → List ℕ → ℕ → List Row
value_rows g walk v = shape_rows (operand_of g walk) (width_of g v) (start_of g walk v) (shape g v)

-- the rows of a walk: those of each value, behind those of the values before it
unfoldable pub translation : Flow → List ℕ → List Row
unfolding start_of row_of
translation g walk = flat_map (value_rows g walk) walk

-- the rows that a value adds behind those of a walk
abbrev pub added_rows : Flow → List ℕ → ℕ → Shape → List Row
added_rows g walk v s = shape_rows (operand_of g walk) (width_of g v) (length (translation g walk)) s
