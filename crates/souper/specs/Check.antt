-- The width check, as a test: the first row that breaks a rule. Assumes nothing.
use Rattle.std.specs.Prelude.{ℕ, suc, min, Bool, true, false, cond, ◌&&◌, List, [], ◌∷◌, Some, None, Ok, Err, Option, Result, ◌==◌, nat_lt}
use Rattle.ir.specs.declared.refusal.Refusal.{Refusal}
use Rattle.ir.specs.declared.refusal.Cause.TheVariants.{WidthCheck}
use Rattle.flow.specs.Meaning.{is_type}
use Rattle.souper.specs.Rows.{operand_width, row_at}
use Rattle.souper.specs.Words.{kind_of}
use Rattle.souper.specs.declared.kind.Kind.{Kind}
use Rattle.souper.specs.declared.kind.Kind.TheVariants as kind
use Rattle.souper.specs.declared.rows.Operand.{Operand}
use Rattle.souper.specs.declared.rows.Operand.TheVariants as operand
use Rattle.souper.specs.declared.rows.Row.{Row}
use Rattle.souper.specs.declared.rows.RowOperands.{RowOperands}
use Rattle.souper.specs.declared.rows.RowOperands.TheVariants.{Empty, One, Two, Three}

-- ---- each rule of `Widths` as a test

abbrev pub has_width : List Row → ℕ → Operand → Bool
has_width rows w (operand.Row r) = (row_at rows r).width == w
has_width rows w (operand.Constant v z) = v == w
has_width rows w operand.Zero = false

abbrev pub has_width_or_zero : List Row → ℕ → Operand → Bool
has_width_or_zero rows w (operand.Row r) = (row_at rows r).width == w
has_width_or_zero rows w (operand.Constant v z) = v == w
has_width_or_zero rows w operand.Zero = true

abbrev pub kind_fits : List Row → ℕ → Kind → RowOperands → Bool
kind_fits rows w kind.Variable Empty = true
kind_fits rows w kind.Unary (One x) = has_width rows w x
kind_fits rows w kind.Binary (Two x y) = has_width rows w x && has_width rows w y
kind_fits rows w kind.Comparison (Two x y) = w == 1 && (has_width rows (operand_width rows x) x && has_width rows (operand_width rows x) y)
kind_fits rows w kind.Inequality (Two x y) = w == 1 && (has_width rows (operand_width rows x) x && has_width_or_zero rows (operand_width rows x) y)
kind_fits rows w kind.Choice (Three x y z) = has_width rows 1 x && (has_width rows w y && has_width rows w z)
kind_fits rows w kind.Extension (One x) = nat_lt (operand_width rows x) w && has_width rows (operand_width rows x) x
kind_fits rows w k xs = false

abbrev pub is_earlier : ℕ → Operand → Bool
is_earlier r (operand.Row s) = nat_lt s r
is_earlier r (operand.Constant w z) = is_type w
is_earlier r operand.Zero = true

abbrev pub are_earlier : ℕ → RowOperands → Bool
are_earlier r Empty = true
are_earlier r (One x) = is_earlier r x
are_earlier r (Two x y) = is_earlier r x && is_earlier r y
are_earlier r (Three x y z) = is_earlier r x && (is_earlier r y && is_earlier r z)

abbrev pub row_fits : List Row → ℕ → Row → Bool
row_fits rows r row = is_type row.width && (are_earlier r row.operands && kind_fits rows row.width (kind_of row.word) row.operands)

-- ---- the check

-- the first row from r on that breaks a rule, where `rest` are the rows from r on
abbrev pub first_bad : List Row → ℕ → List Row → Option ℕ
first_bad rows r [] = None
first_bad rows r (row ∷ rest) = cond (row_fits rows r row) (first_bad rows (suc r) rest) (Some r)

-- the refusal of rows whose first to break a rule is the row r: it names r, as far as 32 bits go
abbrev pub broken_at : ℕ → Refusal
broken_at r = record { cause = WidthCheck; place = min r 4294967295 }

abbrev pub verdict : Option ℕ → Result (Unit {0}) Refusal
verdict None = Ok tt
verdict (Some r) = Err (broken_at r)

abbrev pub width_check : List Row → Result (Unit {0}) Refusal
width_check rows = verdict (first_bad rows 0 rows)
