-- The rules of Souper's width check. Assumes nothing.
use Rattle.std.specs.Prelude.{◌≡◌, ℕ, ◌<◌, T, List, length}
use Rattle.flow.specs.Meaning.{is_type}
use Rattle.souper.specs.Rows.{row_at}
use Rattle.souper.specs.Words.{kind_of}
use Rattle.souper.specs.declared.kind.Kind.{Kind}
use Rattle.souper.specs.declared.kind.Kind.TheVariants as kind
use Rattle.souper.specs.declared.rows.Operand.{Operand}
use Rattle.souper.specs.declared.rows.Operand.TheVariants as operand
use Rattle.souper.specs.declared.rows.Row.{Row}
use Rattle.souper.specs.declared.rows.RowOperands.{RowOperands}
use Rattle.souper.specs.declared.rows.RowOperands.TheVariants.{Empty, One, Two, Three}

-- an operand has the width w
abbrev pub HasWidth : List Row → ℕ → Operand → Type 0
HasWidth rows w (operand.Row r) = (row_at rows r).width ≡ w
HasWidth rows w (operand.Constant v z) = v ≡ w
HasWidth rows w operand.Zero = ⊥

-- an operand has the width w, or is the zero that has none
abbrev pub HasWidthOrZero : List Row → ℕ → Operand → Type 0
HasWidthOrZero rows w (operand.Row r) = (row_at rows r).width ≡ w
HasWidthOrZero rows w (operand.Constant v z) = v ≡ w
HasWidthOrZero rows w operand.Zero = Unit {0}

-- A row of width w has as many operands as its word asks for, of the widths that it asks for. The zero that has no width
-- stands only as the second operand of `ne`.
abbrev pub KindFits : List Row → ℕ → Kind → RowOperands → Type 0
KindFits rows w kind.Variable Empty = Unit {0}
KindFits rows w kind.Unary (One x) = HasWidth rows w x
KindFits rows w kind.Binary (Two x y) = HasWidth rows w x × HasWidth rows w y
KindFits rows w kind.Comparison (Two x y) = (w ≡ 1) × (v : ℕ) × HasWidth rows v x × HasWidth rows v y
KindFits rows w kind.Inequality (Two x y) = (w ≡ 1) × (v : ℕ) × HasWidth rows v x × HasWidthOrZero rows v y
KindFits rows w kind.Choice (Three x y z) = HasWidth rows 1 x × HasWidth rows w y × HasWidth rows w z
KindFits rows w kind.Extension (One x) = (v : ℕ) × (v < w) × HasWidth rows v x
KindFits rows w k xs = ⊥

-- an operand of the row r that is a row is an earlier one, and one that is a constant has the width of a row
abbrev pub Earlier : ℕ → Operand → Type 0
Earlier r (operand.Row s) = s < r
Earlier r (operand.Constant w z) = T (is_type w)
Earlier r operand.Zero = Unit {0}

abbrev pub AllEarlier : ℕ → RowOperands → Type 0
AllEarlier r Empty = Unit {0}
AllEarlier r (One x) = Earlier r x
AllEarlier r (Two x y) = Earlier r x × Earlier r y
AllEarlier r (Three x y z) = Earlier r x × Earlier r y × Earlier r z

-- a row keeps the rules as the row r
pub record RowFits (rows : List Row) (r : ℕ) (row : Row) : Type 0 where
  pub width : T (is_type row.width)
  pub earlier : AllEarlier r row.operands
  pub fits : KindFits rows row.width (kind_of row.word) row.operands

-- each row keeps the rules
abbrev pub WidthsPass : List Row → Type 0
WidthsPass rows = (r : ℕ) → r < length rows → RowFits rows r (row_at rows r)

-- the row r is the first that breaks a rule
pub record FirstToBreak (rows : List Row) (r : ℕ) : Type 0 where
  pub there : r < length rows
  pub breaks : RowFits rows r (row_at rows r) → ⊥
  pub before : (k : ℕ) → k < r → RowFits rows k (row_at rows k)
