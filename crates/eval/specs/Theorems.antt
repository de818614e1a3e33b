-- What the answers say of the numbers that they stand for. Assumes nothing.
use Rattle.std.specs.Prelude.{◌≡◌, ℕ, ◌<◌, ◌≤◌, true, List, ◌∷◌, ◌++◌, is_some, Some, None, Ok, Err}
use Rattle.flow.specs.Meaning.{Flow, Lawful, has}
use Rattle.flow.specs.Number.{Traps, number_of}
use Rattle.flow.specs.Walk.{walk}
use Rattle.souper.specs.Rows.{row_number}
use Rattle.souper.specs.declared.rows.Row.{Row}
use Rattle.eval.specs.Known.{at}
use Rattle.eval.specs.RowAnswer.{row_answer, undefined_at}
use Rattle.eval.specs.ValueAnswer.{trapped_at, value_answer}

-- a number that is answered for a value is the value's
abbrev pub AnsweredNumbers : Type 0
AnsweredNumbers = (g : Flow) → Lawful g → (inputs : List ℕ) (v room n : ℕ) → value_answer g inputs v room ≡ Ok n → number_of g (at inputs) v ≡ Some n

-- w is the first value of the walk of v whose operation traps: each value before it has a number
pub record FirstTrap (g : Flow) (inputs : ℕ → ℕ) (v w : ℕ) : Type 0 where
  pub front : List ℕ
  pub rest : List ℕ
  pub place : walk g v ≡ front ++ w ∷ rest
  pub traps : Traps g inputs w
  pub before : (u : ℕ) → has front u ≡ true → is_some (number_of g inputs u) ≡ true

-- a trap that is answered is the first
abbrev pub AnsweredTraps : Type 0
AnsweredTraps = (g : Flow) → Lawful g → (inputs : List ℕ) (v room w : ℕ) → value_answer g inputs v room ≡ Err (trapped_at w) → FirstTrap g (at inputs) v w

-- a number that is answered for a row is the row's
abbrev pub AnsweredRowNumbers : Type 0
AnsweredRowNumbers = (rows : List Row) (inputs : List ℕ) (r n : ℕ) → row_answer rows inputs r ≡ Ok n → row_number rows (at inputs) r ≡ Some n

-- k is the first undefined row, and no later one than r
pub record FirstUndefined (rows : List Row) (inputs : ℕ → ℕ) (r k : ℕ) : Type 0 where
  pub upto : k ≤ r
  pub none : row_number rows inputs k ≡ None
  pub before : (j : ℕ) → j < k → is_some (row_number rows inputs j) ≡ true

-- an undefined row that is answered is the first
abbrev pub AnsweredUndefined : Type 0
AnsweredUndefined = (rows : List Row) (inputs : List ℕ) (r k : ℕ) → row_answer rows inputs r ≡ Err (undefined_at k) → FirstUndefined rows (at inputs) r k
