-- A walk under way: what a turn of it finds on the stack and in the marks, and how far it comes. Assumes nothing.
use Rattle.std.specs.Prelude.{◌≡◌, ℕ, suc, ◌+◌, ◌*◌, ◌<◌, ◌≤◌, true, List, [], ◌∷◌, ◌++◌, length, reverse, Ok, Err, Result}
use Rattle.std.specs.List.{AllByRecursion as Each}
use Rattle.flow.specs.Meaning.{Flow, Lawful, uses, live, has}
use Rattle.flow.specs.Walk.{walk_from, walk, operand_count}
use Rattle.walk.specs.Marks.{marked}
use Rattle.walk.specs.Outcome.{Completed, Stopped}
use Rattle.walk.specs.declared.root.Progress.{Progress}
use Rattle.walk.specs.declared.root.Progress.TheVariants.{Done, Full}
use Rattle.walk.specs.declared.stack.StackEntry.{StackEntry}
use Rattle.walk.specs.declared.stack.StackEntry.TheVariants.{Visit, Trace}

-- What is shown once the entries of the stack are done with.
abbrev pub run : Flow → List StackEntry → List ℕ → List ℕ
run g [] shown = shown
run g (Visit v ∷ st) shown = run g st (shown ++ (v.0 ∷ []))
run g (Trace v ∷ st) shown = run g st (walk_from g v.0 shown)

abbrev pub value_of : StackEntry → ℕ
value_of (Visit v) = v.0
value_of (Trace v) = v.0

abbrev pub traces : List StackEntry → ℕ
traces [] = 0
traces (Visit v ∷ st) = traces st
traces (Trace v ∷ st) = suc (traces st)

-- the operands of the values that wait to be shown
abbrev pub owed : Flow → List StackEntry → ℕ
owed g [] = 0
owed g (Visit v ∷ st) = length (uses g v.0) + owed g st
owed g (Trace v ∷ st) = owed g st

-- What one turn of the walk finds, the top of the stack first.
pub record Turn (g : Flow) (root : ℕ) (marks : List ℕ) (st : List StackEntry) (steps : ℕ) (Fits : List ℕ → Type 0) : Type 0 where
  pub lawful : Lawful g
  pub alive : live g root ≡ true
  pub shown : List ℕ
  pub comes : run g st shown ≡ walk g root
  pub counted : steps + traces st ≡ 1 + (length shown + operand_count g shown) + owed g st
  pub room : length marks ≡ 1024
  -- the values shown are marked
  pub met : (v : ℕ) → v < 1024 → marked marks v ≡ has shown v
  pub waiting : Each (λ e. live g (value_of e) ≡ true) st
  pub fits : Fits shown

-- The same with the entries as a stack has them, the top last. Each of them is a step to come.
pub record Walking (g : Flow) (root : ℕ) (marks : List ℕ) (items : List StackEntry) (steps : ℕ) (Fits : List ℕ → Type 0) : Type 0 where
  pub turn : Turn g root marks (reverse items) steps Fits
  pub few : steps + length items ≤ 1 + 4 * length g

-- How far a walk came over a stack of so many places: to the end, or to a stack that may have no place for what one value more adds.
abbrev pub Came : (g : Flow) (root cap : ℕ) (Fits : List ℕ → Type 0) (marks : List ℕ) (items : List StackEntry) → Progress → Type 0
Came g root cap Fits marks items (Done steps) = Completed g root Fits steps
Came g root cap Fits marks items (Full steps) = Walking g root marks items steps Fits × (cap < 4 * length g + 4)

-- The same, or the visitor stopped it.
abbrev pub GoesOn : {S : Type 0} (g : Flow) (root cap : ℕ) (Fits : List ℕ → Type 0) (Stops : List ℕ → S → Type 0) (marks : List ℕ) (items : List StackEntry) → Result Progress S → Type 0
GoesOn g root cap Fits Stops marks items (Ok p) = Came g root cap Fits marks items p
GoesOn g root cap Fits Stops marks items (Err s) = Stopped g root (λ shown. Stops shown s)
