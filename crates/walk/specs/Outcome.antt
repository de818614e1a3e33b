-- What a walk answers. Assumes nothing.
use Rattle.std.specs.Prelude.{◌≡◌, ℕ, ◌<◌, true, false, ◌⊎◌, List, ◌++◌, Ok, Err, Result}
use Rattle.flow.specs.Meaning.{Flow, live}
use Rattle.flow.specs.Walk.{walk, step_count, PostOrder}
use Rattle.walk.specs.declared.dfs.WalkError.{WalkError}
use Rattle.walk.specs.declared.dfs.WalkError.TheVariants as errors

-- The walk of root was shown to the end, in so many steps. Fits says which values the visitor, as it is left, was shown.
pub record Completed (g : Flow) (root : ℕ) (Fits : List ℕ → Type 0) (steps : ℕ) : Type 0 where
  pub alive : live g root ≡ true
  pub counted : steps ≡ step_count g root
  pub shown : Fits (walk g root)
  pub order : PostOrder g root (walk g root)

-- The walk of root was stopped once the values in front were shown. Stops says at which values the visitor, as it is left, stopped.
pub record Stopped (g : Flow) (root : ℕ) (Stops : List ℕ → Type 0) : Type 0 where
  pub alive : live g root ≡ true
  pub front : List ℕ
  pub rest : List ℕ
  pub parts : walk g root ≡ front ++ rest
  pub stops : Stops front
  pub order : PostOrder g root (walk g root)

-- What the walk of a live root answers: it was shown to the end, or the visitor stopped it.
abbrev pub Ended : {S : Type 0} (g : Flow) (root : ℕ) (Fits : List ℕ → Type 0) (Stops : List ℕ → S → Type 0) → Result ℕ S → Type 0
Ended g root Fits Stops (Ok steps) = Completed g root Fits steps
Ended g root Fits Stops (Err s) = Stopped g root (λ shown. Stops shown s)

-- What a walk answers, over room for so many marks: a refusal has one of two causes.
abbrev pub Walked : {S : Type 0} (g : Flow) (root room : ℕ) (Fits : List ℕ → Type 0) (Stops : List ℕ → S → Type 0) → Result ℕ (WalkError S) → Type 0
Walked g root room Fits Stops (Ok steps) = Completed g root Fits steps
Walked g root room Fits Stops (Err (errors.Refused why)) = (room < 1024) ⊎ (live g root ≡ false)
Walked g root room Fits Stops (Err (errors.Stopped s)) = Stopped g root (λ shown. Stops shown s)
