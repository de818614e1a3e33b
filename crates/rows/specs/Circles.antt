-- Circles of aliases, and what a row leans on. Assumes nothing.
use Rattle.std.specs.Prelude.{◌≡◌, ℕ, suc, true, ◌↔◌, List, [], ◌∷◌, slice_index_or}
use Rattle.flow.specs.Loops.{Loopless}
use Rattle.flow.specs.Meaning.{NoLoop, used}
use Rattle.rows.specs.Meaning.{flow, inst_def}
use Rattle.rows.specs.Rows.{Rows, value_at, inst_at, is_alias, follow}
use Rattle.rows.specs.WellFormed.{Settled}
use Rattle.rows.specs.declared.value.ValueData.{ValueData}
use Rattle.rows.specs.declared.value.ValueData.TheVariants.{Inst, Param, Alias, Union, Deleted}

-- where an alias leads, as a list: nowhere if the row is none
abbrev pub target_in : ValueData → List ℕ
target_in (Inst ty num inst) = []
target_in (Param ty num block) = []
target_in (Alias ty original) = original.0 ∷ []
target_in (Union ty x y) = []
target_in Deleted = []

abbrev pub alias_targets : Rows → ℕ → List ℕ
alias_targets p v = target_in (value_at p v)

-- a value is in a circle of aliases if they lead back to it
abbrev pub InCircle : List ValueData → ℕ → Type 0
InCircle rows v = (k : ℕ) × (is_alias (slice_index_or rows v Deleted) ≡ true) × (follow rows (suc k) v ≡ v)

-- what a row leans on: an alias on the value that it names, the result of an operation on its operands
abbrev pub leans_in : Rows → ValueData → List ℕ
leans_in p (Inst ty num inst) = used (inst_def (inst_at p inst.0))
leans_in p (Param ty num block) = []
leans_in p (Alias ty original) = original.0 ∷ []
leans_in p (Union ty x y) = []
leans_in p Deleted = []

abbrev pub leans_on : Rows → ℕ → List ℕ
leans_on p v = leans_in p (value_at p v)

-- aliases come to an end exactly if none is in a circle
abbrev pub SettledWithoutCircles : Type 0
SettledWithoutCircles = (rows : List ValueData) → Settled rows ↔ ((v : ℕ) → InCircle rows v → ⊥)

-- no row leans on itself, however many steps on, exactly if aliases come to an end and no value uses itself
abbrev pub NothingLeansOnItself : Type 0
NothingLeansOnItself = (p : Rows) → Loopless (leans_on p) ↔ (Settled p.values × NoLoop (flow p))
