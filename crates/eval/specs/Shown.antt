-- What the visitors that check inputs and work out numbers know. Assumes nothing.
use Rattle.std.specs.Prelude.{◌≡◌, ℕ, true, false, List, [], Some, slice_index, refl}
use Rattle.std.proofs.lemmas.Bool.{both_ways}
use Rattle.flow.specs.Meaning.{Flow, has}
use Rattle.flow.specs.Number.{number_of}
use Rattle.flow.specs.Walk.{Topological}
use Rattle.eval.specs.Known.{at}
use Rattle.eval.specs.ValueAnswer.{first_trap, inputs_fit}

-- the inputs of the values shown fit; the graph and the inputs are the same
pub record Fitting (g : Flow) (inputs : List ℕ) (shown : List ℕ) (g' : Flow) (inputs' : List ℕ) : Type 0 where
  pub same : g' ≡ g
  pub same_inputs : inputs' ≡ inputs
  pub fit : inputs_fit g inputs shown ≡ true

pub fitting_none : (g : Flow) (inputs : List ℕ) → Fitting g inputs [] g inputs
fitting_none g inputs = record { same = refl; same_inputs = refl; fit = refl }

-- the table has the number of each value shown
abbrev pub Tabled : Flow → List ℕ → List ℕ → List ℕ → Type 0
Tabled g inputs shown numbers = (u : ℕ) → has shown u ≡ true → number_of g (at inputs) u ≡ Some (slice_index numbers u)

-- the same, where the values shown are distinct and live, each behind what it uses; the graph and the inputs are the same
pub record Evaluated (g : Flow) (inputs : List ℕ) (shown : List ℕ) (g' : Flow) (inputs' numbers : List ℕ) : Type 0 where
  pub same : g' ≡ g
  pub same_inputs : inputs' ≡ inputs
  pub tabled : Topological g shown → Tabled g inputs shown numbers

pub evaluated_none : (g : Flow) (inputs numbers : List ℕ) → Evaluated g inputs [] g inputs numbers
evaluated_none g inputs numbers = record { same = refl; same_inputs = refl; tabled = λ order u h. absurd (both_ways false refl h) }

-- of such values v is the first that has no number
abbrev pub TrapsAt : Flow → List ℕ → List ℕ → ℕ → Type 0
TrapsAt g inputs shown v = Topological g shown → first_trap g inputs shown ≡ Some v
