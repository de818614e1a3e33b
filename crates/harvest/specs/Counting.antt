-- What the visitor that counts operations has counted. Assumes nothing.
use Rattle.std.specs.Prelude.{◌≡◌, ℕ, ◌+◌, ◌^◌, ◌<◌, List, [], refl}
use Rattle.std.proofs.Common.{sym, add-zero}
use Rattle.flow.specs.Meaning.{Flow}
use Rattle.souper.specs.Counted.{counted}

-- The count rose by the counted operations among the values shown, as far as 32 bits go, and the graph is the same.
pub record CountedMore (g : Flow) (before : ℕ) (shown : List ℕ) (g' : Flow) (after : ℕ) : Type 0 where
  pub same : g' ≡ g
  pub count : before + counted g shown < 2 ^ 32 → after ≡ before + counted g shown

pub counted_none : (g : Flow) (n : ℕ) → CountedMore g n [] g n
counted_none g n = record { same = refl; count = λ _. sym (add-zero n) }
