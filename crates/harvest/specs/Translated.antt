-- What the visitor that translates means. Assumes nothing.
use Rattle.std.specs.Prelude.{◌≡◌, ℕ, ◌*◌, ◌≤◌, true, false, List, [], ◌++◌, length, drop, slice_index, refl}
use Rattle.std.proofs.Common.{sym, subst}
use Rattle.std.proofs.lemmas.Bool.{both_ways}
use Rattle.flow.specs.Meaning.{Flow, has}
use Rattle.flow.specs.Walk.{Topological}
use Rattle.souper.specs.Translation.{has_row, shape, row_of, translation}
use Rattle.souper.specs.declared.rows.Row.{Row}

-- The rows of the translation of the values shown stand first, in a table whose other rows are as they were before,
-- and `places` has the row of each value shown that has one.
pub record Translates (g : Flow) (before : List Row) (shown : List ℕ) (rows : List Row) (places : List ℕ) (len : ℕ) : Type 0 where
  pub count : len ≡ length (translation g shown)
  pub written : rows ≡ translation g shown ++ drop len before
  pub placed : (u : ℕ) → has shown u ≡ true → has_row (shape g u) ≡ true → slice_index places u ≡ row_of g shown u

-- From an empty table with room for two rows for each value of the graph, distinct live values that each come behind what they use are translated; the graph is the same.
pub record Follows (g : Flow) (before : List Row) (from : ℕ) (shown : List ℕ) (g' : Flow) (rows : List Row) (places : List ℕ) (len : ℕ) : Type 0 where
  pub same : g' ≡ g
  pub translates : from ≡ 0 → 2 * length g ≤ length before → Topological g shown → Translates g before shown rows places len

-- The table is never full at such values.
abbrev pub NeverFull : Flow → List Row → ℕ → List ℕ → Type 0
NeverFull g before from shown = from ≡ 0 → 2 * length g ≤ length before → Topological g shown → ⊥

pub follows_none : (g : Flow) (rows : List Row) (places : List ℕ) (len : ℕ) → Follows g rows len [] g rows places len
unfolding translation
follows_none g rows places len = record {
  same = refl;
  translates = λ none room t. record {
    count = none;
    written = sym (drop_none rows len none);
    placed = λ u h. absurd (both_ways false refl h);
  };
}
  where
    drop_none : (xs : List Row) (n : ℕ) → n ≡ 0 → drop n xs ≡ xs
    drop_none xs n e = subst (λ k. drop k xs ≡ xs) (sym e) refl
