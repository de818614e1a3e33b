-- The rows and counts of a root are what they are to be. Assumes nothing.
use Rattle.std.proofs.Common.{◌≡◌, ℕ, ◌*◌, ◌≤◌, true, List, ◌++◌, length, drop, Err, sym, refl, ap, ◌∙◌, subst, ⊎_elim, arith}
use Rattle.std.proofs.lemmas.Bool.{both_ways}
use Rattle.ir.specs.Bitvectors.{truth}
use Rattle.ir.specs.declared.entities.Value.{Value}
use Rattle.flow.specs.Meaning.{Flow, Lawful, live}
use Rattle.flow.specs.Walk.{walk, step_count, Topological}
use Rattle.flow.proofs.Places.{has_in, in_has, topological_left, topological_ordered, walk_topological}
use Rattle.flow.proofs.Steps.{steps_count, sum_reached}
use Rattle.flow.proofs.Walks.{walk_is_post_order, walk_short}
use Rattle.walk.specs.Outcome.{Walked}
use Rattle.walk.specs.declared.dfs.WalkError.{WalkError}
use Rattle.walk.specs.declared.dfs.WalkError.TheVariants as errors
use Rattle.souper.specs.Check.{width_check}
use Rattle.souper.specs.Counted.{counted, is_counted}
use Rattle.souper.specs.Translation.{shape, translation}
use Rattle.souper.specs.declared.rows.Row.{Row}
use Rattle.souper.proofs.Checks.{check_exact}
use Rattle.souper.proofs.Places.{translation_few}
use Rattle.souper.proofs.Sound.{defined_rows_sound}
use Rattle.souper.proofs.WalkRows.{translation_is_rows_of_walk}
use Rattle.harvest.specs.Translated.{NeverFull, Translates}
use Rattle.harvest.specs.Written.{LhsOf, RowsSound, WrittenOf}
use Rattle.harvest.proofs.ReadInputs.{numbers_agree, within, within_fits, within_same}
use Rattle.harvest.proofs.RootRow.{root_has_row, root_last}

module _ (g : Flow) (lawful : Lawful g) (root : ℕ) (alive : live g root ≡ true) where
  order : Topological g (walk g root)
  order = walk_topological g lawful root alive

  rows_sound : RowsSound g root (translation g (walk g root))
  rows_sound originals inputs fit v reached row carry defined =
      let post = walk_is_post_order g lawful root in
      let fitted = within g originals in
      let same = numbers_agree g root originals fitted (within_same g lawful root originals fit) in
      let i = has_in (walk g root) v (post.complete v reached) in
      let s = defined_rows_sound g (walk g root) fitted inputs lawful (topological_ordered g (walk g root) order) (within_fits g lawful originals) v i row (λ u j var le. sym (same u (post.reached u (in_has (walk g root) u j))) ∙ carry u j var le) defined in
      s.1 ∙ sym s.2 ∙ sym (same v reached)

  pub lhs_of : LhsOf g root (translation g (walk g root)) (counted g (walk g root)) (step_count g root)
  lhs_of =
      let rows = translation_is_rows_of_walk g (walk g root) lawful order in
      let post = walk_is_post_order g lawful root in
      record {
        translated = refl;
        reached = λ v. (λ i. post.reached v (in_has (walk g root) v i), λ r. has_in (walk g root) v (post.complete v r));
        rows_of_walk = rows;
        checked = (check_exact (translation g (walk g root)) (width_check (translation g (walk g root))) refl).1 rows.widths;
        sound = rows_sound;
        root_row = root_last g root post order;
        root_has_row = root_has_row g root;
        operations_are = sum_reached (λ v. truth (is_counted (shape g v))) (counted g) refl (λ v vs. refl) g lawful root;
        steps_are = steps_count g lawful root;
        operations_of_walk = refl;
        steps_of_walk = refl;
      }

  -- a walk that is shown to a translator over an empty table with enough rows is shown to its end
  pub no_stop : {S : Type 0} (room : ℕ) (Fits : List ℕ → Type 0) (before : List Row) (e : WalkError S) → 1024 ≤ room → 2 * length g ≤ length before
      → Walked g root room Fits (λ shown s. NeverFull g before 0 shown) (Err e) → ⊥
  no_stop room Fits before (errors.Refused why) enough rows w = ⊎_elim (λ short. omega arith) (λ dead. both_ways _ dead alive) w
  no_stop room Fits before (errors.Stopped s) enough rows w = w.stops refl rows (topological_left g w.front w.rest (subst (Topological g) w.parts order))

  -- what a translator has written once it was shown the whole walk
  pub written_of : (before after table : List Row) (places : List ℕ) (len operations steps : ℕ) (v : Value) → v.0 ≡ root → operations ≡ counted g (walk g root) → steps ≡ step_count g root
      → table ≡ after → Translates g before (walk g root) after places len → WrittenOf g before table (record { root = v; rows = len; counted = operations; steps = steps })
  written_of before after table places len operations steps v is o s same t = record {
    count = t.count ∙ ap (λ n. length (translation g (walk g n))) (sym is);
    few = omega (arith, t.count, translation_few g (walk g root), (walk_short g lawful root alive).0, lawful.few);
    table = same ∙ t.written ∙ ap (λ n. translation g (walk g n) ++ drop len before) (sym is);
    lhs =
        subst (λ n. LhsOf g n (translation g (walk g n)) operations steps) (sym is)
        (subst (λ n. LhsOf g root (translation g (walk g root)) operations n) (sym s) (subst (λ n. LhsOf g root (translation g (walk g root)) n (step_count g root)) (sym o) lhs_of));
  }
