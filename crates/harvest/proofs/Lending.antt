-- What is written over the first rows of a table is written over the table. Assumes nothing.
use Rattle.std.proofs.Common.{◌≡◌, ◌≤◌, List, ◌++◌, length, take, drop, Some, None, Ok, Option, MatchOption, sym, ap, ◌∙◌, append_assoc, arith}
use Rattle.std.proofs.lemmas.List.{drop-append-le, length-take-le, take-append-drop}
use Rattle.ir.specs.declared.entities.Value.{Value}
use Rattle.flow.specs.Layout.{Layout}
use Rattle.flow.specs.Meaning.{Flow}
use Rattle.flow.specs.Walk.{walk}
use Rattle.souper.specs.Translation.{translation}
use Rattle.souper.specs.declared.rows.Row.{Row}
use Rattle.harvest.specs.Candidates.{NextFrom}
use Rattle.harvest.specs.Written.{OneValue, WrittenOf}
use Rattle.harvest.specs.declared.candidate.Candidate.{Candidate}
use Rattle.harvest.specs.declared.place.Place.{Place}
use Rattle.harvest.specs.declared.written.Written.{Written}

module _ (front rows : List Row) (is : front ≡ take 2048 rows) (room : 2048 ≤ length rows) where
  back : front ++ drop 2048 rows ≡ rows
  back = ap (λ xs. xs ++ drop 2048 rows) is ∙ take-append-drop 2048 rows

  pub written_over : (g : Flow) (after : List Row) (w : Written) → WrittenOf g front after w → WrittenOf g rows (after ++ drop 2048 rows) w
  written_over g after w is' = record {
    count = is'.count;
    few = is'.few;
    table =
        ap (λ xs. xs ++ drop 2048 rows) is'.table ∙ append_assoc (translation g (walk g w.root.0)) (drop w.rows front) (drop 2048 rows)
        ∙ ap (λ xs. translation g (walk g w.root.0) ++ xs) (sym (drop-append-le w.rows front (drop 2048 rows) few) ∙ ap (drop w.rows) back);
    lhs = is'.lhs;
  }
    where
      few : w.rows ≤ length front
      few = omega (arith, is'.few, ap length is, length-take-le 2048 rows room)

  pub one_over : (g : Flow) (v : Value) (after : List Row) (r : Option Written) → OneValue g v front after (Ok r) → OneValue g v rows (after ++ drop 2048 rows) (Ok r)
  one_over g v after None a = (a.0, ap (λ xs. xs ++ drop 2048 rows) a.1 ∙ back)
  one_over g v after (Some w) a = (a.0, a.1, written_over g after w a.2)

  pub next_over : (g : Flow) (l : Layout) (from : Place) (after : List Row) (r : Option Candidate) → NextFrom g l from front after (Ok r) → NextFrom g l from rows (after ++ drop 2048 rows) (Ok r)
  next_over g l from after None a = (a.0, ap (λ xs. xs ++ drop 2048 rows) a.1 ∙ back)
  next_over g l from after (Some c) a = (a.0, written_over g after c.written a.1)

  pub value_over : (g : Flow) (v : Value) (after : List Row) (r : Option Written) → MatchOption r ⊥ (λ w. (w.root ≡ v) × WrittenOf g front after w)
      → MatchOption r ⊥ (λ w. (w.root ≡ v) × WrittenOf g rows (after ++ drop 2048 rows) w)
  value_over g v after None a = a
  value_over g v after (Some w) a = (a.0, written_over g after w a.1)
