-- What goes round in rows, by the graphs of their aliases and uses. Assumes nothing.
use Rattle.std.proofs.Common.{◌≡◌, ℕ, ◌≤◌, ◌⊎◌, Some, None, Option, MatchOption, min, ap, subst, inl, inr, arith}
use Rattle.std.proofs.lemmas.Bool.{cases_lt}
use Rattle.ir.specs.declared.entities.Value.{Value}
use Rattle.flow.specs.Loops.{Path, Loopless}
use Rattle.flow.specs.Meaning.{used, uses}
use Rattle.loops.specs.Digraph.{LowestLoop}
use Rattle.rows.specs.Circles.{alias_targets, leans_on}
use Rattle.rows.specs.Meaning.{flow, def_at}
use Rattle.rows.specs.Rows.{Rows}
use Rattle.rows.proofs.Circles.{circle_path, path_circle}
use Rattle.rows.proofs.Leaning.{uses_are, in_loop_path, path_in_loop, nothing_leans_on_itself}
use Rattle.image.specs.Verdict.{GoesRound, LowestRound, NothingGoesRound}
use Rattle.image.proofs.Accepting.{settled_round}

pub uses_at : (p : Rows) (v : ℕ) → used (def_at p v) ≡ uses (flow p) v
uses_at p v = ap (λ f. f v) (uses_are p)

-- ---- what goes round

module _ (p : Rows) where
  pub none_leaning : Loopless (leans_on p) → NothingGoesRound p
  none_leaning none = let s = (nothing_leans_on_itself p).0 none in settled_round p s.0 s.1

  round_path : (v : ℕ) → GoesRound p v → Path (alias_targets p) v v ⊎ Path (uses (flow p)) v v
  round_path v (inl c) = inl (circle_path p v c)
  round_path v (inr l) = inr (in_loop_path p v l)

  round_above : (v u : ℕ) → ((w : ℕ) → Path (alias_targets p) w w → v ≤ w) → ((w : ℕ) → Path (uses (flow p)) w w → v ≤ w)
      → GoesRound p u → v ≤ u
  round_above v u low lower r = elim (round_path u r) [ inl c ↦ low u c | inr l ↦ lower u l ]

  -- both kinds: the lower of the lowest of each
  pub lower_round : (v w : Value) → LowestLoop (alias_targets p) (Some v) → LowestLoop (uses (flow p)) (Some w) → LowestRound p (min v.0 w.0)
  lower_round v w c l =
      record {
        goes_round =
            elim (cases_lt v.0 w.0) [
              | inl h ↦ subst (GoesRound p) (omega arith) (inl (path_circle p v.0 c.0))
              | inr h ↦ subst (GoesRound p) (omega arith) (inr (path_in_loop p w.0 l.0))
            ];
        lowest = λ u. round_above (min v.0 w.0) u (λ x r. omega (arith, c.1 x r)) (λ x r. omega (arith, l.1 x r));
      }

  -- one kind alone: the lowest of it
  pub alias_round : (v : Value) → LowestLoop (alias_targets p) (Some v) → LowestLoop (uses (flow p)) None → LowestRound p v.0
  alias_round v c none =
      record {
        goes_round = inl (path_circle p v.0 c.0);
        lowest = λ u. round_above v.0 u c.1 (λ x r. absurd (none x r));
      }

  pub use_round : (b : Option Value) → LowestLoop (alias_targets p) None → LowestLoop (uses (flow p)) b
      → MatchOption b (NothingGoesRound p) (λ w. LowestRound p w.0)
  use_round None none nor = λ v r. elim (round_path v r) [ inl c ↦ none v c | inr l ↦ nor v l ]
  use_round (Some w) none l =
      record {
        goes_round = inr (path_in_loop p w.0 l.0);
        lowest = λ u. round_above w.0 u (λ x r. absurd (none x r)) l.1;
      }
