-- The rows in accepted bytes, as many of each kind as the verdict tells. Assumes nothing.
use Rattle.std.proofs.Common.{◌≡◌, ℕ, ◌≤◌, List, [], Ok, Err, Result, MatchResult, refl, sym, ap, ◌∙◌, subst, arith}
use Rattle.std.specs.Result.{result_unwrap_or}
use Rattle.ir.specs.declared.refusal.Refusal.{Refusal}
use Rattle.rows.specs.Meaning.{flow, layout}
use Rattle.rows.specs.Rows.{Rows, empty}
use Rattle.rows.specs.WellFormed.{WellFormed}
use Rattle.rows.proofs.Lawfulness.{empty_well_formed}
use Rattle.records.specs.Faults.{counts_of}
use Rattle.records.specs.RowsOf.{rows_of}
use Rattle.records.specs.declared.check.Counts.{Counts}
use Rattle.image.specs.Graph.{IsEmpty, Means, held}
use Rattle.image.specs.Held.{rows_in}
use Rattle.image.specs.Verdict.{Accepted, StandsFor, Verdict}
use Rattle.image.specs.declared.graph.Image.{Image}
use Rattle.image.proofs.Accepting.{accepted_image, one_verdict}
use Rattle.image.proofs.Fitting.{rows_are}
use Rattle.image.proofs.Held.{num_values, num_insts}

module _ (bs : List ℕ) (n : Counts) (v : Verdict bs (Ok n)) where
  pub accepted_rows : rows_in bs n ≡ rows_of bs
  accepted_rows = ap (rows_in bs) v.1 ∙ sym (rows_are bs (accepted_image bs v.0).0)

  pub accepted_well_formed : WellFormed (rows_in bs n)
  accepted_well_formed = subst WellFormed (sym accepted_rows) (accepted_image bs v.0).1

  pub few_values : n.values ≤ 1024
  few_values = omega (arith, num_values bs n, accepted_well_formed.0.0.0)

  pub few_insts : n.insts ≤ 1024
  few_insts = omega (arith, num_insts bs n, accepted_well_formed.0.0.1)

  pub few_blocks : (rows_in bs n).blocks ≤ 64
  few_blocks = accepted_well_formed.0.0.2

-- no records, no rows
abbrev pub nothing : Counts
nothing = record { values = 0; insts = 0 }

pub nothing_held : rows_in [] nothing ≡ empty
unfolding rows_in
nothing_held = refl

pub nothing_blocks : 0 ≡ (rows_in [] nothing).blocks
nothing_blocks = ap (λ (p : Rows). p.blocks) (sym nothing_held)

pub nothing_well_formed : WellFormed (rows_in [] nothing)
nothing_well_formed = subst WellFormed (sym nothing_held) empty_well_formed

-- ---- all bytes

-- the graph of accepted bytes, or one with no rows
stands_for : (bs : List ℕ) (r : Result Image Refusal) (none : Image) → held none ≡ empty
    → MatchResult r (λ image. Accepted bs × (held image ≡ rows_of bs)) (λ why. Verdict bs (Err why)) → StandsFor bs (held (result_unwrap_or r none))
stands_for bs (Ok image) none e m = record { accepted = λ a. m.1; refused = λ not. absurd (not m.0) }
stands_for bs (Err why) none e m =
    record {
      accepted = λ a. let z = one_verdict bs (Ok (counts_of bs)) (Err why) (a, refl) m in let no : ⊥ = cc in absurd no;
      refused = λ not. e;
    }

pub stands : (bs : List ℕ) (r : Result Image Refusal) (none image : Image) → image ≡ result_unwrap_or r none → held none ≡ empty
    → MatchResult r (λ image. Accepted bs × (held image ≡ rows_of bs)) (λ why. Verdict bs (Err why)) → StandsFor bs (held image)
stands bs r none image is e m = subst (λ (x : Image). StandsFor bs (held x)) (sym is) (stands_for bs r none e m)

empty_flow : flow empty ≡ []
unfolding flow
empty_flow = refl

empty_insts : (layout empty).insts ≡ []
unfolding layout
empty_insts = refl

empty_blocks : (layout empty).num_blocks ≡ 0
unfolding layout
empty_blocks = refl

-- what stands for bytes means the graph that they mean
pub means : (bs : List ℕ) (p : Rows) → StandsFor bs p → Means bs (flow p) (layout p)
means bs p s =
    record {
      flow_graph = λ a. ap flow (s.accepted a);
      laid_out = λ a. ap layout (s.accepted a);
      refused = λ not.
          subst (λ (q : Rows). IsEmpty (flow q) (layout q)) (sym (s.refused not))
          (record { no_values = empty_flow; no_insts = empty_insts; no_blocks = empty_blocks });
    }
