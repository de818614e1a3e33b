-- The harvest of a graph is the list of its candidates.
use Rattle.std.specs.Prelude.{◌≡◌, List, [], ◌∷◌, map, vec_items}
use Rattle.std.specs.List.{AllByRecursion}
use Rattle.std.proofs.Common.{refl}
use Rattle.flow.specs.Meaning.{Flow}
use Rattle.rows.specs.Meaning.{flow}
use Rattle.harvest.specs.Written.{LhsOf}
use Rattle.harvest.specs.declared.harvest.Lhs.{Lhs}
use Rattle.examples.specs.Candidates.{candidate_at, expected_of, HarvestIsListed}

-- one candidate of a harvest is what its root gives
one : (g : Flow) (lhs : Lhs) → LhsOf g lhs.root.0 (vec_items lhs.rows) lhs.counted lhs.steps → expected_of g lhs ≡ candidate_at g lhs.root
one g lhs h = rw h.translated (rw h.operations_of_walk (rw h.steps_of_walk refl))

-- and so are all
each : (g : Flow) (all : List Lhs) → AllByRecursion (λ (lhs : Lhs). LhsOf g lhs.root.0 (vec_items lhs.rows) lhs.counted lhs.steps) all
    → map (expected_of g) all ≡ map (candidate_at g) (map (λ (lhs : Lhs). lhs.root) all)
each g [] h = refl
each g (lhs ∷ all) h = rw (one g lhs h.0) (rw (each g all h.1) refl)

pub harvest_is_listed : HarvestIsListed
harvest_is_listed p all h = rw (each (flow p) all h.each) (rw h.order refl)
