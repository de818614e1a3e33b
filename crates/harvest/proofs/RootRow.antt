-- The row of a root: it has one, and that is the last. Assumes nothing.
use Rattle.std.proofs.Common.{◌≡◌, ℕ, ◌+◌, ◌≤◌, true, false, List, [], ◌∷◌, ◌++◌, length, sym, refl, ap, ◌∙◌, subst, arith, length-append}
use Rattle.std.specs.List.{flat_map}
use Rattle.std.proofs.lemmas.Bool.{both_ways}
use Rattle.std.proofs.lemmas.List.{flat_map_more}
use Rattle.flow.specs.Meaning.{Flow, Reach, here, through, def_of, has, used, uses}
use Rattle.flow.specs.Walk.{walk, PostOrder, Topological}
use Rattle.flow.specs.declared.definition.ValueDef.{ValueDef}
use Rattle.flow.specs.declared.definition.ValueDef.TheVariants.{Constant, Operation, Variable, Deleted}
use Rattle.flow.proofs.Places.{in_has, topological_new}
use Rattle.souper.specs.Translation.{Shape, no_row, rows_as, has_row, row_count_of, row_of, shape, shape_of, translation, value_rows}
use Rattle.souper.proofs.Grows.{start_past, start_push_self}
use Rattle.souper.proofs.Places.{value_length}
use Rattle.harvest.specs.Roots.{ReachesTwo}

-- ---- what uses nothing reaches itself alone

alone : (g : Flow) (v u : ℕ) → uses g v ≡ [] → Reach g v u → v ≡ u
alone g v u none (here e) = e
alone g v u none (through w h r) = absurd (both_ways false refl (subst (λ ws. has ws w ≡ true) none h))

def_has_row : (g : Flow) (v : ℕ) (d : ValueDef) → def_of g v ≡ d → ReachesTwo g v → has_row (shape_of g d) ≡ true
def_has_row g v (Constant z) e two =
    let none : uses g v ≡ [] = ap used e in
    absurd (two.apart (sym (alone g v two.one none two.reaches_one) ∙ alone g v two.other none two.reaches_other))
def_has_row g v (Operation o c args) e two = refl
def_has_row g v Variable e two = refl
def_has_row g v Deleted e two = refl

-- a constant uses nothing, so what reaches two values is none
pub root_has_row : (g : Flow) (v : ℕ) → ReachesTwo g v → has_row (shape g v) ≡ true
root_has_row g v two = def_has_row g v (def_of g v) refl two

-- ---- the root is the last of its walk

counts_one : (g : Flow) (s : Shape) → has_row s ≡ true → 1 ≤ row_count_of g s
counts_one g (no_row z) h = absurd (both_ways false refl h)
counts_one g (rows_as f vs) h = omega arith

last_row : (g : Flow) (us : List ℕ) (v : ℕ) → has us v ≡ false → has_row (shape g v) ≡ true → row_of g (us ++ v ∷ []) v + 1 ≡ length (translation g (us ++ v ∷ []))
unfolding row_of translation
last_row g us v new row =
    let w : List ℕ = us ++ v ∷ [] in
    omega (
      arith,
      start_push_self g us v,
      start_past g (value_rows g w) (value_length g w) us v (λ i. both_ways _ new (in_has us v i)),
      ap length (flat_map_more (value_rows g w) [] us v),
      length-append (flat_map (value_rows g w) us) (value_rows g w v),
      value_length g w v,
      counts_one g (shape g v) row,
    )

pub root_last : (g : Flow) (root : ℕ) → PostOrder g root (walk g root) → Topological g (walk g root) → has_row (shape g root) ≡ true → row_of g (walk g root) root + 1 ≡ length (translation g (walk g root))
root_last g root post order row =
    let us = post.root_last.0 in
    let e = post.root_last.1 in
    subst (λ vs. row_of g vs root + 1 ≡ length (translation g vs)) (sym e) (last_row g us root (topological_new g us root (subst (Topological g) e order)) row)
