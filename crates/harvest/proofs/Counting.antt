-- One value more for the visitor that counts. Assumes nothing.
use Rattle.std.proofs.Common.{◌≡◌, ℕ, ◌+◌, ◌^◌, ◌<◌, ◌≤◌, Bool, true, false, List, [], ◌∷◌, ◌++◌, length, ap, ◌∙◌, zero-add, arith}
use Rattle.ir.specs.Bitvectors.{truth}
use Rattle.flow.specs.Meaning.{Flow, Lawful, live}
use Rattle.flow.specs.Walk.{walk}
use Rattle.flow.proofs.Walks.{walk_short}
use Rattle.souper.specs.Counted.{is_counted, counted}
use Rattle.souper.specs.Translation.{shape}
use Rattle.harvest.specs.Counting.{CountedMore}

counted_push : (g : Flow) (vs : List ℕ) (v : ℕ) → counted g (vs ++ (v ∷ [])) ≡ counted g vs + truth (is_counted (shape g v))
counted_push g [] v = omega arith
counted_push g (x ∷ vs) v = omega (arith, counted_push g vs v)

pub counted_more : (g g' : Flow) (before n after v : ℕ) (shown : List ℕ) (b : Bool) → b ≡ is_counted (shape g' v) → CountedMore g before shown g' n
    → (n + truth b < 2 ^ 32 → after ≡ n + truth b) → CountedMore g before (shown ++ (v ∷ [])) g' after
counted_more g g' before n after v shown b is c next =
    let same : truth b ≡ truth (is_counted (shape g v)) = ap truth (is ∙ ap (λ (h : Flow). is_counted (shape h v)) c.same) in
    let more = counted_push g shown v in
    record {
      same = c.same;
      count = λ small. let now' : n ≡ before + counted g shown = c.count (omega arith) in next (omega arith) ∙ omega arith;
    }

few_one : (b : Bool) → truth b ≤ 1
few_one true = omega arith
few_one false = omega arith

pub counted_few : (g : Flow) (vs : List ℕ) → counted g vs ≤ length vs
counted_few g [] = omega arith
counted_few g (v ∷ vs) = omega (arith, counted_few g vs, few_one (is_counted (shape g v)))

-- what a counter has counted once it was shown a whole walk
pub all_counted : (g : Flow) → Lawful g → (root : ℕ) → live g root ≡ true → (g' : Flow) (n : ℕ) → CountedMore g 0 (walk g root) g' n → n ≡ counted g (walk g root)
all_counted g lawful root alive g' n c =
    c.count (omega (arith, (walk_short g lawful root alive).0, counted_few g (walk g root))) ∙ zero-add (counted g (walk g root))
