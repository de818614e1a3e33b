-- The values of a graph's nodes, one after another. Assumes nothing.
use Rattle.std.proofs.Common.{◌≡◌, ℕ, List, [], ◌∷◌, map, Option, refl, ap, subst}
use Rattle.std.specs.List.{range_with_len}
use Rattle.std.proofs.lemmas.Iterator.{YieldsList}
use Rattle.ir.specs.declared.entities.Value.{Value}

map_same : (xs : List ℕ) → map (λ n. n) xs ≡ xs
map_same [] = refl
map_same (x ∷ xs) = ap (λ l. x ∷ l) (map_same xs)

-- what goes through the numbers goes through the values
pub counted : {S : Type 0} {steps : S → Option Value → S → Type 0} {s : S} (size : ℕ) → YieldsList steps (λ v. v.0) s (map (λ n. n) (range_with_len 0 size)) → YieldsList steps (λ v. v.0) s (range_with_len 0 size)
counted {S} {steps} {s} size yields = subst (λ (xs : List ℕ). YieldsList steps (λ v. v.0) s xs) (map_same (range_with_len 0 size)) yields
