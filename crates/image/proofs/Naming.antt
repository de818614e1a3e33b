-- How many blocks rows name. Assumes nothing.
use Rattle.std.proofs.Common.{◌≡◌, ℕ, zero, suc, ◌<◌, ◌≤◌, max, List, [], ◌∷◌, ◌++◌, map, length, get_or, refl, ap, ◌∙◌, arith}
use Rattle.std.proofs.lemmas.List.{get_or-map, length-map}
use Rattle.std.proofs.lemmas.List.FromFn.{fill_by_all}
use Rattle.std.specs.List.{fold, range_with_len, reduce}
use Rattle.std.specs.Option.{unwrap_or}
use Rattle.records.specs.RowsOf.{blocks_for, blocks_in, most}
use Rattle.records.specs.declared.check.Counts.{Counts}
use Rattle.image.specs.Held.{rows_in}

fold_max : (ns : List ℕ) (m : ℕ) → fold max m ns ≡ max m (most ns)
fold_max [] m = omega arith
fold_max (n ∷ ns) m = fold_max ns (max m n) ∙ omega arith

pub most_reduce : (ns : List ℕ) → unwrap_or (reduce max ns) 0 ≡ most ns
most_reduce [] = refl
most_reduce (n ∷ ns) = fold_max ns n

pub most_append : (ms ns : List ℕ) → most (ms ++ ns) ≡ max (most ms) (most ns)
most_append [] ns = omega arith
most_append (m ∷ ms) ns = ap (max m) (most_append ms ns) ∙ omega arith

-- what f makes of each row, by the rows' numbers
pub by_number : {X : Type 0} (f : X → ℕ) (xs : List X) (n : ℕ) (d : X) → length xs ≡ n → map f xs ≡ map (λ k. f (get_or xs k d)) (range_with_len 0 n)
by_number f xs n d e =
    fill_by_all (λ k. f (get_or xs k d)) (map f xs) n 0 (omega (arith, length-map xs f)) (λ k l. get_or-map f xs k d 0 (omega arith))

pub blocks_are : (bs : List ℕ) (n : Counts) → (rows_in bs n).blocks ≡ max (most (map blocks_in (rows_in bs n).values)) (most (map blocks_for (rows_in bs n).insts))
unfolding rows_in
blocks_are bs n = refl

-- ---- most of the numbers that f makes of a list: no less than any of them, and no more than what none of them is more than

pub most_has : {X : Type 0} (f : X → ℕ) (xs : List X) (k : ℕ) (d : X) → k < length xs → f (get_or xs k d) ≤ most (map f xs)
most_has f [] k d l = absurd (omega arith)
most_has f (x ∷ xs) zero d l = omega arith
most_has f (x ∷ xs) (suc k) d l = omega (arith, most_has f xs k d (omega arith))

pub most_within : {X : Type 0} (f : X → ℕ) (xs : List X) (m : ℕ) (d : X) → ((k : ℕ) → k < length xs → f (get_or xs k d) ≤ m) → most (map f xs) ≤ m
most_within f [] m d all = omega arith
most_within f (x ∷ xs) m d all = omega (arith, all 0 (omega arith), most_within f xs m d (λ k l. all (suc k) (omega arith)))
