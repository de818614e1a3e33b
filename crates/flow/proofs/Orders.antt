-- Layout order has each instruction once, by block number and then by instruction number. Assumes nothing.
use Rattle.std.proofs.Common.{◌≡◌, ℕ, zero, suc, ◌+◌, ◌<◌, ◌≤◌, Bool, true, false, cond, eqb, List, [], ◌∷◌, ◌++◌, map, length, get_or, sym, refl, ap, ◌∙◌, subst, inl, inr, ⊎_elim, arith}
use mathlib.Core.List.{map-append}
use Rattle.std.specs.List.{AllByRecursion as All}
use Rattle.std.proofs.ByRecursion.{All-weaker, All-append}
use Rattle.std.proofs.lemmas.Bool.{both_ways, cases_eq, eqb-true, eq-eqb, or_cases, or_right}
use Rattle.flow.specs.Layout.{Layout, InstRow, no_inst, inst_at, in_block, in_blocks, numbers_in, numbers_from, order_of, Before, LayoutOrder}
use Rattle.flow.specs.Meaning.{has}
use Rattle.flow.specs.Walk.{Distinct}
use Rattle.flow.proofs.Among.{has_here, has_append_left, has_append_right, not_has}

all_at : (P : ℕ → Type 0) (xs : List ℕ) (v : ℕ) → All P xs → has xs v ≡ true → P v
all_at P [] v a h = absurd (both_ways false refl h)
all_at P (x ∷ xs) v a h = ⊎_elim (λ e. subst P (eqb-true x v e) a.0) (λ e. all_at P xs v a.1 e) (or_cases _ _ h)

all_get_d : (P : ℕ → Type 0) (xs : List ℕ) (k : ℕ) → All P xs → k < length xs → P (get_or xs k 0)
all_get_d P [] k a lt = absurd (omega arith)
all_get_d P (x ∷ xs) zero a lt = a.0
all_get_d P (x ∷ xs) (suc k) a lt = all_get_d P xs k a.1 (omega arith)

module _ (l : Layout) where
  -- the block of an instruction, by its number
  abbrev block_of : ℕ → ℕ
  block_of i = (inst_at l i).block.0

  -- each number comes before all behind it
  Sorted : List ℕ → Type 0
  Sorted [] = Unit {0}
  Sorted (i ∷ is) = All (Before l i) is × Sorted is

  sorted_append : (is js : List ℕ) → Sorted is → Sorted js → All (λ i. All (Before l i) js) is → Sorted (is ++ js)
  unfolding Sorted
  sorted_append [] js s t a = t
  sorted_append (i ∷ is) js s t a = (All-append (Before l i) is js s.0 a.0, sorted_append is js s.1 t a.1)

  not_itself : (i : ℕ) → Before l i i → ⊥
  not_itself i (inl lt) = omega arith
  not_itself i (inr b) = omega arith

  sorted_once : (is : List ℕ) → Sorted is → Distinct is
  unfolding Sorted
  sorted_once [] s = tt
  sorted_once (i ∷ is) s = (not_has is i (λ h. not_itself i (all_at (Before l i) is i s.0 h)), sorted_once is s.1)

  sorted_at : (is : List ℕ) → Sorted is → (j k : ℕ) → j < k → k < length is → Before l (get_or is j 0) (get_or is k 0)
  unfolding Sorted
  sorted_at [] s j k lt in' = absurd (omega arith)
  sorted_at (i ∷ is) s j zero lt in' = absurd (omega arith)
  sorted_at (i ∷ is) s zero (suc k) lt in' = all_get_d (Before l i) is k s.0 (omega arith)
  sorted_at (i ∷ is) s (suc j) (suc k) lt in' = sorted_at is s.1 j k (omega arith) (omega arith)

  -- ---- one block

  -- xs are the instructions from number i on
  abbrev From : ℕ → List InstRow → Type 0
  From i xs = (k : ℕ) → get_or xs k no_inst ≡ inst_at l (i + k)

  from_next : (i : ℕ) (x : InstRow) (xs : List InstRow) → From i (x ∷ xs) → From (suc i) xs
  from_next i x xs f k = let e : i + suc k ≡ suc i + k = omega arith in f (suc k) ∙ ap (inst_at l) e

  from_first : (i : ℕ) (x : InstRow) (xs : List InstRow) → From i (x ∷ xs) → x ≡ inst_at l i
  from_first i x xs f = let e : i + 0 ≡ i = omega arith in f 0 ∙ ap (inst_at l) e

  module _ (b : ℕ) where
    -- a number of the block b, from i on and below n
    abbrev Inside : ℕ → ℕ → ℕ → Type 0
    Inside i n j = (i ≤ j) × (j < n) × (block_of j ≡ b)

    block_rows : (i : ℕ) (xs : List InstRow) → From i xs → in_block b xs ≡ map (inst_at l) (numbers_in b i xs)
    block_rows i [] f = refl
    block_rows i (x ∷ xs) f = at (eqb x.block.0 b) (block_rows (suc i) xs (from_next i x xs f))
      where
        at : (t : Bool) → in_block b xs ≡ map (inst_at l) (numbers_in b (suc i) xs)
            → cond t (x ∷ in_block b xs) (in_block b xs) ≡ map (inst_at l) (cond t (i ∷ numbers_in b (suc i) xs) (numbers_in b (suc i) xs))
        at true e = λ k. from_first i x xs f k ∷ e k
        at false e = e

    block_inside : (i : ℕ) (xs : List InstRow) → From i xs → All (Inside i (i + length xs)) (numbers_in b i xs)
    block_inside i [] f = tt
    block_inside i (x ∷ xs) f =
        at (eqb x.block.0 b) refl
        (All-weaker (Inside (suc i) (suc i + length xs)) (Inside i (i + suc (length xs))) (λ j p. (omega (arith, p.0), omega (arith, p.1), p.2)) (numbers_in b (suc i) xs) (block_inside (suc i) xs (from_next i x xs f)))
      where
        at : (t : Bool) → eqb x.block.0 b ≡ t → All (Inside i (i + suc (length xs))) (numbers_in b (suc i) xs)
            → All (Inside i (i + suc (length xs))) (cond t (i ∷ numbers_in b (suc i) xs) (numbers_in b (suc i) xs))
        at true e a = ((omega arith, omega arith, sym (ap (λ r. r.block.0) (from_first i x xs f)) ∙ eqb-true x.block.0 b e), a)
        at false e a = a

    block_has : (i : ℕ) (xs : List InstRow) (k : ℕ) → k < length xs → (get_or xs k no_inst).block.0 ≡ b → has (numbers_in b i xs) (i + k) ≡ true
    block_has i [] k lt e = absurd (omega arith)
    block_has i (x ∷ xs) zero lt e =
        let same : i ≡ i + 0 = omega arith in
        subst (λ t. has (cond t (i ∷ numbers_in b (suc i) xs) (numbers_in b (suc i) xs)) (i + 0) ≡ true) (sym (eq-eqb x.block.0 b e))
        (subst (λ j. has (i ∷ numbers_in b (suc i) xs) j ≡ true) same (has_here i (numbers_in b (suc i) xs)))
    block_has i (x ∷ xs) (suc k) lt e =
        let same : suc i + k ≡ i + suc k = omega arith in
        at (eqb x.block.0 b) (subst (λ j. has (numbers_in b (suc i) xs) j ≡ true) same (block_has (suc i) xs k (omega arith) e))
      where
        at : (t : Bool) → has (numbers_in b (suc i) xs) (i + suc k) ≡ true → has (cond t (i ∷ numbers_in b (suc i) xs) (numbers_in b (suc i) xs)) (i + suc k) ≡ true
        at true h = or_right _ _ h
        at false h = h

    block_sorted : (i : ℕ) (xs : List InstRow) → From i xs → Sorted (numbers_in b i xs)
    unfolding Sorted
    block_sorted i [] f = tt
    block_sorted i (x ∷ xs) f =
        at (eqb x.block.0 b) refl (block_sorted (suc i) xs (from_next i x xs f)) (block_inside (suc i) xs (from_next i x xs f))
      where
        at : (t : Bool) → eqb x.block.0 b ≡ t → Sorted (numbers_in b (suc i) xs) → All (Inside (suc i) (suc i + length xs)) (numbers_in b (suc i) xs)
            → Sorted (cond t (i ∷ numbers_in b (suc i) xs) (numbers_in b (suc i) xs))
        at true e s a =
            let own = sym (ap (λ r. r.block.0) (from_first i x xs f)) ∙ eqb-true x.block.0 b e in
            (All-weaker (Inside (suc i) (suc i + length xs)) (Before l i) (λ j p. inr (own ∙ sym p.2, p.0)) (numbers_in b (suc i) xs) a, s)
        at false e s a = s

  -- ---- all blocks

  from_all : From 0 l.insts
  from_all k = let e : k ≡ 0 + k = omega arith in ap (inst_at l) e

  -- a number of an instruction that stands in one of n blocks from block b on
  abbrev Within : ℕ → ℕ → ℕ → Type 0
  Within b n j = (b ≤ block_of j) × (block_of j < b + n) × (j < length l.insts)

  blocks_rows : (b n : ℕ) → in_blocks l b n ≡ map (inst_at l) (numbers_from l b n)
  blocks_rows b zero = refl
  blocks_rows b (suc n) =
      (λ k. block_rows b 0 l.insts from_all k ++ blocks_rows (suc b) n k) ∙ sym (map-append (inst_at l) (numbers_in b 0 l.insts) (numbers_from l (suc b) n))

  blocks_within : (b n : ℕ) → All (Within b n) (numbers_from l b n)
  blocks_within b zero = tt
  blocks_within b (suc n) =
      All-append (Within b (suc n)) (numbers_in b 0 l.insts) (numbers_from l (suc b) n)
      (All-weaker (Inside b 0 (0 + length l.insts)) (Within b (suc n)) (λ j p. (omega (arith, p.2), omega (arith, p.2), omega (arith, p.1))) (numbers_in b 0 l.insts) (block_inside b 0 l.insts from_all))
      (All-weaker (Within (suc b) n) (Within b (suc n)) (λ j p. (omega (arith, p.0), omega (arith, p.1), p.2)) (numbers_from l (suc b) n) (blocks_within (suc b) n))

  blocks_have : (i b n : ℕ) → i < length l.insts → b ≤ block_of i → block_of i < b + n → has (numbers_from l b n) i ≡ true
  blocks_have i b zero lt low high = absurd (omega arith)
  blocks_have i b (suc n) lt low high =
      let same : 0 + i ≡ i = omega arith in
      ⊎_elim
      (λ e. has_append_left (numbers_in b 0 l.insts) (numbers_from l (suc b) n) i (subst (λ j. has (numbers_in b 0 l.insts) j ≡ true) same (block_has b 0 l.insts i lt e)))
      (λ ne. has_append_right (numbers_in b 0 l.insts) (numbers_from l (suc b) n) i (blocks_have i (suc b) n lt (omega arith) (omega arith)))
      (cases_eq (block_of i) b)

  blocks_sorted : (b n : ℕ) → Sorted (numbers_from l b n)
  unfolding Sorted
  blocks_sorted b zero = tt
  blocks_sorted b (suc n) =
      sorted_append (numbers_in b 0 l.insts) (numbers_from l (suc b) n) (block_sorted b 0 l.insts from_all) (blocks_sorted (suc b) n)
      (All-weaker (Inside b 0 (0 + length l.insts)) (λ i. All (Before l i) (numbers_from l (suc b) n))
      (λ i p. All-weaker (Within (suc b) n) (Before l i) (λ j q. inl (omega (arith, p.2, q.0))) (numbers_from l (suc b) n) (blocks_within (suc b) n))
      (numbers_in b 0 l.insts) (block_inside b 0 l.insts from_all))

pub layout_order : LayoutOrder
layout_order g l lawful =
    let sorted = blocks_sorted l 0 l.num_blocks in
    record {
      rows = blocks_rows l 0 l.num_blocks;
      each = λ i lt. blocks_have l i 0 l.num_blocks lt (omega arith) (omega (arith, lawful.block_exists i lt));
      only = λ i h. (all_at (Within l 0 l.num_blocks) (order_of l) i (blocks_within l 0 l.num_blocks) h).2;
      once = sorted_once l (order_of l) sorted;
      ordered = sorted_at l (order_of l) sorted;
    }
