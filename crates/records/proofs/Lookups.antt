-- What look-ups, tests of a few numbers, bytes and codes say. Assumes nothing.
use Rattle.std.proofs.Common.{◌≡◌, ℕ, zero, suc, ◌+◌, ◌-◌, ◌*◌, ◌<◌, ◌≤◌, Bool, true, false, ◌&&◌, ◌||◌, eqb, ltb, List, [], ◌∷◌, map, length, get_or, take, drop, Some, None, Option, Bor, MatchOption, sym, refl, ap, ◌∙◌, arith, mul-zero, mul-suc, add_comm}
use Rattle.std.proofs.lemmas.Bool.{le-ltb, ne_eqb}
use Rattle.std.proofs.lemmas.List.{get_or-drop, get_or-take, drop-drop}
use Rattle.std.specs.List.{list_all, range_with_len, slice_get, zip}
use Rattle.std.specs.Option.{option_map, unwrap_or}
use Rattle.std.specs.Result.{result_unwrap_or}
use Rattle.std.specs.Simd.{first_chunks}
use Rattle.ir.specs.Codes.{known}

-- piece k of the first m pieces of n elements
pub piece_at : {X : Type 0} (n m k : ℕ) (xs : List X) (d : List X) → k < m → get_or (first_chunks n m xs) k d ≡ take n (drop (n * k) xs)
piece_at n zero k xs d l = absurd (omega arith)
piece_at n (suc m) zero xs d l = simp mul-zero
piece_at n (suc m) (suc k) xs d l = piece_at n m k (drop n xs) d (omega arith) ∙ ap (take n) (drop-drop (n * k) n xs ∙ ap (λ i. drop i xs) (add_comm n (n * k) ∙ sym (mul-suc n k)))

pub no_piece : {X : Type 0} (n m k : ℕ) (xs : List X) (d : List X) → m ≤ k → get_or (first_chunks n m xs) k d ≡ d
no_piece n zero k xs d l = refl
no_piece n (suc m) zero xs d l = absurd (omega arith)
no_piece n (suc m) (suc k) xs d l = no_piece n m k (drop n xs) d (omega arith)

-- what stands behind a reference that may be missing
pub now_unwrap_or : {X : Type 0} (o : Option (Bor X)) (b : Bor X) → (unwrap_or o b).now ≡ unwrap_or (option_map (λ x. x.now) o) b.now
now_unwrap_or None b = refl
now_unwrap_or (Some x) b = refl

pub ruleset pieces = (piece_at, no_piece, now_unwrap_or)

-- what is read by the number at a place of a list, d where there is none
pub read_by : {A : Type 0} (f : ℕ → A) (ks : List ℕ) (i : ℕ) (d r : A) (Q : ℕ → Type 0) (o : Option ℕ) → o ≡ slice_get ks i → MatchOption o (r ≡ d) Q → ((k : ℕ) → Q k → r ≡ f k) → r ≡ get_or (map f ks) i d
read_by f [] i d r Q o e h read = rw e at h
read_by f (k ∷ ks) zero d r Q o e h read = read k (rw e at h)
read_by f (k ∷ ks) (suc i) d r Q o e h read = read_by f ks i d r Q o e h read

and_true : (b : Bool) → b && true ≡ b
and_true true = refl
and_true false = refl

-- a test of the first n of three numbers
pub first_of_three : (p : ℕ → Bool) (xs : List ℕ) (n : ℕ) → length xs ≡ 3
    → list_all p (take n xs) ≡ ((ltb n 1 || p (get_or xs 0 0)) && ((ltb n 2 || p (get_or xs 1 0)) && (ltb n 3 || p (get_or xs 2 0))))
first_of_three p [] n e = absurd (omega arith)
first_of_three p (a ∷ []) n e = absurd (omega arith)
first_of_three p (a ∷ b ∷ []) n e = absurd (omega arith)
first_of_three p (a ∷ b ∷ c ∷ []) zero e = refl
first_of_three p (a ∷ b ∷ c ∷ []) (suc zero) e = refl
first_of_three p (a ∷ b ∷ c ∷ []) (suc (suc zero)) e = refl
first_of_three p (a ∷ b ∷ c ∷ []) (suc (suc (suc zero))) e = ap (λ t. p a && (p b && t)) (and_true (p c))
first_of_three p (a ∷ b ∷ c ∷ []) (suc (suc (suc (suc n)))) e =
    let m = suc (suc (suc (suc n))) in
    let one : ltb m 1 ≡ false = le-ltb m 1 (omega arith) in
    let two : ltb m 2 ≡ false = le-ltb m 2 (omega arith) in
    let three : ltb m 3 ≡ false = le-ltb m 3 (omega arith) in
    simp (one, two, three) (ap (λ t. p a && (p b && t)) (and_true (p c)))
first_of_three p (a ∷ b ∷ c ∷ d ∷ xs) n e = absurd (omega arith)

-- a test of the first n of two numbers and their places
pub first_of_two : (p : ℕ × ℕ → Bool) (xs : List ℕ) (n : ℕ) → length xs ≡ 2
    → list_all p (zip (take n xs) (range_with_len 0 2)) ≡ ((eqb n 0 || p (get_or xs 0 0, 0)) && (ltb n 2 || p (get_or xs 1 0, 1)))
first_of_two p [] n e = absurd (omega arith)
first_of_two p (a ∷ []) n e = absurd (omega arith)
first_of_two p (a ∷ b ∷ []) zero e = refl
first_of_two p (a ∷ b ∷ []) (suc zero) e = refl
first_of_two p (a ∷ b ∷ []) (suc (suc zero)) e = ap (λ t. p (a, 0) && t) (and_true (p (b, 1)))
first_of_two p (a ∷ b ∷ []) (suc (suc (suc n))) e =
    let m = suc (suc (suc n)) in
    let some : eqb m 0 ≡ false = ne_eqb m 0 (λ z. absurd (omega arith)) in
    let two : ltb m 2 ≡ false = le-ltb m 2 (omega arith) in
    simp (some, two) (ap (λ t. p (a, 0) && t) (and_true (p (b, 1))))
first_of_two p (a ∷ b ∷ c ∷ xs) n e = absurd (omega arith)

-- a byte of the n bytes from a place on
pub byte_in : (r : List ℕ) (at n : ℕ) (bs : List ℕ) → bs ≡ take (at + n - at) (drop at r) → (i : ℕ) → i < n → get_or bs i 0 ≡ get_or r (at + i) 0
byte_in r at n bs e i l = ap (λ l. get_or l i 0) e ∙ get_or-take (at + n - at) (drop at r) i 0 (omega arith) ∙ get_or-drop at r i 0

-- what a number stands for, or something else where it is unknown
pub known_or : {A : Type 0} (o : Option A) (d : A) → result_unwrap_or (known o) d ≡ unwrap_or o d
known_or None d = refl
known_or (Some x) d = refl
