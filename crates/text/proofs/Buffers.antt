-- Bytes put one behind another into a buffer, or into the rest of it.
use Rattle.std.proofs.Common.{◌≡◌, ℕ, suc, ◌+◌, ◌-◌, ◌<◌, ◌≤◌, List, [], ◌∷◌, ◌++◌, length, get_or, take, drop, set, sym, refl, ap, ◌∙◌, add-one, add-zero, append_assoc, arith, length-drop, length-set}
use borrow.Rule.Slice.PartMut.{put_mid}
use Rattle.std.proofs.Math.Seq.{drop-cons}
use Rattle.std.proofs.lemmas.List.{append-nil, drop-drop, drop-set-add, drop-set-lt, drop_all, take-append-drop, take-set-le, take_all, take_more_set}
use Rattle.text.specs.Buffer.{over, put, Cursor}

-- one text behind another
pub put_append : (a b : List ℕ) (c : Cursor) → put (a ++ b) c ≡ put b (put a c)
unfolding put
put_append [] b c = refl
put_append (x ∷ a) b c = put_append a b (c.0 + 1, set c.1 c.0 x)

-- the next byte of a text
pub put_next : (bytes : List ℕ) (i at : ℕ) (was : List ℕ) → i < length bytes → put (drop i bytes) (at, was) ≡ put (drop (i + 1) bytes) (at + 1, set was at (get_or bytes i 0))
unfolding put
put_next bytes i at was h = rw (add-one i) (ap (λ l. put l (at, was)) (drop-cons bytes i 0 h))

-- there is no byte left
pub put_done : (bytes : List ℕ) (i : ℕ) (c : Cursor) → length bytes ≤ i → put (drop i bytes) c ≡ c
unfolding put
put_done bytes i c h = ap (λ l. put l c) (drop_all i bytes h)

-- the place behind a text, whether or not there was room
pub put_place : (bytes : List ℕ) (c : Cursor) → (put bytes c).0 ≡ c.0 + length bytes
unfolding put
put_place [] c = omega arith
put_place (x ∷ bytes) c = put_place bytes (c.0 + 1, set c.1 c.0 x) ∙ omega arith

-- where there is room for a text, it is written over what stood there
put_into : (bytes : List ℕ) (at : ℕ) (was : List ℕ) → at + length bytes ≤ length was → (put bytes (at, was)).1 ≡ take at was ++ over bytes (drop at was)
unfolding put
put_into [] at was room = sym (take-append-drop at was)
put_into (x ∷ bytes) at was room =
    let inside : at < length was = omega arith in
    put_into bytes (at + 1) (set was at x) (omega (arith, length-set was at x))
    ∙ ap (λ l. l ++ over bytes (drop (at + 1) (set was at x))) (take_more_set was at x inside)
    ∙ append_assoc (take at was) (x ∷ []) (over bytes (drop (at + 1) (set was at x)))
    ∙ ap (λ l. take at was ++ (x ∷ over bytes l)) (drop-set-lt (at + 1) was at x (omega arith))
    ∙ ap (λ l. take at was ++ (x ∷ (bytes ++ l))) (
    drop-drop (length bytes) (at + 1) was
    ∙ ap (λ n. drop n was) (omega arith)
    ∙ sym (drop-drop (suc (length bytes)) at was)
    )

pub put_over : (bytes was : List ℕ) → length bytes ≤ length was → (put bytes (0, was)).1 ≡ over bytes was
put_over bytes was room = put_into bytes 0 was (omega arith)

-- into the rest of a buffer, as into the whole from there on
put_shifted : (bytes : List ℕ) (at n : ℕ) (was : List ℕ) → at ≤ length was → put bytes (at + n, was) ≡ (at + (put bytes (n, drop at was)).0, take at was ++ (put bytes (n, drop at was)).1)
unfolding put
put_shifted [] at n was inside = ap (λ l. (at + n, l)) (sym (take-append-drop at was))
put_shifted (x ∷ bytes) at n was inside =
    let whole = put_shifted bytes at (n + 1) (set was (at + n) x) (omega (arith, length-set was (at + n) x)) in
    let same : at + n + 1 ≡ at + (n + 1) = omega arith in
    ap (λ k. put bytes (k, set was (at + n) x)) same
    ∙ whole
    ∙ ap (λ l. (at + (put bytes (n + 1, l)).0, take at (set was (at + n) x) ++ (put bytes (n + 1, l)).1)) (drop-set-add at was n x)
    ∙ ap (λ l. (at + (put bytes (n + 1, set (drop at was) n x)).0, l ++ (put bytes (n + 1, set (drop at was) n x)).1)) (take-set-le at was (at + n) x (omega arith))

-- what was put into the rest of a buffer, from `at` on: `ys` is what the rest holds then
put_rest : (bytes : List ℕ) (at k : ℕ) (was ys : List ℕ) (r : ℕ) → at ≤ length was → k ≡ length was - at → (r, ys) ≡ put bytes (0, take k (drop at was)) → (at + r, put_mid at k was ys) ≡ put bytes (at, was)
put_rest bytes at k was ys r inside ek e =
    let all : take k (drop at was) ≡ drop at was = take_all k (drop at was) (omega (arith, length-drop at was)) in
    let none : drop k (drop at was) ≡ [] = drop_all k (drop at was) (omega (arith, length-drop at was)) in
    let rest : (r, ys) ≡ put bytes (0, drop at was) = e ∙ ap (λ l. put bytes (0, l)) all in
    ap (λ l. (at + r, take at was ++ (ys ++ l))) none
    ∙ ap (λ l. (at + r, take at was ++ l)) (append-nil ys)
    ∙ ap (λ c. (at + c.0, take at was ++ c.1)) rest
    ∙ sym (put_shifted bytes at 0 was inside)
    ∙ ap (λ n. put bytes (n, was)) (add-zero at)

-- the place behind a text that was put at the front is its length
pub put_length : (s was is : List ℕ) (r : ℕ) → (r, is) ≡ put s (0, was) → r ≡ length s
put_length s was is r e = ap (λ c. c.0) e ∙ put_place s (0, was) ∙ omega arith

-- a buffer keeps its length
put_keeps : (s : List ℕ) (c : Cursor) → length (put s c).1 ≡ length c.1
unfolding put
put_keeps [] c = refl
put_keeps (x ∷ s) c = put_keeps s (c.0 + 1, set c.1 c.0 x) ∙ length-set c.1 c.0 x

-- the place behind a text for which there was room is within the buffer
pub put_within : (a was text : List ℕ) (at : ℕ) → length a ≤ length was → (at, text) ≡ put a (0, was) → at ≤ length text
put_within a was text at room e = omega (arith, put_length a was text at e, ap (λ c. length c.1) e ∙ put_keeps a (0, was))

-- A text that was put into the rest of a buffer, behind another one: k is the length of that rest, and `ys` is what it holds then.
pub put_behind : (a b was text ys : List ℕ) (at k n : ℕ) → length a ≤ length was → (at, text) ≡ put a (0, was) → k ≡ length text - at → (n, ys) ≡ put b (0, take k (drop at text)) → (at + n, put_mid at k text ys) ≡ put (a ++ b) (0, was)
put_behind a b was text ys at k n room first ek then =
    put_rest b at k text ys n (put_within a was text at room first) ek then ∙ ap (put b) first ∙ sym (put_append a b (0, was))
