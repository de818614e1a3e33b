-- An index lists the records of each kind. Assumes nothing.
use Rattle.std.proofs.Common.{◌≡◌, ℕ, zero, suc, ◌+◌, ◌-◌, ◌<◌, ◌≤◌, Bool, true, false, cond, List, [], ◌∷◌, ◌++◌, length, filter, sym, refl, ap, ◌∙◌, add-zero, suc-add, zero-add, arith}
use Rattle.std.specs.List.{range_with_len}
use Rattle.std.proofs.lemmas.List.Elements.{filter-append}
use Rattle.std.proofs.lemmas.List.{append-nil, length-append}

-- ---- what is kept of the numbers below n

pub counting_split : (a m n : ℕ) → range_with_len a (m + n) ≡ range_with_len a m ++ range_with_len (a + m) n
counting_split a zero n = simp (zero-add, add-zero)
counting_split a (suc m) n =
    ap (range_with_len a) (suc-add m n) ∙ ap (λ l. a ∷ l) (counting_split (a + 1) m n ∙ ap (λ s. range_with_len (a + 1) m ++ range_with_len s n) (omega arith))

-- one more number k behind a list, if it is kept
abbrev pub with_noted : Bool → ℕ → List ℕ → List ℕ
with_noted is k places = cond is (places ++ k ∷ []) places

module _ (p : ℕ → Bool) where
  pub kept_split : (m n : ℕ) → filter p (range_with_len 0 (m + n)) ≡ filter p (range_with_len 0 m) ++ filter p (range_with_len m n)
  kept_split m n = ap (filter p) (counting_split 0 m n ∙ ap (λ s. range_with_len 0 m ++ range_with_len s n) (omega arith)) ∙ filter-append p (range_with_len 0 m) (range_with_len m n)

  pub kept_more : (k : ℕ) → filter p (range_with_len 0 (k + 1)) ≡ with_noted (p k) k (filter p (range_with_len 0 k))
  kept_more k = kept_split k 1 ∙ at (p k)
    where
      at : (b : Bool) → filter p (range_with_len 0 k) ++ cond b (k ∷ []) [] ≡ with_noted b k (filter p (range_with_len 0 k))
      at true = refl
      at false = append-nil _

  -- no fewer are kept of more
  pub kept_length : (m n : ℕ) → m ≤ n → length (filter p (range_with_len 0 m)) ≤ length (filter p (range_with_len 0 n))
  kept_length m n l =
      let e : m + (n - m) ≡ n = omega arith in
      omega (arith, ap (λ k. length (filter p (range_with_len 0 k))) (sym e), ap length (kept_split m (n - m)), length-append (filter p (range_with_len 0 m)) (filter p (range_with_len m (n - m))))

  -- what is kept with the number k, if it is kept
  pub kept_here : (k : ℕ) (is : Bool) (before after : List ℕ) → p k ≡ is → before ≡ filter p (range_with_len 0 k) → after ≡ with_noted is k before → after ≡ filter p (range_with_len 0 (k + 1))
  kept_here k is before after e b a = a ∙ ap (with_noted is k) b ∙ ap (λ t. with_noted t k (filter p (range_with_len 0 k))) (sym e) ∙ sym (kept_more k)

  -- one that is kept, behind a list of c
  pub kept_over : (k n c : ℕ) (before : List ℕ) → k < n → p k ≡ true → before ≡ filter p (range_with_len 0 k) → length before ≡ c → c < length (filter p (range_with_len 0 n))
  kept_over k n c before l e b full =
      let more = kept_more k ∙ ap (λ t. with_noted t k (filter p (range_with_len 0 k))) e in
      omega (arith, ap length b, kept_length (k + 1) n (omega arith), ap length more, length-append (filter p (range_with_len 0 k)) (k ∷ []))
