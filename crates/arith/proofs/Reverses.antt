-- Laws of `bit_reverse`: two parts of a number, and the bytes of a table.
-- Assumes nothing.
use Rattle.std.proofs.Common.{◌≡◌, ℕ, zero, suc, ◌+◌, ◌-◌, ◌*◌, ◌/◌, ◌%◌, ◌^◌, ◌<◌, ◌≤◌, List, [], ◌∷◌, get_or, sym, refl, ap, ◌∙◌, ap₂, add-zero, add-suc, mul_assoc, add-mul, suc-add, zero-add, zero-mul, div-one, one-add, arith, pow-add, shl_exact, shr-shr}
use lib.Bits.{bit_and, bit_or, and_mask, or_shifted}
use lib.Pow.{field, mod-mod-pow, high}
use Rattle.ir.proofs.Range.{bit_reverse_lt}
use Rattle.ir.specs.Bitvectors.{bit_reverse}

-- the low a bits come to stand above the b bits behind them
pub reverse_add : (a b x : ℕ) → bit_reverse (a + b) x ≡ bit_reverse a x * 2 ^ b + bit_reverse b (x / 2 ^ a)
unfolding bit_reverse
reverse_add zero b x = rw (zero-add b, zero-mul, zero-add, div-one) refl
reverse_add (suc a) b x =
    let s : x / 2 / 2 ^ a ≡ x / 2 ^ suc a = shr-shr x 1 a ∙ ap (λ k. x / 2 ^ k) (one-add a) in
    let p : 2 ^ (a + b) ≡ 2 ^ a * 2 ^ b = pow-add 2 a b in
    let e : x % 2 * (2 ^ a * 2 ^ b) ≡ x % 2 * 2 ^ a * 2 ^ b = sym (mul_assoc (x % 2) (2 ^ a) (2 ^ b)) in
    rw (suc-add, p, reverse_add a b (x / 2), s, e, add-mul) (omega arith)

-- the low w bits of a word of w + k bits
pub reverse_part : (w k x : ℕ) → bit_reverse (w + k) x / 2 ^ k ≡ bit_reverse w x
reverse_part w k x = ap (λ n. n / 2 ^ k) (reverse_add w k x) ∙ high (bit_reverse w x) k (bit_reverse_lt k (x / 2 ^ w))

-- only the low bits count
pub reverse_low : (a x : ℕ) → bit_reverse a (x % 2 ^ a) ≡ bit_reverse a x
unfolding bit_reverse
reverse_low zero x = refl
reverse_low (suc a) x =
    let q : x % 2 ^ suc a % 2 ≡ x % 2 = ap (λ k. x % 2 ^ k % 2) (sym (omega arith)) ∙ mod-mod-pow x a 1 in
    let h : x % 2 ^ suc a / 2 ≡ x / 2 % 2 ^ a = ap (λ k. x % 2 ^ k / 2) (sym (omega arith)) ∙ field x a 1 in
    ap₂ (λ d r. d * 2 ^ a + r) q (ap (bit_reverse a) h ∙ reverse_low a (x / 2))

-- c bits more
pub reverse_more : (c i x : ℕ) → bit_reverse (c * (i + 1)) x ≡ bit_reverse (c * i) x * 2 ^ c + bit_reverse c (x / 2 ^ (c * i) % 2 ^ c)
reverse_more c i x =
    let e : c * (i + 1) ≡ c * i + c = omega arith in
    rw (e, reverse_add (c * i) c x, reverse_low c (x / 2 ^ (c * i))) refl

-- the same, as the code computes it in a word of 64 bits: b is the part that comes next, in reverse order
pub reverse_step : (c i x r b : ℕ) → c * (i + 1) ≤ 64 → r ≡ bit_reverse (c * i) x → b ≡ bit_reverse c (bit_and (x / 2 ^ (c * i)) (2 ^ c - 1))
    → bit_or ((r * 2 ^ c) % 2 ^ 64) b ≡ bit_reverse (c * (i + 1)) x
reverse_step c i x r b h p q =
    let l : r < 2 ^ (c * i) = rw p (bit_reverse_lt (c * i) x) in
    let m : b < 2 ^ c = rw q (bit_reverse_lt c (bit_and (x / 2 ^ (c * i)) (2 ^ c - 1))) in
    rw (shl_exact (c * i) c 64 l (omega arith), or_shifted r c b m, reverse_more c i x, p, q, and_mask (x / 2 ^ (c * i)) c) refl

pub rest_step : (c i x : ℕ) → x / 2 ^ (c * i) / 2 ^ c ≡ x / 2 ^ (c * (i + 1))
rest_step c i x = let e : c * i + c ≡ c * (i + 1) = omega arith in shr-shr x (c * i) c ∙ ap (λ k. x / 2 ^ k) e

-- ---- a table of a function

-- f at i and the numbers behind it
abbrev pub tabulated : (ℕ → ℕ) → ℕ → ℕ → List ℕ
tabulated f i zero = []
tabulated f i (suc n) = f i ∷ tabulated f (suc i) n

pub tabulated_at : (f : ℕ → ℕ) (i n k : ℕ) → k < n → get_or (tabulated f i n) k 0 ≡ f (i + k)
tabulated_at f i zero k h = absurd (omega arith)
tabulated_at f i (suc n) zero h = ap f (sym (add-zero i))
tabulated_at f i (suc n) (suc k) h = tabulated_at f (suc i) n k (omega arith) ∙ ap f (suc-add i k ∙ sym (add-suc i k))
