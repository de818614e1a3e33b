-- Numbers of w bits in a word of 64: the mask, and what it leaves.
-- Assumes nothing.
use Rattle.std.proofs.Common.{◌≡◌, ℕ, ◌+◌, ◌-◌, ◌/◌, ◌%◌, ◌^◌, ◌≤◌, sym, ap, ◌∙◌, arith}
use lib.Bits.{bit_and, and_mask}
use lib.Pow.{ones_split, high, ones_lt, mod-mod-pow}

pub mask_is : (w : ℕ) → w ≤ 64 → (2 ^ 64 - 1) / 2 ^ (64 - w) ≡ 2 ^ w - 1
mask_is w h =
    let e : w + (64 - w) ≡ 64 = omega arith in
    ap (λ n. (2 ^ n - 1) / 2 ^ (64 - w)) (sym e) ∙ ap (λ n. n / 2 ^ (64 - w)) (ones_split w (64 - w)) ∙ high (2 ^ w - 1) (64 - w) (ones_lt (64 - w))

pub masked : (w n : ℕ) → w ≤ 64 → bit_and (n % 2 ^ 64) (2 ^ w - 1) ≡ n % 2 ^ w
masked w n h =
    let e : (64 - w) + w ≡ 64 = omega arith in
    and_mask (n % 2 ^ 64) w ∙ ap (λ k. n % 2 ^ k % 2 ^ w) (sym e) ∙ mod-mod-pow n (64 - w) w
