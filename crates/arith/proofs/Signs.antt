-- Signed readings in a word of 64 bits, at any width. Assumes nothing.
use Rattle.std.proofs.Common.{◌≡◌, ℕ, zero, suc, ◌-◌, ◌*◌, ◌^◌, ◌<◌, ◌≤◌, Bool, true, false, cond, ℤ, pos, negsuc, ◌+ℤ◌, ◌-ℤ◌, nat_abs, ap, ◌∙◌, lt_of_le_of_lt, pow-suc, arith, w64, SFits, to_z, of_z}
use lib.Dec.{leb-zero}
use lib.Bits.{bit_and, and_mask}
use lib.Signed.{le_z, mag, shr_z, mag_shr}
use Rattle.std.proofs.lemmas.Int.{ints, to_z-of_z}
use Rattle.std.proofs.lemmas.Bool.{lt-ltb, le-ltb}
use Rattle.ir.specs.Bitvectors.{signed, unsigned}

-- a width's numbers are twice as many as its signed numbers from 0 upward
pub half : (w : ℕ) → 0 < w → 2 ^ w ≡ 2 ^ (w - 1) * 2
half zero h = absurd (omega arith)
half (suc w) h = pow-suc 2 w ∙ ap (λ k. 2 ^ k * 2) (omega arith)

pub signed_low : (w x : ℕ) → x < 2 ^ (w - 1) → signed w x ≡ pos x
unfolding signed
signed_low w x h = ap (λ (b : Bool). cond b (pos x) (negsuc (2 ^ w - suc x))) (lt-ltb x (2 ^ (w - 1)) h)

pub signed_high : (w x : ℕ) → 2 ^ (w - 1) ≤ x → signed w x ≡ negsuc (2 ^ w - suc x)
unfolding signed
signed_high w x h = ap (λ (b : Bool). cond b (pos x) (negsuc (2 ^ w - suc x))) (le-ltb x (2 ^ (w - 1)) h)

-- ---- an integer modulo 2 ^ w, by a mask

pub unsigned_pos : (w : ℕ) (z : ℤ) → le_z (pos 0) z ≡ true → bit_and (nat_abs z) (2 ^ w - 1) ≡ unsigned w z
unfolding unsigned
unsigned_pos w (pos n) h = and_mask n w
unsigned_pos w (negsuc n) h = cc

pub unsigned_neg : (w : ℕ) (z : ℤ) → le_z (pos 0) z ≡ false → 2 ^ w - 1 - bit_and (mag z) (2 ^ w - 1) ≡ unsigned w z
unfolding unsigned
unsigned_neg w (pos n) h = let t = leb-zero n in cc
unsigned_neg w (negsuc n) h = rw and_mask (omega arith)

-- - (z + 1) of a negative number, as the code has it
pub minus_one_less : (z : ℤ) → SFits w64 z → le_z (pos 0) z ≡ false → nat_abs (to_z w64 (of_z w64 (pos 0 -ℤ to_z w64 (of_z w64 (z +ℤ pos 1))))) ≡ mag z
minus_one_less (pos n) f h = let t = leb-zero n in cc
minus_one_less (negsuc n) f h = omega (arith, ints, f.sfits)

-- ---- signed operations in a word of 64 bits

-- a number that fits goes to bits and back
pub back : (z : ℤ) → mag z < 2 ^ 63 → to_z w64 (of_z w64 z) ≡ z
back z h = to_z-of_z w64 z (record { sfits = h })

pub shift_back : (z : ℤ) (m : ℕ) → mag z < 2 ^ 63 → to_z w64 (of_z w64 (shr_z (to_z w64 (of_z w64 z)) m)) ≡ shr_z z m
shift_back z m h = rw (back z h) (back (shr_z z m) (lt_of_le_of_lt (mag_shr z m) h))
