-- Saturation, as the code computes it in a word of 64 bits. Assumes nothing.
use Rattle.std.proofs.Common.{◌≡◌, ℕ, suc, ◌-◌, ◌^◌, ◌<◌, ◌≤◌, ℤ, pos, negsuc, ◌-ℤ◌, ap, ◌∙◌, arith, w64, to_z, of_z}
use lib.Signed.{mag}
use Rattle.std.proofs.lemmas.Int.{ints, clamps, to_z_pos}
use Rattle.std.specs.Int.{saturate_to_bits, int_max, int_min}
use Rattle.ir.specs.Bitvectors.{unsigned}
use Rattle.arith.proofs.Signs.{back}

saturated_mag : (z : ℤ) → mag (saturate_to_bits 63 z) < 2 ^ 63
saturated_mag (pos n) = omega arith
saturated_mag (negsuc n) = omega arith

-- to a range, by its ends
by_ends : (h m : ℕ) (z : ℤ) → suc m ≡ 2 ^ h → int_max (negsuc m) (int_min z (pos m)) ≡ saturate_to_bits h z
by_ends h m (pos n) e = omega (arith, ints, clamps)
by_ends h m (negsuc n) e = omega (arith, ints, clamps)

-- the same, as the code has it
pub clamped : (h m : ℕ) (z : ℤ) → suc m ≡ 2 ^ h → 2 ^ h ≤ 2 ^ 63 → mag z < 2 ^ 63
    → int_max (to_z w64 (of_z w64 (to_z w64 (of_z w64 (pos 0 -ℤ to_z w64 m)) -ℤ pos 1))) (int_min (to_z w64 (of_z w64 z)) (to_z w64 m)) ≡ saturate_to_bits h z
clamped h m z e l f =
    let p : to_z w64 m ≡ pos m = to_z_pos w64 m (omega arith) in
    let q : to_z w64 (of_z w64 (to_z w64 (of_z w64 (pos 0 -ℤ pos m)) -ℤ pos 1)) ≡ negsuc m = omega (arith, ints) in
    rw (p, q, back z f) (by_ends h m z e)

-- to a wider range and then to a narrower one
twice : (h : ℕ) (z : ℤ) → 2 ^ h ≤ 2 ^ 63 → saturate_to_bits h (saturate_to_bits 63 z) ≡ saturate_to_bits h z
twice h (pos n) l = omega (arith, ints)
twice h (negsuc n) l = omega (arith, ints)

-- An integer z that saturates to s at 64 bits, and s at a width: z at that width.
pub saturated_at : (w r : ℕ) (s z : ℤ) → 2 ^ (w - 1) ≤ 2 ^ 63 → s ≡ saturate_to_bits 63 z → r ≡ unsigned w (saturate_to_bits (w - 1) (to_z w64 (of_z w64 s)))
    → r ≡ unsigned w (saturate_to_bits (w - 1) z)
saturated_at w r s z l e g =
    g ∙ ap (λ (y : ℤ). unsigned w (saturate_to_bits (w - 1) (to_z w64 (of_z w64 y)))) e
    ∙ ap (λ (y : ℤ). unsigned w (saturate_to_bits (w - 1) y)) (back (saturate_to_bits 63 z) (saturated_mag z))
    ∙ ap (unsigned w) (twice (w - 1) z l)
