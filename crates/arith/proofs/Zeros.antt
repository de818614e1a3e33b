-- Zeros at either end, at a width and at one that is no smaller. Assumes nothing.
use Rattle.std.proofs.Common.{◌≡◌, ℕ, zero, suc, ◌-◌, ◌%◌, ◌/◌, ◌≤◌, min, arith}
use lib.Count.{count_leading_zeros, count_trailing_zeros, under, leading_le}

-- a narrower word has as many zeros less above, whatever number it is
pub leading_narrower : (w v x : ℕ) → w ≤ v → count_leading_zeros v x - (v - w) ≡ count_leading_zeros w x
unfolding count_leading_zeros
leading_narrower zero v x h = omega (arith, leading_le v x)
leading_narrower (suc w) zero x h = absurd (omega arith)
leading_narrower (suc w) (suc v) zero h = omega arith
leading_narrower (suc w) (suc v) (suc n) h =
    let e : suc v - suc w ≡ v - w = omega arith in
    rw e (leading_narrower w v (suc n / 2) (omega arith))

-- and the same zeros below, as far as it goes
pub trailing_narrower : (w v x : ℕ) → w ≤ v → min (count_trailing_zeros v x) w ≡ count_trailing_zeros w x
unfolding count_trailing_zeros
trailing_narrower zero v x h = omega arith
trailing_narrower (suc w) zero x h = absurd (omega arith)
trailing_narrower (suc w) (suc v) x h = at (x % 2) (trailing_narrower w v (x / 2) (omega arith))
  where
    at : (d : ℕ) → min (count_trailing_zeros v (x / 2)) w ≡ count_trailing_zeros w (x / 2) → min (under d (count_trailing_zeros v (x / 2))) (suc w) ≡ under d (count_trailing_zeros w (x / 2))
    at zero e = omega arith
    at (suc d) e = omega arith
