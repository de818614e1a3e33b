-- Division in a word of 64 bits, and its halves. Assumes nothing.
use Rattle.std.proofs.Common.{◌≡◌, ℕ, zero, suc, ◌-◌, ◌/◌, ◌^◌, ◌<◌, ◌≤◌, Bool, true, false, ◌&&◌, ◌||◌, eqb, ◌⊎◌, ℤ, pos, negsuc, neg_ℤ, Some, Option, option_map, sym, refl, ap, ◌∙◌, ap₂, inl, inr, lt_of_le_of_lt, mod-eq_of_lt, div-le_self, div-one, arith, pow_pos, pow_mono, w64, SFits, to_z, of_z}
use native.Mathlib.Decide.{ℕ_discrete}
use native.Mathlib.Nat.{mod-one}
use lib.IntN.{pos-ne-negsuc}
use lib.Signed.{mag, quot_z, rem_z, mag_rem}
use Rattle.std.proofs.lemmas.Nat.{div_below}
use Rattle.std.proofs.lemmas.Bool.{eq-eqb, ne_eqb, eqb-true, and_parts, cases_lt}
use Rattle.ir.specs.Bitvectors.{signed, unsigned, signed_div, signed_rem, quotient_overflows}
use Rattle.ir.specs.Operations.{unless}
use Rattle.arith.specs.Division.{pair_unless, signed_division}
use Rattle.arith.specs.declared.division.Division.{Division}
use Rattle.arith.proofs.Signs.{half, back, signed_low, signed_high}

-- ---- the halves of a pair

pub quotient_of_pair : (b : Bool) (q r : ℕ) → option_map (λ (d : Division). d.quotient) (pair_unless b q r) ≡ unless b q
quotient_of_pair true q r = refl
quotient_of_pair false q r = refl

pub remainder_of_pair : (b : Bool) (q r : ℕ) → option_map (λ (d : Division). d.remainder) (pair_unless b q r) ≡ unless b r
remainder_of_pair true q r = refl
remainder_of_pair false q r = refl

-- ---- what fits

mag_neg : (q k : ℕ) → q ≤ suc k → mag (neg_ℤ (pos q)) ≤ k
mag_neg zero k h = omega arith
mag_neg (suc q) k h = omega arith

-- a quotient fits, but for the smallest number by -1
quot_fits : (s t : ℤ) → mag s < 2 ^ 63 → (s ≡ negsuc (2 ^ 63 - 1) → t ≡ negsuc 0 → ⊥) → mag (quot_z s t) < 2 ^ 63
quot_fits (pos a) (pos b) h n = lt_of_le_of_lt (div-le_self a b) h
quot_fits (pos a) (negsuc b) h n = lt_of_le_of_lt (mag_neg (a / suc b) a (omega (arith, div-le_self a (suc b)))) h
quot_fits (negsuc a) (pos b) h n = lt_of_le_of_lt (mag_neg (suc a / b) a (div-le_self (suc a) b)) h
quot_fits (negsuc a) (negsuc zero) h n = at (ℕ_discrete a (2 ^ 63 - 1))
  where
    at : Dec (a ≡ 2 ^ 63 - 1) → suc a / 1 < 2 ^ 63
    at (yes e) = absurd (n (ap negsuc e) refl)
    at (no e) = rw div-one (omega arith)
quot_fits (negsuc a) (negsuc (suc b)) h n = div_below (suc a) (suc (suc b)) (2 ^ 63) (omega arith) (omega arith)

-- the pair that overflows a word of 64 bits is the smallest number by -1
no_overflow : (w x y : ℕ) → 0 < w → w ≤ 64 → y < 2 ^ 64 → quotient_overflows w x y ≡ false → signed w x ≡ negsuc (2 ^ 63 - 1) → signed w y ≡ negsuc 0 → ⊥
no_overflow w x y l m hy o p q = at (cases_lt x (2 ^ (w - 1))) (cases_lt y (2 ^ (w - 1)))
  where
    at : (x < 2 ^ (w - 1)) ⊎ (2 ^ (w - 1) ≤ x) → (y < 2 ^ (w - 1)) ⊎ (2 ^ (w - 1) ≤ y) → ⊥
    at (inl a) b = pos-ne-negsuc x (2 ^ 63 - 1) (sym (signed_low w x a) ∙ p)
    at (inr a) (inl b) = pos-ne-negsuc y 0 (sym (signed_low w y b) ∙ q)
    at (inr a) (inr b) =
        let s = signed_high w x a in
        let t = signed_high w y b in
        let e : 2 ^ w - suc x ≡ 2 ^ 63 - 1 = cc in
        let f : 2 ^ w - suc y ≡ 0 = cc in
        let k : 2 ^ (w - 1) ≤ 2 ^ 63 = pow_mono {i = w - 1} {j = 63} (omega arith) in
        let g : x ≡ 2 ^ (w - 1) = omega (arith, half w l) in
        let h : y ≡ 2 ^ w - 1 = omega (arith, half w l) in
        let c = eq-eqb x (2 ^ (w - 1)) g in
        let d = eq-eqb y (2 ^ w - 1) h in
        let z : true ≡ false = sym (ap₂ ◌&&◌ c d) ∙ o in
        let v : ◌≡◌ {A = ℕ} 0 1 = cc in
        omega arith

-- a divisor other than 0 is read as another number than 0
nonzero : (w y : ℕ) → y < 2 ^ 64 → (y ≡ 0 → ⊥) → mag (signed w y) < 2 ^ 63 → 0 < of_z w64 (signed w y)
nonzero w y h n f = at (cases_lt y (2 ^ (w - 1)))
  where
    at : (y < 2 ^ (w - 1)) ⊎ (2 ^ (w - 1) ≤ y) → 0 < of_z w64 (signed w y)
    at (inl a) = rw (signed_low w y a) (omega (arith, n))
    at (inr a) = let g : 2 ^ w - suc y < 2 ^ 63 = rw (signed_high w y a) at f in rw (signed_high w y a) (omega arith)

-- ---- two numbers that are read as s and t at a width, and whose quotient is in range

pub record Divides (w x y : ℕ) (s t : ℤ) : Type 0 where
  pub wide : 0 < w
  pub small : w ≤ 64
  pub word : y < 2 ^ 64
  pub divisor : y ≡ 0 → ⊥
  pub defined : quotient_overflows w x y ≡ false
  pub left : s ≡ signed w x
  pub right : t ≡ signed w y
  pub left_fits : mag s < 2 ^ 63
  pub right_fits : mag t < 2 ^ 63

quotient_fits : (w x y : ℕ) (s t : ℤ) → Divides w x y s t → mag (quot_z s t) < 2 ^ 63
quotient_fits w x y s t d = quot_fits s t d.left_fits (λ a b. no_overflow w x y d.wide d.small d.word d.defined (sym d.left ∙ a) (sym d.right ∙ b))

-- what the division asks
pub division_asks : (w x y : ℕ) (s t : ℤ) → Divides w x y s t → (0 < of_z w64 t) × SFits w64 (quot_z (to_z w64 (of_z w64 s)) (to_z w64 (of_z w64 t)))
division_asks w x y s t d = (
  rw d.right (nonzero w y d.word d.divisor (rw d.right at d.right_fits)),
  rw (back s d.left_fits, back t d.right_fits) (record { sfits = quotient_fits w x y s t d }),
)

-- what it gives
pub division_gives : (w x y q r : ℕ) (s t : ℤ) → Divides w x y s t
    → q ≡ unsigned w (to_z w64 (of_z w64 (quot_z (to_z w64 (of_z w64 s)) (to_z w64 (of_z w64 t)))))
    → r ≡ unsigned w (to_z w64 (of_z w64 (rem_z (to_z w64 (of_z w64 s)) (to_z w64 (of_z w64 t)))))
    → ◌≡◌ {A = Option Division} (Some (record { quotient = q; remainder = r })) (signed_division w x y)
unfolding signed_div signed_rem
division_gives w x y q r s t d e f =
    let a : to_z w64 (of_z w64 (quot_z (to_z w64 (of_z w64 s)) (to_z w64 (of_z w64 t)))) ≡ quot_z s t = rw (back s d.left_fits, back t d.right_fits) (back (quot_z s t) (quotient_fits w x y s t d)) in
    let b : to_z w64 (of_z w64 (rem_z (to_z w64 (of_z w64 s)) (to_z w64 (of_z w64 t)))) ≡ rem_z s t = rw (back s d.left_fits, back t d.right_fits) (back (rem_z s t) (lt_of_le_of_lt (mag_rem s t) d.left_fits)) in
    pair (eqb y 0) (quotient_overflows w x y) q r _ _ (ne_eqb y 0 d.divisor) d.defined
    (e ∙ ap (unsigned w) (a ∙ ap₂ quot_z d.left d.right)) (f ∙ ap (unsigned w) (b ∙ ap₂ rem_z d.left d.right))
  where
    pair : (a b : Bool) (q r m n : ℕ) → a ≡ false → b ≡ false → q ≡ m → r ≡ n → ◌≡◌ {A = Option Division} (Some (record { quotient = q; remainder = r })) (pair_unless (a || b) m n)
    pair a b q r m n s t e f = rw (s, t, e, f) refl

-- ---- the remainder of the pair whose quotient is out of range

remainder_by_minus_one : (z : ℤ) → rem_z z (negsuc 0) ≡ pos 0
remainder_by_minus_one (pos a) = ap pos (mod-one a)
remainder_by_minus_one (negsuc a) = ap (λ n. neg_ℤ (pos n)) (mod-one (suc a))

pub nothing_remains : (w x y : ℕ) → 0 < w → quotient_overflows w x y ≡ true → Some 0 ≡ unless (eqb y 0) (signed_rem w x y)
unfolding signed_rem unsigned
nothing_remains w x y l o =
    let e : y ≡ 2 ^ w - 1 = eqb-true y (2 ^ w - 1) (and_parts (eqb x (2 ^ (w - 1))) (eqb y (2 ^ w - 1)) o).1 in
    let p = pow_pos (w - 1) in
    let n : y ≡ 0 → ⊥ = λ (z : y ≡ 0). omega (arith, half w l) in
    let m : signed w y ≡ negsuc 0 = signed_high w y (omega (arith, half w l)) ∙ ap negsuc (omega (arith, pow_pos w)) in
    rw (ne_eqb y 0 n, m, remainder_by_minus_one (signed w x)) (ap Some (sym (mod-eq_of_lt (pow_pos w))))

-- where the quotient is in range, both ways to ask for a remainder are one
pub defined_remainder : (w x y : ℕ) (r : Option ℕ) → quotient_overflows w x y ≡ false → r ≡ unless (eqb y 0 || quotient_overflows w x y) (signed_rem w x y) → r ≡ unless (eqb y 0) (signed_rem w x y)
defined_remainder w x y r o e = e ∙ ap (λ b. unless b (signed_rem w x y)) (same (eqb y 0) (quotient_overflows w x y) o)
  where
    same : (a b : Bool) → b ≡ false → (a || b) ≡ a
    same true b e = refl
    same false b e = e
