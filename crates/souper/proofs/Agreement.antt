-- Each word agrees with the operation that it translates, where it is defined. Assumes nothing.
use Rattle.std.proofs.Common.{◌≡◌, ℕ, ◌-◌, ◌%◌, ◌^◌, ◌<◌, Bool, true, false, ◌||◌, eqb, leb, List, [], ◌∷◌, get_or, Some, None, Option, sym, refl, ap, ◌∙◌, subst, mod-eq_of_lt, arith}
use lib.Bits.{bit_and, bit_xor, and_mask, xor_add_and}
use Rattle.std.proofs.lemmas.Bool.{leb-false}
use Rattle.ir.specs.Codes.{intcc_word}
use Rattle.ir.specs.Bitvectors.{complement, shift_left, shift_right, signed_shift_right}
use Rattle.ir.specs.Operations.{compute, unless}
use Rattle.ir.proofs.Range.{InRange}
use Rattle.ir.specs.Widths.{Signature}
use Rattle.ir.specs.declared.opcodes.Opcode.{Opcode}
use Rattle.ir.specs.declared.opcodes.Opcode.TheVariants as op
use Rattle.ir.specs.declared.condcodes.IntCC.{IntCC}
use Rattle.ir.specs.declared.condcodes.IntCC.TheVariants as cond
use Rattle.ir.proofs.Options.{none_is_no_some}
use Rattle.souper.specs.Words.{apply}
use Rattle.souper.specs.declared.form.Form.{Form}
use Rattle.souper.specs.declared.form.Form.TheVariants.{Untranslated, Plain, Inverted, Selected, Compared}
use Rattle.souper.specs.Translation.{form_of, with_word}

-- what the rows of a form give at the operands xs; w is the width of the value and v that of its first operand
abbrev pub form_number : Form → ℕ → ℕ → ℕ → List ℕ → Option ℕ
form_number Untranslated input w v xs = None
form_number (Plain word) input w v xs = apply word input w v xs
form_number Inverted input w v xs = Some (bit_xor (get_or xs 0 0) (2 ^ w - 1))
form_number Selected input w v xs = compute op.Select cond.Equal w v xs
form_number (Compared word) input w v xs = apply word input 1 v xs

unless_some : (b : Bool) (a n : ℕ) → unless b a ≡ Some n → (b ≡ false) × (a ≡ n)
unless_some true a n e = none_is_no_some n e
unless_some false a n e = (refl, cc)

-- a shift by less than the width is the same modulo the width
shift_agrees : (f : ℕ → ℕ) (w k n : ℕ) → unless (leb w k) (f k) ≡ Some n → Some (f (k % w)) ≡ Some n
shift_agrees f w k n e =
    let u = unless_some (leb w k) (f k) n e in
    let h : k < w = leb-false w k u.0 in
    ap Some (ap f (mod-eq_of_lt h) ∙ u.1)

-- the first of two tests is enough
unless_first : (a b : Bool) (m n : ℕ) → unless (a || b) m ≡ Some n → unless a m ≡ Some n
unless_first true b m n e = none_is_no_some n e
unless_first false b m n e = let u = unless_some b m n e in ap Some u.1

pub complement_xor : (w x : ℕ) → x < 2 ^ w → bit_xor x (2 ^ w - 1) ≡ complement w x
unfolding complement
complement_xor w x h =
    let m : bit_and x (2 ^ w - 1) ≡ x = and_mask x w ∙ mod-eq_of_lt h in
    omega (arith, xor_add_and x (2 ^ w - 1))

condition_agrees : (c : IntCC) (input w v : ℕ) (xs : List ℕ) (n : ℕ) → form_number (with_word Compared (intcc_word c)) input w v xs ≡ Some n → compute op.Icmp c w v xs ≡ Some n
condition_agrees cond.Equal input w v xs n e = e
condition_agrees cond.NotEqual input w v xs n e = e
condition_agrees cond.SignedLessThan input w v xs n e = e
condition_agrees cond.SignedGreaterThanOrEqual input w v xs n e = none_is_no_some n e
condition_agrees cond.SignedGreaterThan input w v xs n e = none_is_no_some n e
condition_agrees cond.SignedLessThanOrEqual input w v xs n e = e
condition_agrees cond.UnsignedLessThan input w v xs n e = e
condition_agrees cond.UnsignedGreaterThanOrEqual input w v xs n e = none_is_no_some n e
condition_agrees cond.UnsignedGreaterThan input w v xs n e = none_is_no_some n e
condition_agrees cond.UnsignedLessThanOrEqual input w v xs n e = e

-- Where the rows of an operation's form are defined, they give what the operation gives.
pub form_agrees : (o : Opcode) (c : IntCC) (same : Bool) (input w v : ℕ) (ws xs : List ℕ) (n : ℕ) → Signature o w ws → InRange ws xs
    → form_number (form_of o c same) input w v xs ≡ Some n → compute o c w v xs ≡ Some n
form_agrees op.Iconst c same input w v ws xs n s r e = none_is_no_some n e
form_agrees op.Iadd c same input w v ws xs n s r e = e
form_agrees op.Imul c same input w v ws xs n s r e = e
form_agrees op.Udiv c same input w v ws xs n s r e = e
form_agrees op.Sdiv c same input w v ws xs n s r e = e
form_agrees op.Urem c same input w v ws xs n s r e = e
form_agrees op.Srem c same input w v ws xs n s r e = unless_first (eqb (get_or xs 1 0) 0) _ _ n e
form_agrees op.Band c same input w v ws xs n s r e = e
form_agrees op.Bor c same input w v ws xs n s r e = e
form_agrees op.Bxor c same input w v ws xs n s r e = e
form_agrees op.Bnot c same input w v ws xs n s r e =
    let h : InRange (w ∷ []) xs = subst (λ l. InRange l xs) s r in
    ap Some (sym (complement_xor w (get_or xs 0 0) (h 0))) ∙ e
form_agrees op.Ishl c true input w v ws xs n s r e = shift_agrees (shift_left w (get_or xs 0 0)) w (get_or xs 1 0) n e
form_agrees op.Ishl c false input w v ws xs n s r e = none_is_no_some n e
form_agrees op.Sshr c true input w v ws xs n s r e = shift_agrees (signed_shift_right w (get_or xs 0 0)) w (get_or xs 1 0) n e
form_agrees op.Sshr c false input w v ws xs n s r e = none_is_no_some n e
form_agrees op.Ushr c true input w v ws xs n s r e = shift_agrees (shift_right (get_or xs 0 0)) w (get_or xs 1 0) n e
form_agrees op.Ushr c false input w v ws xs n s r e = none_is_no_some n e
form_agrees op.Select c same input w v ws xs n s r e = e
form_agrees op.Uextend c same input w v ws xs n s r e = e
form_agrees op.Sextend c same input w v ws xs n s r e = e
form_agrees op.Icmp c same input w v ws xs n s r e = condition_agrees c input w v xs n e
form_agrees op.Popcnt c same input w v ws xs n s r e = e
form_agrees op.Bitrev c same input w v ws xs n s r e = e
form_agrees op.Clz c same input w v ws xs n s r e = e
form_agrees op.Ctz c same input w v ws xs n s r e = e
form_agrees op.SaddSat c same input w v ws xs n s r e = e
form_agrees op.SsubSat c same input w v ws xs n s r e = e
form_agrees op.UsubSat c same input w v ws xs n s r e = e
form_agrees op.Opaque c same input w v ws xs n s r e = none_is_no_some n e
