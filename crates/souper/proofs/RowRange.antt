-- The number on a row fits its width. Assumes nothing.
use Rattle.std.proofs.Common.{◌≡◌, ℕ, zero, suc, ◌^◌, ◌<◌, ◌≤◌, Bool, true, false, cond, eqb, ◌⊎◌, List, [], ◌∷◌, map, length, get_or, Some, Option, sym, refl, ◌∙◌, subst, inl, inr, lt_of_lt_of_le, lt_of_le_of_lt, mod-lt, div-le_self, arith, pow_pos, pow_mono}
use native.Mathlib.Nat.{mod-le}
use lib.Bits.{and_lt, or_lt, xor_lt}
use lib.Count.{ones-le, leading_le, trailing_le}
use Rattle.std.proofs.lemmas.Bool.{cases_lt}
use Rattle.ir.specs.Bitvectors.{unsigned, wrapping_add, wrapping_mul, signed_div, signed_rem, shift_left, shift_right, signed_shift_right, sign_extend, signed_saturating_add, signed_saturating_sub, truth}
use Rattle.ir.specs.declared.words.Word.{Word}
use Rattle.ir.specs.declared.words.Word.TheVariants.{Var, Add, Mul, Udiv, Sdiv, Urem, Srem, And, Or, Xor, Shl, Ashr, Lshr, Select, Zext, Sext, Eq, Ne, Slt, Sle, Ult, Ule, Ctpop, Bitreverse, Ctlz, Cttz, SaddSat, SsubSat, UsubSat}
use Rattle.ir.proofs.Range.{unsigned_lt, lt_pow, bit_reverse_lt, below_some, below_unless}
use Rattle.flow.specs.Rounds.{all_of, rounds}
use Rattle.ir.proofs.Options.{none_is_no_some, some_injective}
use Rattle.flow.proofs.Sequences.{and_then_some, all_of_some}
use Rattle.souper.specs.Rows.{listed, operand_number, operand_numbers, row_at, row_number, row_result, row_step}
use Rattle.souper.specs.Soundness.{RowInputsFit, RowNumbersInRange}
use Rattle.souper.specs.Widths.{HasWidth, HasWidthOrZero, KindFits, WidthsPass}
use Rattle.souper.specs.Words.{apply, kind_of}
use Rattle.souper.specs.declared.kind.Kind.TheVariants as kind
use Rattle.souper.specs.declared.rows.Operand.{Operand}
use Rattle.souper.specs.declared.rows.Operand.TheVariants as operand
use Rattle.souper.specs.declared.rows.Row.{Row}
use Rattle.souper.specs.declared.rows.RowOperands.{RowOperands}
use Rattle.souper.specs.declared.rows.RowOperands.TheVariants.{Empty, One, Two, Three}
use Rattle.souper.proofs.RowUnfolds.{step_at, step_past}

pub or_zero : (rows : List Row) (w : ℕ) (x : Operand) → HasWidth rows w x → HasWidthOrZero rows w x
or_zero rows w (operand.Row r) h = h
or_zero rows w (operand.Constant v z) h = h
or_zero rows w operand.Zero h = absurd h

-- each number fits the width that its operand has
InRange : List Row → List Operand → List ℕ → Type 0
InRange rows ops xs = (k w : ℕ) → k < length ops → HasWidthOrZero rows w (get_or ops k operand.Zero) → get_or xs k 0 < 2 ^ w

module _ (rows : List Row) (xs : List ℕ) where
  at_width : (ops : List Operand) → InRange rows ops xs → (k w : ℕ) → k < length ops → HasWidth rows w (get_or ops k operand.Zero) → get_or xs k 0 < 2 ^ w
  unfolding InRange
  at_width ops r k w l h = r k w l (or_zero rows w (get_or ops k operand.Zero) h)

  one : (w : ℕ) (ops : RowOperands) → KindFits rows w kind.Unary ops → InRange rows (listed ops) xs → get_or xs 0 0 < 2 ^ w
  one w Empty f r = absurd f
  one w (One x) f r = at_width (x ∷ []) r 0 w (omega arith) f
  one w (Two x y) f r = absurd f
  one w (Three x y z) f r = absurd f

  two : (w : ℕ) (ops : RowOperands) → KindFits rows w kind.Binary ops → InRange rows (listed ops) xs → (get_or xs 0 0 < 2 ^ w) × (get_or xs 1 0 < 2 ^ w)
  two w Empty f r = absurd f
  two w (One x) f r = absurd f
  two w (Two x y) f r = (at_width (x ∷ y ∷ []) r 0 w (omega arith) f.0, at_width (x ∷ y ∷ []) r 1 w (omega arith) f.1)
  two w (Three x y z) f r = absurd f

  arms : (w : ℕ) (ops : RowOperands) → KindFits rows w kind.Choice ops → InRange rows (listed ops) xs → (get_or xs 1 0 < 2 ^ w) × (get_or xs 2 0 < 2 ^ w)
  arms w Empty f r = absurd f
  arms w (One x) f r = absurd f
  arms w (Two x y) f r = absurd f
  arms w (Three x y z) f r = (at_width (x ∷ y ∷ z ∷ []) r 1 w (omega arith) f.1, at_width (x ∷ y ∷ z ∷ []) r 2 w (omega arith) f.2)

  narrower : (w : ℕ) (ops : RowOperands) → KindFits rows w kind.Extension ops → InRange rows (listed ops) xs → get_or xs 0 0 < 2 ^ w
  narrower w Empty f r = absurd f
  narrower w (One x) f r = lt_of_lt_of_le (at_width (x ∷ []) r 0 f.0 (omega arith) f.2) (pow_mono (omega (arith, f.1)))
  narrower w (Two x y) f r = absurd f
  narrower w (Three x y z) f r = absurd f

compared_bit : (rows : List Row) (w : ℕ) (ops : RowOperands) → KindFits rows w kind.Comparison ops → w ≡ 1
compared_bit rows w Empty f = absurd f
compared_bit rows w (One x) f = absurd f
compared_bit rows w (Two x y) f = f.0
compared_bit rows w (Three x y z) f = absurd f

differing_bit : (rows : List Row) (w : ℕ) (ops : RowOperands) → KindFits rows w kind.Inequality ops → w ≡ 1
differing_bit rows w Empty f = absurd f
differing_bit rows w (One x) f = absurd f
differing_bit rows w (Two x y) f = f.0
differing_bit rows w (Three x y z) f = absurd f

one_of : (b : Bool) (x y m : ℕ) → x < m → y < m → cond b x y < m
one_of true x y m p q = p
one_of false x y m p q = q

truth_fits : (b : Bool) (w n : ℕ) → w ≡ 1 → Some (truth b) ≡ Some n → n < 2 ^ w
truth_fits true w n e q = let z : 1 ≡ n = some_injective _ _ q in rw e (omega arith)
truth_fits false w n e q = let z : 0 ≡ n = some_injective _ _ q in rw e (omega arith)

apply_lt : (word : Word) (rows : List Row) (input w v : ℕ) (ops : RowOperands) (xs : List ℕ) (n : ℕ) → KindFits rows w (kind_of word) ops → (word ≡ Var → input < 2 ^ w)
    → InRange rows (listed ops) xs → apply word input w v xs ≡ Some n → n < 2 ^ w
unfolding wrapping_add wrapping_mul signed_div signed_rem shift_left shift_right signed_shift_right sign_extend signed_saturating_add signed_saturating_sub
apply_lt Var rows input w v ops xs n f i r e = below_some _ n (2 ^ w) (i refl) e
apply_lt Add rows input w v ops xs n f i r e = below_some _ n (2 ^ w) (mod-lt _ (pow_pos w)) e
apply_lt Mul rows input w v ops xs n f i r e = below_some _ n (2 ^ w) (mod-lt _ (pow_pos w)) e
apply_lt Udiv rows input w v ops xs n f i r e = below_unless _ _ n (2 ^ w) (lt_of_le_of_lt (div-le_self _ _) (two rows xs w ops f r).0) e
apply_lt Sdiv rows input w v ops xs n f i r e = below_unless _ _ n (2 ^ w) (unsigned_lt w _) e
apply_lt Urem rows input w v ops xs n f i r e = below_unless _ _ n (2 ^ w) (lt_of_le_of_lt (mod-le _ _) (two rows xs w ops f r).0) e
apply_lt Srem rows input w v ops xs n f i r e = below_unless _ _ n (2 ^ w) (unsigned_lt w _) e
apply_lt And rows input w v ops xs n f i r e = below_some _ n (2 ^ w) (and_lt w _ _ (two rows xs w ops f r).0 (two rows xs w ops f r).1) e
apply_lt Or rows input w v ops xs n f i r e = below_some _ n (2 ^ w) (or_lt w _ _ (two rows xs w ops f r).0 (two rows xs w ops f r).1) e
apply_lt Xor rows input w v ops xs n f i r e = below_some _ n (2 ^ w) (xor_lt w _ _ (two rows xs w ops f r).0 (two rows xs w ops f r).1) e
apply_lt Shl rows input w v ops xs n f i r e = below_unless _ _ n (2 ^ w) (mod-lt _ (pow_pos w)) e
apply_lt Ashr rows input w v ops xs n f i r e = below_unless _ _ n (2 ^ w) (unsigned_lt w _) e
apply_lt Lshr rows input w v ops xs n f i r e = below_unless _ _ n (2 ^ w) (lt_of_le_of_lt (div-le_self _ _) (two rows xs w ops f r).0) e
apply_lt Select rows input w v ops xs n f i r e = let a = arms rows xs w ops f r in below_some _ n (2 ^ w) (one_of (eqb (get_or xs 0 0) 0) _ _ (2 ^ w) a.1 a.0) e
apply_lt Zext rows input w v ops xs n f i r e = below_some _ n (2 ^ w) (narrower rows xs w ops f r) e
apply_lt Sext rows input w v ops xs n f i r e = below_some _ n (2 ^ w) (unsigned_lt w _) e
apply_lt Eq rows input w v ops xs n f i r e = truth_fits _ w n (compared_bit rows w ops f) e
apply_lt Ne rows input w v ops xs n f i r e = truth_fits _ w n (differing_bit rows w ops f) e
apply_lt Slt rows input w v ops xs n f i r e = truth_fits _ w n (compared_bit rows w ops f) e
apply_lt Sle rows input w v ops xs n f i r e = truth_fits _ w n (compared_bit rows w ops f) e
apply_lt Ult rows input w v ops xs n f i r e = truth_fits _ w n (compared_bit rows w ops f) e
apply_lt Ule rows input w v ops xs n f i r e = truth_fits _ w n (compared_bit rows w ops f) e
apply_lt Ctpop rows input w v ops xs n f i r e = below_some _ n (2 ^ w) (lt_of_le_of_lt (ones-le w _ (one rows xs w ops f r)) (lt_pow w)) e
apply_lt Bitreverse rows input w v ops xs n f i r e = below_some _ n (2 ^ w) (bit_reverse_lt w _) e
apply_lt Ctlz rows input w v ops xs n f i r e = below_some _ n (2 ^ w) (lt_of_le_of_lt (leading_le w _) (lt_pow w)) e
apply_lt Cttz rows input w v ops xs n f i r e = below_some _ n (2 ^ w) (lt_of_le_of_lt (trailing_le w _) (lt_pow w)) e
apply_lt SaddSat rows input w v ops xs n f i r e = below_some _ n (2 ^ w) (unsigned_lt w _) e
apply_lt SsubSat rows input w v ops xs n f i r e = below_some _ n (2 ^ w) (unsigned_lt w _) e
apply_lt UsubSat rows input w v ops xs n f i r e = below_some _ n (2 ^ w) (omega (arith, (two rows xs w ops f r).0)) e

-- ---- from the numbers on the rows

-- each number that there is fits the width of its row
AllFit : List Row → (ℕ → Option ℕ) → Type 0
AllFit rows number = (s m : ℕ) → number s ≡ Some m → m < 2 ^ (row_at rows s).width

operand_lt : (rows : List Row) (number : ℕ → Option ℕ) → AllFit rows number → (x : Operand) (w m : ℕ) → HasWidthOrZero rows w x → operand_number number x ≡ Some m → m < 2 ^ w
unfolding AllFit
operand_lt rows number h (operand.Row s) w m e q = subst (λ v. m < 2 ^ v) e (h s m q)
operand_lt rows number h (operand.Constant v z) w m e q = subst (λ k. k < 2 ^ w) (some_injective _ _ q) (subst (λ k. unsigned v z < 2 ^ k) e (unsigned_lt v z))
operand_lt rows number h operand.Zero w m e q = let z : 0 ≡ m = some_injective _ _ q in omega (arith, pow_pos w)

numbers_fit : (rows : List Row) (number : ℕ → Option ℕ) → AllFit rows number → (ops : List Operand) (xs : List ℕ) → all_of (map (operand_number number) ops) ≡ Some xs → InRange rows ops xs
unfolding InRange
numbers_fit rows number h ops xs e k w l f = operand_lt rows number h (get_or ops k operand.Zero) w (get_or xs k 0) f ((all_of_some (operand_number number) ops xs operand.Zero e).1 k l)

result_fits : (rows : List Row) (number : ℕ → Option ℕ) → AllFit rows number → (input : ℕ) (row : Row) (n : ℕ)
    → KindFits rows row.width (kind_of row.word) row.operands → (row.word ≡ Var → input < 2 ^ row.width) → row_result rows number input row ≡ Some n → n < 2 ^ row.width
result_fits rows number h input row n f i e =
    let a = and_then_some (operand_numbers number row.operands) _ n e in
    apply_lt row.word rows input row.width _ row.operands a.0 n f i (numbers_fit rows number h (listed row.operands) a.0 a.1) a.2

rounds_fit : (rows : List Row) (inputs : ℕ → ℕ) → WidthsPass rows → RowInputsFit rows inputs → (d : ℕ) → AllFit rows (rounds (row_step rows inputs) d)
unfolding rounds AllFit
rounds_fit rows inputs p i zero r n e = none_is_no_some n e
rounds_fit rows inputs p i (suc d) r n e = at (cases_lt r (length rows)) (rounds_fit rows inputs p i d)
  where
    at : (r < length rows) ⊎ (length rows ≤ r) → AllFit rows (rounds (row_step rows inputs) d) → n < 2 ^ (row_at rows r).width
    at (inl l) ih = result_fits rows (rounds (row_step rows inputs) d) ih (inputs r) (row_at rows r) n (p r l).fits (i r) (sym (step_at rows inputs _ r l) ∙ e)
    at (inr l) ih = none_is_no_some n (sym (step_past rows inputs _ r l) ∙ e)

pub row_numbers_in_range : RowNumbersInRange
unfolding row_number AllFit
row_numbers_in_range rows inputs p i r n e = rounds_fit rows inputs p i (length rows) r n e
