-- One row more in a table of numbers. Assumes nothing.
use Rattle.std.proofs.Common.{◌≡◌, ℕ, zero, suc, ◌+◌, ◌<◌, ◌⊎◌, Bool, List, length, get_or, set, find, is_none, cond, Some, None, Option, sym, refl, ap, ◌∙◌, subst, inl, inr, ⊎_elim, arith}
use Rattle.std.specs.List.{range_with_len}
use Rattle.std.proofs.lemmas.List.{get_or-set_same, get_or-set_other}
use Rattle.std.proofs.lemmas.Bool.{cases_eq}
use Rattle.ir.specs.declared.words.Word.{Word}
use Rattle.ir.specs.declared.words.Word.TheVariants.{Var, Add, Mul, Udiv, Sdiv, Urem, Srem, And, Or, Xor, Shl, Ashr, Lshr, Select, Zext, Sext, Eq, Ne, Slt, Sle, Ult, Ule, Ctpop, Bitreverse, Ctlz, Cttz, SaddSat, SsubSat, UsubSat}
use Rattle.ir.specs.Options.{and_then}
use Rattle.souper.specs.Rows.{first_width, listed, operand_number, operand_numbers, operand_width, row_at, row_number, row_result}
use Rattle.souper.specs.Widths.{AllEarlier, Earlier, HasWidth, KindFits, WidthsPass}
use Rattle.souper.specs.Words.{apply, kind_of}
use Rattle.souper.specs.declared.kind.Kind.{Kind}
use Rattle.souper.specs.declared.kind.Kind.TheVariants as kind
use Rattle.souper.specs.declared.rows.Operand.{Operand}
use Rattle.souper.specs.declared.rows.Operand.TheVariants as operand
use Rattle.souper.specs.declared.rows.Row.{Row}
use Rattle.souper.specs.declared.rows.RowOperands.{RowOperands}
use Rattle.souper.specs.declared.rows.RowOperands.TheVariants.{Empty, One, Two, Three}
use Rattle.souper.proofs.RowUnfolds.{row_unfolds}
use Rattle.eval.specs.Known.{AllReadable, Holds, IsWidth, Readable, RowReady, at, perhaps, row_from}
use Rattle.eval.specs.RowAnswer.{first_undefined}
use Rattle.eval.proofs.Operations.{type_width}

-- ---- rows that pass the width check can be worked out

-- a word that passes with no operands is the variable's
variable_if_empty : (word : Word) (rows : List Row) (w : ℕ) → KindFits rows w (kind_of word) Empty → word ≡ Var
variable_if_empty Var rows w f = refl
variable_if_empty Add rows w f = absurd f
variable_if_empty Mul rows w f = absurd f
variable_if_empty Udiv rows w f = absurd f
variable_if_empty Sdiv rows w f = absurd f
variable_if_empty Urem rows w f = absurd f
variable_if_empty Srem rows w f = absurd f
variable_if_empty And rows w f = absurd f
variable_if_empty Or rows w f = absurd f
variable_if_empty Xor rows w f = absurd f
variable_if_empty Shl rows w f = absurd f
variable_if_empty Ashr rows w f = absurd f
variable_if_empty Lshr rows w f = absurd f
variable_if_empty Select rows w f = absurd f
variable_if_empty Zext rows w f = absurd f
variable_if_empty Sext rows w f = absurd f
variable_if_empty Eq rows w f = absurd f
variable_if_empty Ne rows w f = absurd f
variable_if_empty Slt rows w f = absurd f
variable_if_empty Sle rows w f = absurd f
variable_if_empty Ult rows w f = absurd f
variable_if_empty Ule rows w f = absurd f
variable_if_empty Ctpop rows w f = absurd f
variable_if_empty Bitreverse rows w f = absurd f
variable_if_empty Ctlz rows w f = absurd f
variable_if_empty Cttz rows w f = absurd f
variable_if_empty SaddSat rows w f = absurd f
variable_if_empty SsubSat rows w f = absurd f
variable_if_empty UsubSat rows w f = absurd f

-- the first operand of a row that passes has a width
first_has : (rows : List Row) (w : ℕ) (k : Kind) (xs : RowOperands) → KindFits rows w k xs → (xs ≡ Empty) ⊎ ((v : ℕ) × HasWidth rows v (get_or (listed xs) 0 operand.Zero))
first_has rows w k Empty f = inl refl
first_has rows w kind.Unary (One x) f = inr (w, f)
first_has rows w kind.Extension (One x) f = inr (f.0, f.2)
first_has rows w kind.Binary (Two x y) f = inr (w, f.0)
first_has rows w kind.Comparison (Two x y) f = inr (f.1, f.2)
first_has rows w kind.Inequality (Two x y) f = inr (f.1, f.2)
first_has rows w kind.Choice (Three x y z) f = inr (1, f.0)
first_has rows w kind.Variable (One x) f = absurd f
first_has rows w kind.Binary (One x) f = absurd f
first_has rows w kind.Comparison (One x) f = absurd f
first_has rows w kind.Inequality (One x) f = absurd f
first_has rows w kind.Choice (One x) f = absurd f
first_has rows w kind.Variable (Two x y) f = absurd f
first_has rows w kind.Unary (Two x y) f = absurd f
first_has rows w kind.Choice (Two x y) f = absurd f
first_has rows w kind.Extension (Two x y) f = absurd f
first_has rows w kind.Variable (Three x y z) f = absurd f
first_has rows w kind.Unary (Three x y z) f = absurd f
first_has rows w kind.Binary (Three x y z) f = absurd f
first_has rows w kind.Comparison (Three x y z) f = absurd f
first_has rows w kind.Inequality (Three x y z) f = absurd f
first_has rows w kind.Extension (Three x y z) f = absurd f

module _ (rows : List Row) (pass : WidthsPass rows) (r : ℕ) (there : r < length rows) where
  readable : (x : Operand) → Earlier r x → Readable x
  readable (operand.Row s) e = tt
  readable (operand.Constant w z) e = type_width w e
  readable operand.Zero e = tt

  all_readable : (xs : RowOperands) → AllEarlier r xs → AllReadable xs
  all_readable Empty e = tt
  all_readable (One x) e = readable x e
  all_readable (Two x y) e = (readable x e.0, readable y e.1)
  all_readable (Three x y z) e = (readable x e.0, readable y e.1, readable z e.2)

  sized : (x : Operand) → Earlier r x → (v : ℕ) → HasWidth rows v x → IsWidth (operand_width rows x)
  sized (operand.Row s) e v h = type_width (row_at rows s).width (pass s (omega arith)).width
  sized (operand.Constant w z) e v h = type_width w e
  sized operand.Zero e v h = absurd h

  first_sized : (word : Word) (w : ℕ) (xs : RowOperands) → AllEarlier r xs → KindFits rows w (kind_of word) xs → (word ≡ Var) ⊎ IsWidth (first_width rows xs)
  first_sized word w xs e f = at xs e f (first_has rows w (kind_of word) xs f)
    where
      at : (ys : RowOperands) → AllEarlier r ys → KindFits rows w (kind_of word) ys → (ys ≡ Empty) ⊎ ((v : ℕ) × HasWidth rows v (get_or (listed ys) 0 operand.Zero))
          → (word ≡ Var) ⊎ IsWidth (first_width rows ys)
      at Empty g k h = inl (variable_if_empty word rows w k)
      at (One x) g k (inl h) = cc
      at (One x) g k (inr h) = inr (sized x g h.0 h.1)
      at (Two x y) g k (inl h) = cc
      at (Two x y) g k (inr h) = inr (sized x g.0 h.0 h.1)
      at (Three x y z) g k (inl h) = cc
      at (Three x y z) g k (inr h) = inr (sized x g.0 h.0 h.1)

  pub row_ready : RowReady rows (row_at rows r)
  row_ready =
      let fits = pass r there in
      record {
        width = type_width (row_at rows r).width fits.width;
        constants = all_readable (row_at rows r).operands fits.earlier;
        first = first_sized (row_at rows r).word (row_at rows r).width (row_at rows r).operands fits.earlier fits.fits;
      }

  -- ---- one row more

  module _ (f h : ℕ → Option ℕ) (same : (k : ℕ) → k < r → f k ≡ h k) where
    operand_same : (x : Operand) → Earlier r x → operand_number f x ≡ operand_number h x
    operand_same (operand.Row s) e = same s e
    operand_same (operand.Constant w z) e = refl
    operand_same operand.Zero e = refl

    operands_same : (xs : RowOperands) → AllEarlier r xs → operand_numbers f xs ≡ operand_numbers h xs
    operands_same Empty e = refl
    operands_same (One x) e = rw (operand_same x e) refl
    operands_same (Two x y) e = rw (operand_same x e.0, operand_same y e.1) refl
    operands_same (Three x y z) e = rw (operand_same x e.0, operand_same y e.1, operand_same z e.2) refl

    result_same : (input : ℕ) (row : Row) → AllEarlier r row.operands → row_result rows f input row ≡ row_result rows h input row
    result_same input row e = ap (λ (o : Option (List ℕ)). and_then o (apply row.word input row.width (first_width rows row.operands))) (operands_same row.operands e)

  pub holds_more : (inputs : List ℕ) (numbers : List (Option ℕ)) (x : Option ℕ) → Holds rows inputs numbers r → r < length numbers → x ≡ row_from rows numbers (get_or inputs r 0) (row_at rows r)
      → Holds rows inputs (set numbers r x) (r + 1)
  holds_more inputs numbers x holds room e k lt = ⊎_elim own before (cases_eq k r)
    where
      own : k ≡ r → perhaps (set numbers r x) k ≡ row_number rows (at inputs) k
      own q = subst (λ j. perhaps (set numbers r x) j ≡ row_number rows (at inputs) j) (sym q)
          (get_or-set_same numbers r x None room ∙ e
          ∙ result_same (perhaps numbers) (row_number rows (at inputs)) holds (get_or inputs r 0) (row_at rows r) (pass r there).earlier
          ∙ sym (row_unfolds rows (at inputs) r there))

      before : (k ≡ r → ⊥) → perhaps (set numbers r x) k ≡ row_number rows (at inputs) k
      before other = get_or-set_other numbers r k x None other ∙ holds k (omega arith)

-- ---- the first undefined row

find_same : (p q : ℕ → Bool) (a n : ℕ) → ((k : ℕ) → k < a + n → p k ≡ q k) → find p (range_with_len a n) ≡ find q (range_with_len a n)
find_same p q a zero same = refl
find_same p q a (suc n) same =
    ap (λ b. cond b (Some a) (find p (range_with_len (a + 1) n))) (same a (omega arith))
    ∙ ap (λ o. cond (q a) (Some a) o) (find_same p q (a + 1) n (λ k lt. same k (omega arith)))

pub undefined_same : (rows : List Row) (inputs : List ℕ) (numbers : List (Option ℕ)) (n : ℕ) → Holds rows inputs numbers n
    → find (λ k. is_none (perhaps numbers k)) (range_with_len 0 n) ≡ first_undefined rows inputs n
undefined_same rows inputs numbers n holds = find_same _ _ 0 n (λ k lt. ap (λ (o : Option ℕ). is_none o) (holds k (omega arith)))
