-- The number on a value's row is the value's number.
-- By induction on the place of the value in the walk: what it uses comes earlier. Assumes nothing. Assumes nothing.
use Rattle.std.proofs.Common.{◌≡◌, ℕ, zero, suc, ◌+◌, ◌-◌, ◌%◌, ◌^◌, ◌<◌, ◌≤◌, Bool, true, false, cond, not, T, eqb, List, [], ◌∷◌, map, length, get_or, ℤ, pos, negsuc, is_some, Some, None, Option, sym, refl, ap, ◌∙◌, subst, add-zero, mod-eq_of_lt, arith, pow_pos}
use lib.Bits.{bit_xor}
use lib.ListN.{length-map}
use Rattle.ir.specs.Bitvectors.{unsigned}
use Rattle.ir.specs.Codes.{intcc_word}
use Rattle.souper.specs.Words.{apply}
use Rattle.ir.specs.Entities.{values}
use Rattle.ir.specs.Widths.{Signature, is_immediate, is_zero}
use Rattle.ir.proofs.Immediates.{number_zero}
use Rattle.ir.specs.declared.instructions.Operands.{Operands}
use Rattle.ir.specs.declared.opcodes.Opcode.{Opcode}
use Rattle.ir.specs.declared.opcodes.Opcode.TheVariants as op
use Rattle.ir.specs.declared.condcodes.IntCC.{IntCC}
use Rattle.ir.specs.declared.condcodes.IntCC.TheVariants as cond
use Rattle.flow.specs.Meaning.{Flow, node, width_of, def_of, used, uses, DefFits, Lawful}
use Rattle.flow.specs.Walk.{Ordered, In, place_of}
use Rattle.flow.specs.declared.definition.ValueDef.{ValueDef}
use Rattle.flow.specs.declared.definition.ValueDef.TheVariants as def
use Rattle.flow.specs.Number.{number_of, def_number, InputsFit}
use Rattle.ir.specs.Options.{and_then}
use Rattle.flow.specs.Rounds.{all_of}
use Rattle.flow.proofs.Range.{numbers_in_range, operands_in_range}
use Rattle.ir.proofs.Options.{none_is_no_some, some_injective}
use Rattle.flow.proofs.Sequences.{and_then_some}
use Rattle.flow.proofs.Unfolds.{number_unfolds}
use Rattle.souper.specs.Counted.{is_translated}
use Rattle.souper.specs.declared.rows.Row.{Row}
use Rattle.souper.specs.Rows.{given, listed, operand_number, operand_width, row_at, row_number, row_result}
use Rattle.souper.specs.Soundness.{is_variable_row, VariablesCarry, TranslationSound, DefinedRowsSound}
use Rattle.souper.specs.declared.form.Form.{Form}
use Rattle.souper.specs.declared.form.Form.TheVariants.{Untranslated, Plain, Inverted, Selected, Compared}
use Rattle.souper.specs.Translation.{Shape, no_row, rows_as, has_row, with_word, word_row, shape, shape_of, form_of, same_widths, condition_helpers, helpers, row_count_of, row_count, start_of, row_of, operand_at, operand_of, select_rows, form_rows, shape_rows, translation}
use Rattle.ir.specs.declared.words.Word.{Word}
use Rattle.souper.specs.declared.rows.Operand.{Operand}
use Rattle.souper.specs.declared.rows.Operand.TheVariants as operand
use Rattle.souper.proofs.Agreement.{form_number, form_agrees}
use Rattle.souper.proofs.Places.{start_order, row_there}
use Rattle.souper.proofs.RowUnfolds.{row_unfolds}

-- ---- how many operands the operations of a form have

abbrev pub Arity : Form → ℕ → Type 0
Arity Untranslated n = Unit {0}
Arity (Plain word) n = (0 < n) × (n ≤ 3)
Arity Inverted n = n ≡ 1
Arity Selected n = n ≡ 3
Arity (Compared word) n = (0 < n) × (n ≤ 3)

condition_arity : (c : IntCC) (n : ℕ) → (0 < n) × (n ≤ 3) → Arity (with_word Compared (intcc_word c)) n
condition_arity cond.Equal n h = h
condition_arity cond.NotEqual n h = h
condition_arity cond.SignedLessThan n h = h
condition_arity cond.SignedGreaterThanOrEqual n h = tt
condition_arity cond.SignedGreaterThan n h = tt
condition_arity cond.SignedLessThanOrEqual n h = h
condition_arity cond.UnsignedLessThan n h = h
condition_arity cond.UnsignedGreaterThanOrEqual n h = tt
condition_arity cond.UnsignedGreaterThan n h = tt
condition_arity cond.UnsignedLessThanOrEqual n h = h

one_few : (n : ℕ) → n ≡ 1 → (0 < n) × (n ≤ 3)
one_few n e = (omega arith, omega arith)

two_few : (n : ℕ) → n ≡ 2 → (0 < n) × (n ≤ 3)
two_few n e = (omega arith, omega arith)

pub form_arity : (o : Opcode) (c : IntCC) (same : Bool) (w : ℕ) (ws : List ℕ) → Signature o w ws → Arity (form_of o c same) (length ws)
form_arity op.Iconst c same w ws s = absurd s
form_arity op.Iadd c same w ws s = two_few (length ws) (ap length s)
form_arity op.Imul c same w ws s = two_few (length ws) (ap length s)
form_arity op.Udiv c same w ws s = two_few (length ws) (ap length s)
form_arity op.Sdiv c same w ws s = two_few (length ws) (ap length s)
form_arity op.Urem c same w ws s = two_few (length ws) (ap length s)
form_arity op.Srem c same w ws s = two_few (length ws) (ap length s)
form_arity op.Band c same w ws s = two_few (length ws) (ap length s)
form_arity op.Bor c same w ws s = two_few (length ws) (ap length s)
form_arity op.Bxor c same w ws s = two_few (length ws) (ap length s)
form_arity op.Bnot c same w ws s = ap length s
form_arity op.Ishl c true w ws s = two_few (length ws) (ap length s.1)
form_arity op.Ishl c false w ws s = tt
form_arity op.Sshr c true w ws s = two_few (length ws) (ap length s.1)
form_arity op.Sshr c false w ws s = tt
form_arity op.Ushr c true w ws s = two_few (length ws) (ap length s.1)
form_arity op.Ushr c false w ws s = tt
form_arity op.Select c same w ws s = ap length s.1
form_arity op.Uextend c same w ws s = one_few (length ws) (ap length s.1)
form_arity op.Sextend c same w ws s = one_few (length ws) (ap length s.1)
form_arity op.Icmp c same w ws s = condition_arity c (length ws) (two_few (length ws) (ap length s.1))
form_arity op.Popcnt c same w ws s = one_few (length ws) (ap length s)
form_arity op.Bitrev c same w ws s = one_few (length ws) (ap length s)
form_arity op.Clz c same w ws s = one_few (length ws) (ap length s)
form_arity op.Ctz c same w ws s = one_few (length ws) (ap length s)
form_arity op.SaddSat c same w ws s = two_few (length ws) (ap length s)
form_arity op.SsubSat c same w ws s = two_few (length ws) (ap length s)
form_arity op.UsubSat c same w ws s = two_few (length ws) (ap length s)
form_arity op.Opaque c same w ws s = absurd s

-- ---- the last row of a form

pub select_width : (g : Flow) (walk : List ℕ) (w start u : ℕ) (s : Shape) (x y : Operand) → (row_at (select_rows w start (operand_at g u (row_of g walk u) s) x y) (condition_helpers s)).width ≡ w
select_width g walk w start u (no_row z) x y = refl
select_width g walk w start u (rows_as f vs) x y = refl

pub last_width : (g : Flow) (walk : List ℕ) (w start : ℕ) (f : Form) (vs : List ℕ) → (row_at (form_rows (operand_of g walk) w start f vs) (helpers g f vs)).width ≡ w
last_width g walk w start Untranslated vs = refl
last_width g walk w start (Plain word) vs = refl
last_width g walk w start Inverted vs = refl
last_width g walk w start Selected vs = select_width g walk w start (get_or vs 0 0) (shape g (get_or vs 0 0)) _ _
last_width g walk w start (Compared word) vs = refl

pub row_is : (g : Flow) (walk : List ℕ) (v : ℕ) (f : Form) (vs : List ℕ) → shape g v ≡ rows_as f vs → row_of g walk v ≡ start_of g walk v + helpers g f vs
unfolding row_of
row_is g walk v f vs e = rw e (omega arith)

-- a row of a value, and that it is there
pub form_row_at : (g : Flow) (walk : List ℕ) (v : ℕ) (f : Form) (vs : List ℕ) (j : ℕ) → In walk v → shape g v ≡ rows_as f vs → j ≤ helpers g f vs
    → (start_of g walk v + j < length (translation g walk)) × (row_at (translation g walk) (start_of g walk v + j) ≡ row_at (form_rows (operand_of g walk) (width_of g v) (start_of g walk v) f vs) j)
form_row_at g walk v f vs j i e h =
    let c : row_count g v ≡ helpers g f vs + 1 = ap (row_count_of g) e in
    let r = row_there g walk v j i (omega arith) in
    (r.0, r.1 ∙ ap (λ (s : Shape). row_at (shape_rows (operand_of g walk) (width_of g v) (start_of g walk v) s) j) e)

pub operand_width_is : (g : Flow) (walk : List ℕ) (u : ℕ) → In walk u → operand_width (translation g walk) (operand_of g walk u) ≡ width_of g u
operand_width_is g walk u i = at (shape g u) refl
  where
    at : (s : Shape) → shape g u ≡ s → operand_width (translation g walk) (operand_at g u (row_of g walk u) s) ≡ width_of g u
    at (no_row z) e = refl
    at (rows_as f vs) e =
        rw (row_is g walk u f vs e)
        (ap (λ (l : Row). l.width) (form_row_at g walk u f vs (helpers g f vs) i e (omega arith)).1 ∙ last_width g walk (width_of g u) (start_of g walk u) f vs)

-- ---- a word over its operands

listed_given : (of : ℕ → Operand) (vs : List ℕ) → length vs ≤ 3 → listed (given (map of vs)) ≡ map of vs
listed_given of [] h = refl
listed_given of (a ∷ []) h = refl
listed_given of (a ∷ (b ∷ [])) h = refl
listed_given of (a ∷ (b ∷ (c ∷ []))) h = refl
listed_given of (a ∷ (b ∷ (c ∷ (d ∷ vs)))) h = absurd (omega arith)

word_result : (rows : List Row) (number : ℕ → Option ℕ) (input w : ℕ) (word : Word) (of : ℕ → Operand) (vs : List ℕ) → length vs ≤ 3
    → row_result rows number input (word_row of w word vs) ≡ and_then (all_of (map (operand_number number) (map of vs))) (apply word input w (operand_width rows (get_or (map of vs) 0 operand.Zero)))
word_result rows number input w word of vs h =
    ap (λ xs. and_then (all_of (map (operand_number number) xs)) (apply word input w (operand_width rows (get_or xs 0 operand.Zero)))) (listed_given of vs h)

-- ---- rows of one, two and three operands, taken apart

one_operand : (x : Option ℕ) (F : List ℕ → Option ℕ) (n : ℕ) → and_then (all_of (x ∷ [])) F ≡ Some n → (a : ℕ) × (x ≡ Some a) × (F (a ∷ []) ≡ Some n)
one_operand (Some a) F n e = (a, refl, e)
one_operand None F n e = none_is_no_some n e

two_operands : (x y : Option ℕ) (F : List ℕ → Option ℕ) (n : ℕ) → and_then (all_of (x ∷ y ∷ [])) F ≡ Some n
    → (a : ℕ) × (b : ℕ) × (x ≡ Some a) × (y ≡ Some b) × (F (a ∷ b ∷ []) ≡ Some n)
two_operands (Some a) (Some b) F n e = (a, b, refl, refl, e)
two_operands (Some a) None F n e = none_is_no_some n e
two_operands None y F n e = none_is_no_some n e

three_operands : (x y z : Option ℕ) (F : List ℕ → Option ℕ) (n : ℕ) → and_then (all_of (x ∷ y ∷ z ∷ [])) F ≡ Some n
    → (a : ℕ) × (b : ℕ) × (c : ℕ) × (x ≡ Some a) × (y ≡ Some b) × (z ≡ Some c) × (F (a ∷ b ∷ c ∷ []) ≡ Some n)
three_operands (Some a) (Some b) (Some c) F n e = (a, b, c, refl, refl, refl, e)
three_operands (Some a) (Some b) None F n e = none_is_no_some n e
three_operands (Some a) None z F n e = none_is_no_some n e
three_operands None y z F n e = none_is_no_some n e

-- a condition of width 1 chooses as the number that it stands for
constant_chooses : (b : Bool) (x y : ℕ) → cond (eqb (unsigned 1 (cond b (pos 0) (pos 1))) 0) y x ≡ cond b y x
unfolding unsigned
constant_chooses true x y = refl
constant_chooses false x y = refl

helper_chooses : (b : Bool) (x y : ℕ) → cond (eqb (cond (not b) 1 0) 0) y x ≡ cond b y x
helper_chooses true x y = refl
helper_chooses false x y = refl

pub is_untranslated : (f : Form) → is_translated f ≡ false → f ≡ Untranslated
is_untranslated Untranslated e = refl
is_untranslated (Plain word) e = cc
is_untranslated Inverted e = cc
is_untranslated Selected e = cc
is_untranslated (Compared word) e = cc

-- ---- the theorem

-- a constant condition is zero where its number is
constant_zero : (g : Flow) → Lawful g → (v : ℕ) (d : ValueDef) (z : ℤ) → def_of g v ≡ d → shape_of g d ≡ no_row z → is_zero z ≡ eqb (unsigned (width_of g v) z) 0
constant_zero g wf v (def.Constant y) z e s =
    let q : y ≡ z = cc in
    let fits : DefFits g (width_of g v) (def.Constant y) = subst (DefFits g (width_of g v)) e (wf.fits v) in
    sym (number_zero (width_of g v) z (subst (λ k. T (is_immediate (width_of g v) k)) q fits.1))
constant_zero g wf v (def.Operation o c args) z e s = cc
constant_zero g wf v def.Variable z e s = cc
constant_zero g wf v def.Deleted z e s = cc

-- the number of all ones
all_ones : (w : ℕ) → unsigned w (negsuc 0) ≡ 2 ^ w - 1
unfolding unsigned
all_ones w = let z : 0 % 2 ^ w ≡ 0 = mod-eq_of_lt (pow_pos w) in omega arith

module _ (g : Flow) (walk : List ℕ) (originals inputs : ℕ → ℕ) (wf : Lawful g) where
  abbrev rows : List Row
  rows = translation g walk

  abbrev on_row : ℕ → Option ℕ
  on_row = row_number rows inputs

  abbrev of_value : ℕ → Option ℕ
  of_value = number_of g originals

  -- the operand for a value has the value's number, if it has one
  abbrev Known : ℕ → Type 0
  Known u = (m : ℕ) → operand_number on_row (operand_of g walk u) ≡ Some m → of_value u ≡ Some m

  AllKnown : List ℕ → Type 0
  AllKnown vs = (k : ℕ) → k < length vs → In walk (get_or vs k 0) × Known (get_or vs k 0)

  number_on : (v : ℕ) (f : Form) (vs : List ℕ) (j : ℕ) → In walk v → shape g v ≡ rows_as f vs → j ≤ helpers g f vs
      → on_row (start_of g walk v + j) ≡ row_result rows on_row (inputs (start_of g walk v + j)) (row_at (form_rows (operand_of g walk) (width_of g v) (start_of g walk v) f vs) j)
  number_on v f vs j i e h =
      let r = form_row_at g walk v f vs j i e h in
      row_unfolds rows inputs (start_of g walk v + j) r.0 ∙ ap (row_result rows on_row (inputs (start_of g walk v + j))) r.1

  -- the value's own row
  last_number : (v : ℕ) (f : Form) (vs : List ℕ) (n : ℕ) → In walk v → shape g v ≡ rows_as f vs → on_row (row_of g walk v) ≡ Some n
      → row_result rows on_row (inputs (start_of g walk v + helpers g f vs)) (row_at (form_rows (operand_of g walk) (width_of g v) (start_of g walk v) f vs) (helpers g f vs)) ≡ Some n
  last_number v f vs n i e q = sym (number_on v f vs (helpers g f vs) i e (omega arith)) ∙ ap on_row (sym (row_is g walk v f vs e)) ∙ q

  operands_known : (vs xs : List ℕ) → AllKnown vs → all_of (map (operand_number on_row) (map (operand_of g walk) vs)) ≡ Some xs → all_of (map of_value vs) ≡ Some xs
  unfolding AllKnown
  operands_known [] xs h e = e
  operands_known (u ∷ vs) xs h e =
      let a = and_then_some (operand_number on_row (operand_of g walk u)) (λ n. and_then (all_of (map (operand_number on_row) (map (operand_of g walk) vs))) (λ ms. Some (n ∷ ms))) xs e in
      let b = and_then_some (all_of (map (operand_number on_row) (map (operand_of g walk) vs))) (λ ms. Some (a.0 ∷ ms)) xs a.2 in
      rw ((h 0 (omega arith)).1 a.0 a.1, operands_known vs b.0 (λ k l. h (suc k) (omega arith)) b.1) b.2

  known_width : (vs : List ℕ) → 0 < length vs → AllKnown vs → operand_width rows (get_or (map (operand_of g walk) vs) 0 operand.Zero) ≡ width_of g (get_or vs 0 0)
  unfolding AllKnown
  known_width [] h k = absurd (omega arith)
  known_width (u ∷ vs) h k = operand_width_is g walk u (k 0 (omega arith)).0

  -- what the rows of an operation give, from the numbers of its operands
  Given : ℕ → Form → List ℕ → ℕ → Type 0
  Given v f vs n = (input : ℕ) × (xs : List ℕ) × (all_of (map of_value vs) ≡ Some xs) × (form_number f input (width_of g v) (width_of g (get_or vs 0 0)) xs ≡ Some n)

  plain_given : (v : ℕ) (word : Word) (vs : List ℕ) (n : ℕ) → In walk v → shape g v ≡ rows_as (Plain word) vs → (0 < length vs) × (length vs ≤ 3) → AllKnown vs
      → on_row (row_of g walk v) ≡ Some n → Given v (Plain word) vs n
  unfolding Given
  plain_given v word vs n i e l k q =
      let input : ℕ = inputs (start_of g walk v + 0) in
      let own = sym (word_result rows on_row input (width_of g v) word (operand_of g walk) vs l.1) ∙ last_number v (Plain word) vs n i e q in
      let a = and_then_some (all_of (map (operand_number on_row) (map (operand_of g walk) vs))) _ n own in
      (input, a.0, operands_known vs a.0 k a.1, rw (← known_width vs l.0 k) a.2)

  compared_given : (v : ℕ) (word : Word) (vs : List ℕ) (n : ℕ) → In walk v → shape g v ≡ rows_as (Compared word) vs → (0 < length vs) × (length vs ≤ 3) → AllKnown vs
      → on_row (row_of g walk v) ≡ Some n → Given v (Compared word) vs n
  unfolding Given
  compared_given v word vs n i e l k q =
      let input : ℕ = inputs (start_of g walk v + 0) in
      let z = one_operand (on_row (start_of g walk v)) _ n (last_number v (Compared word) vs n i e q) in
      let helper : on_row (start_of g walk v + 0) ≡ Some n = rw add-zero (z.1 ∙ z.2) in
      let own = sym (word_result rows on_row input 1 word (operand_of g walk) vs l.1) ∙ sym (number_on v (Compared word) vs 0 i e (omega arith)) ∙ helper in
      let a = and_then_some (all_of (map (operand_number on_row) (map (operand_of g walk) vs))) _ n own in
      (input, a.0, operands_known vs a.0 k a.1, rw (← known_width vs l.0 k) a.2)

  inverted_given : (v : ℕ) (vs : List ℕ) (n : ℕ) → In walk v → shape g v ≡ rows_as Inverted vs → length vs ≡ 1 → AllKnown vs
      → on_row (row_of g walk v) ≡ Some n → Given v Inverted vs n
  unfolding Given AllKnown
  inverted_given v [] n i e l k q = absurd (omega arith)
  inverted_given v (u ∷ []) n i e l k q =
      let a = two_operands (operand_number on_row (operand_of g walk u)) (Some (unsigned (width_of g v) (negsuc 0))) _ n (last_number v Inverted (u ∷ []) n i e q) in
      (0, a.0 ∷ [], rw ((k 0 (omega arith)).1 a.0 a.2) refl, ap (λ b. Some (bit_xor a.0 b)) (sym (all_ones (width_of g v)) ∙ some_injective _ _ a.3) ∙ a.4)
  inverted_given v (u ∷ (t ∷ us)) n i e l k q = absurd (omega arith)

  -- a select, by what its condition is
  select_given : (v u x y : ℕ) (s : Shape) (input n : ℕ) → shape g u ≡ s
      → ((f : Form) (vs : List ℕ) → s ≡ rows_as f vs → on_row (start_of g walk v) ≡ and_then (all_of (on_row (row_of g walk u) ∷ Some 0 ∷ [])) (λ ms. Some (cond (not (eqb (get_or ms 0 0) (get_or ms 1 0))) 1 0)))
      → Known u → Known x → Known y
      → row_result rows on_row input (row_at (select_rows (width_of g v) (start_of g walk v) (operand_at g u (row_of g walk u) s) (operand_of g walk x) (operand_of g walk y)) (condition_helpers s)) ≡ Some n
      → (a : ℕ) × (b : ℕ) × (c : ℕ) × (of_value u ≡ Some a) × (of_value x ≡ Some b) × (of_value y ≡ Some c) × (Some (cond (eqb a 0) c b) ≡ Some n)
  select_given v u x y (no_row z) input n e help ku kx ky q =
      let m : ℕ = unsigned (width_of g u) z in
      let a = three_operands (Some (unsigned 1 (cond (is_zero z) (pos 0) (pos 1)))) (operand_number on_row (operand_of g walk x)) (operand_number on_row (operand_of g walk y)) _ n q in
      let p : unsigned 1 (cond (eqb m 0) (pos 0) (pos 1)) ≡ a.0 = ap (λ b. unsigned 1 (cond b (pos 0) (pos 1))) (sym (constant_zero g wf u (def_of g u) z refl e)) ∙ some_injective _ _ a.3 in
      let t : operand_number on_row (operand_of g walk u) ≡ Some m = ap (λ (r : Shape). operand_number on_row (operand_at g u (row_of g walk u) r)) e in (
        m,
        a.1,
        a.2,
        ku m t,
        kx a.1 a.4,
        ky a.2 a.5,
        ap Some (sym (constant_chooses (eqb m 0) a.1 a.2) ∙ ap (λ k. cond (eqb k 0) a.2 a.1) p) ∙ a.6,
      )
  select_given v u x y (rows_as f vs) input n e help ku kx ky q =
      let a = three_operands (on_row (start_of g walk v)) (operand_number on_row (operand_of g walk x)) (operand_number on_row (operand_of g walk y)) _ n q in
      let b = two_operands (on_row (row_of g walk u)) (Some 0) (λ ms. Some (cond (not (eqb (get_or ms 0 0) (get_or ms 1 0))) 1 0)) a.0 (sym (help f vs refl) ∙ a.3) in
      let z : 0 ≡ b.1 = some_injective _ _ b.3 in
      let p : cond (not (eqb b.0 0)) 1 0 ≡ a.0 = some_injective _ _ (rw (← z) at b.4) in
      let t : operand_number on_row (operand_of g walk u) ≡ Some b.0 = ap (λ (r : Shape). operand_number on_row (operand_at g u (row_of g walk u) r)) e ∙ b.2 in (
        b.0,
        a.1,
        a.2,
        ku b.0 t,
        kx a.1 a.4,
        ky a.2 a.5,
        ap Some (sym (helper_chooses (eqb b.0 0) a.1 a.2) ∙ ap (λ m. cond (eqb m 0) a.2 a.1) p) ∙ a.6,
      )

  selected_given : (v : ℕ) (vs : List ℕ) (n : ℕ) → In walk v → shape g v ≡ rows_as Selected vs → length vs ≡ 3 → AllKnown vs
      → on_row (row_of g walk v) ≡ Some n → Given v Selected vs n
  unfolding Given AllKnown
  selected_given v [] n i e l k q = absurd (omega arith)
  selected_given v (u ∷ []) n i e l k q = absurd (omega arith)
  selected_given v (u ∷ (x ∷ [])) n i e l k q = absurd (omega arith)
  selected_given v (u ∷ (x ∷ (y ∷ []))) n i e l k q =
      let a = select_given v u x y (shape g u) _ n refl
      (λ f ws s. ap on_row (sym (add-zero (start_of g walk v))) ∙ number_on v Selected (u ∷ x ∷ y ∷ []) 0 i e (omega arith)
      ∙ ap (λ (r : Shape). row_result rows on_row (inputs (start_of g walk v + 0)) (row_at (select_rows (width_of g v) (start_of g walk v) (operand_at g u (row_of g walk u) r) (operand_of g walk x) (operand_of g walk y)) 0)) s)
      (k 0 (omega arith)).1 (k 1 (omega arith)).1 (k 2 (omega arith)).1 (last_number v Selected (u ∷ x ∷ y ∷ []) n i e q) in
      (0, a.0 ∷ a.1 ∷ a.2 ∷ [], rw (a.3, a.4, a.5) refl, a.6)
  selected_given v (u ∷ (x ∷ (y ∷ (z ∷ us)))) n i e l k q = absurd (omega arith)

  form_given : (v : ℕ) (f : Form) (vs : List ℕ) (n : ℕ) → In walk v → shape g v ≡ rows_as f vs → is_translated f ≡ true → Arity f (length vs) → AllKnown vs
      → on_row (row_of g walk v) ≡ Some n → Given v f vs n
  form_given v Untranslated vs n i e t l k q = cc
  form_given v (Plain word) vs n i e t l k q = plain_given v word vs n i e l k q
  form_given v Inverted vs n i e t l k q = inverted_given v vs n i e l k q
  form_given v Selected vs n i e t l k q = selected_given v vs n i e l k q
  form_given v (Compared word) vs n i e t l k q = compared_given v word vs n i e l k q

  number_by : (v : ℕ) (d : ValueDef) → def_of g v ≡ d → of_value v ≡ def_number g originals of_value (node g v) d
  number_by v d e = number_unfolds g originals v ∙ ap (def_number g originals of_value (node g v)) e

  module _ (wk : Ordered g walk) (fit : InputsFit g originals) where
    operation_sound : (v : ℕ) (o : Opcode) (c : IntCC) (args : Operands) (n : ℕ) → In walk v → def_of g v ≡ def.Operation o c args → is_translated (form_of o c (same_widths g (values args))) ≡ true
        → AllKnown (values args) → on_row (row_of g walk v) ≡ Some n → of_value v ≡ Some n
    unfolding Given
    operation_sound v o c args n i e t k q =
        let vs : List ℕ = values args in
        let fits : DefFits g (width_of g v) (def.Operation o c args) = subst (DefFits g (width_of g v)) e (wf.fits v) in
        let l : length (map (width_of g) vs) ≡ length vs = length-map vs (width_of g) in
        let f : Form = form_of o c (same_widths g vs) in
        let a = form_given v f vs n i (ap (shape_of g) e) t (subst (Arity f) l (form_arity o c (same_widths g vs) (width_of g v) (map (width_of g) vs) fits.2)) k q in
        let r = operands_in_range g of_value (numbers_in_range g originals wf fit) vs a.1 a.2 in
        number_by v (def.Operation o c args) e ∙ rw a.2 (form_agrees o c (same_widths g vs) a.0 (width_of g v) (width_of g (get_or vs 0 0)) (map (width_of g) vs) a.1 n fits.2 r a.3)

    module _ (bound : ℕ) (carry : VariablesCarry g walk originals inputs bound) where
      variable_sound : (v : ℕ) (vs : List ℕ) (n : ℕ) → In walk v → shape g v ≡ rows_as Untranslated vs → row_of g walk v ≤ bound → on_row (row_of g walk v) ≡ Some n → of_value v ≡ Some n
      variable_sound v vs n i e b q =
          carry v i (ap is_variable_row e) b ∙ ap (λ r. Some (inputs r)) (row_is g walk v Untranslated vs e) ∙ last_number v Untranslated vs n i e q

      Sound : ℕ → Type 0
      Sound v = In walk v → has_row (shape g v) ≡ true → row_of g walk v ≤ bound → (n : ℕ) → on_row (row_of g walk v) ≡ Some n → of_value v ≡ Some n

      known : (u : ℕ) → In walk u → row_of g walk u ≤ bound → Sound u → (d : ValueDef) → def_of g u ≡ d → Known u
      unfolding Sound
      known u i b s (def.Constant z) e m q = number_by u (def.Constant z) e ∙ sym (ap (λ (d : ValueDef). operand_number on_row (operand_at g u (row_of g walk u) (shape_of g d))) e) ∙ q
      known u i b s (def.Operation o c args) e m q =
          s i (ap (λ (d : ValueDef). has_row (shape_of g d)) e) b m (sym (ap (λ (d : ValueDef). operand_number on_row (operand_at g u (row_of g walk u) (shape_of g d))) e) ∙ q)
      known u i b s def.Variable e m q =
          s i (ap (λ (d : ValueDef). has_row (shape_of g d)) e) b m (sym (ap (λ (d : ValueDef). operand_number on_row (operand_at g u (row_of g walk u) (shape_of g d))) e) ∙ q)
      known u i b s def.Deleted e m q =
          s i (ap (λ (d : ValueDef). has_row (shape_of g d)) e) b m (sym (ap (λ (d : ValueDef). operand_number on_row (operand_at g u (row_of g walk u) (shape_of g d))) e) ∙ q)

      operation_known : (v : ℕ) (o : Opcode) (c : IntCC) (args : Operands) → In walk v → def_of g v ≡ def.Operation o c args → row_of g walk v ≤ bound
          → ((u : ℕ) → place_of walk u < place_of walk v → Sound u) → AllKnown (values args)
      unfolding AllKnown row_of
      operation_known v o c args i e b ih k l =
          let vs : List ℕ = values args in
          let s : uses g v ≡ vs = ap used e in
          let p : place_of walk (get_or vs k 0) < place_of walk v = subst (λ (us : List ℕ). k < length us → place_of walk (get_or us k 0) < place_of walk v) s (wk.operands_first v k i) l in
          let j : In walk (get_or vs k 0) = omega arith in
          let c : 1 ≤ row_count g v = rw (ap (λ (d : ValueDef). row_count_of g (shape_of g d)) e) (omega arith) in
          (j, known (get_or vs k 0) j (omega (arith, start_order g walk (get_or vs k 0) v p)) (ih (get_or vs k 0) p) (def_of g (get_or vs k 0)) refl)

      by_def : (v : ℕ) (d : ValueDef) → def_of g v ≡ d → ((u : ℕ) → place_of walk u < place_of walk v → Sound u) → Sound v
      unfolding Sound
      by_def v (def.Constant z) e ih i h b n q = let z : has_row (shape g v) ≡ false = ap (λ (d : ValueDef). has_row (shape_of g d)) e in cc
      by_def v (def.Operation o c args) e ih i h b n q = at (is_translated (form_of o c (same_widths g (values args)))) refl
        where
          at : (t : Bool) → is_translated (form_of o c (same_widths g (values args))) ≡ t → of_value v ≡ Some n
          at true t = operation_sound v o c args n i e t (operation_known v o c args i e b ih) q
          at false t = variable_sound v (values args) n i (ap (shape_of g) e ∙ ap (λ (f : Form). rows_as f (values args)) (is_untranslated (form_of o c (same_widths g (values args))) t)) b q
      by_def v def.Variable e ih i h b n q = variable_sound v [] n i (ap (shape_of g) e) b q
      by_def v def.Deleted e ih i h b n q = variable_sound v [] n i (ap (shape_of g) e) b q

      sound_below : (p v : ℕ) → place_of walk v < p → Sound v
      sound_below zero v h = absurd (omega arith)
      sound_below (suc p) v h = by_def v (def_of g v) refl (λ u l. sound_below p u (omega arith))

      sound : (v : ℕ) → Sound v
      sound v = sound_below (suc (place_of walk v)) v (omega arith)

pub translation_sound : TranslationSound
unfolding Sound
translation_sound g walk originals inputs wf wk fit v i h carry n q =
    sound g walk originals inputs wf wk fit (row_of g walk v) carry v i h (omega arith) n q

pub defined_rows_sound : DefinedRowsSound
defined_rows_sound g walk originals inputs wf wk fit v i h carry d = at (row_number (translation g walk) inputs (row_of g walk v)) refl (d (row_of g walk v) (omega arith))
  where
    at : (o : Option ℕ) → row_number (translation g walk) inputs (row_of g walk v) ≡ o → is_some (row_number (translation g walk) inputs (row_of g walk v)) ≡ true
        → (n : ℕ) × (row_number (translation g walk) inputs (row_of g walk v) ≡ Some n) × (number_of g originals v ≡ Some n)
    at (Some n) e t = (n, e, translation_sound g walk originals inputs wf wk fit v i h carry n e)
    at None e t = cc
