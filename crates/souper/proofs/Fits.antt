-- The rows of a translation keep the rules of the width check. Assumes nothing.
use Rattle.std.proofs.Common.{◌≡◌, ℕ, zero, suc, ◌+◌, ◌<◌, ◌≤◌, Bool, true, false, T, List, [], ◌∷◌, map, length, get_or, sym, refl, ap, ◌∙◌, subst, add-zero, arith}
use Rattle.std.proofs.lemmas.Bool.{eqb-true}
use Rattle.ir.specs.Codes.{intcc_word}
use Rattle.ir.specs.Entities.{values}
use Rattle.ir.specs.Widths.{Signature}
use Rattle.ir.specs.declared.condcodes.IntCC.{IntCC}
use Rattle.ir.specs.declared.condcodes.IntCC.TheVariants as cond
use Rattle.ir.specs.declared.opcodes.Opcode.{Opcode}
use Rattle.ir.specs.declared.opcodes.Opcode.TheVariants as op
use Rattle.flow.specs.Meaning.{is_type, Flow, width_of, def_of, used, DefFits, Lawful}
use Rattle.flow.specs.Walk.{Ordered, In, place_of}
use Rattle.flow.specs.declared.definition.ValueDef.{ValueDef}
use Rattle.flow.specs.declared.definition.ValueDef.TheVariants as def
use Rattle.souper.specs.Rows.{given, row_at, variable_of}
use Rattle.souper.specs.Soundness.{TranslationFits}
use Rattle.souper.specs.Translation.{Shape, no_row, rows_as, with_word, shape, shape_of, form_of, same_widths, condition_helpers, helpers, row_count_of, row_count, start_of, row_of, operand_at, operand_of, select_rows, form_rows, shape_rows, value_rows, translation}
use Rattle.souper.specs.Widths.{HasWidth, KindFits, Earlier, AllEarlier, RowFits}
use Rattle.souper.specs.Words.{kind_of}
use Rattle.souper.specs.declared.form.Form.{Form}
use Rattle.souper.specs.declared.form.Form.TheVariants.{Untranslated, Plain, Inverted, Selected, Compared}
use Rattle.souper.specs.declared.kind.Kind.TheVariants as kind
use Rattle.souper.specs.declared.rows.Operand.{Operand}
use Rattle.souper.specs.declared.rows.Operand.TheVariants as operand
use Rattle.souper.specs.declared.rows.Row.{Row}
use Rattle.souper.specs.declared.rows.RowOperands.{RowOperands}
use Rattle.souper.specs.declared.rows.RowOperands.TheVariants.{Empty, One, Two, Three}
use Rattle.souper.proofs.Live.{live_type}
use Rattle.souper.proofs.Places.{row_owner, start_order}
use Rattle.souper.proofs.RowRange.{or_zero}
use Rattle.souper.proofs.Sound.{last_width, row_is, form_row_at}

-- ---- an earlier row is earlier than later rows

earlier_more : (r s : ℕ) (x : Operand) → r ≤ s → Earlier r x → Earlier s x
earlier_more r s (operand.Row q) h e = omega arith
earlier_more r s (operand.Constant w z) h e = e
earlier_more r s operand.Zero h e = tt

all_earlier_more : (r s : ℕ) (xs : RowOperands) → r ≤ s → AllEarlier r xs → AllEarlier s xs
all_earlier_more r s Empty h e = tt
all_earlier_more r s (One x) h e = earlier_more r s x h e
all_earlier_more r s (Two x y) h e = (earlier_more r s x h e.0, earlier_more r s y h e.1)
all_earlier_more r s (Three x y z) h e = (earlier_more r s x h e.0, earlier_more r s y h e.1, earlier_more r s z h e.2)

fits_more : (rows : List Row) (r s : ℕ) (row : Row) → r ≤ s → RowFits rows r row → RowFits rows s row
fits_more rows r s row h f = record { width = f.width; earlier = all_earlier_more r s row.operands h f.earlier; fits = f.fits }

-- ---- a comparison of two operands of one width

compared_fits : (rows : List Row) (v : ℕ) (xs : RowOperands) → KindFits rows v kind.Binary xs → KindFits rows 1 kind.Comparison xs
compared_fits rows v Empty f = f
compared_fits rows v (One x) f = f
compared_fits rows v (Two x y) f = (refl, v, f.0, f.1)
compared_fits rows v (Three x y z) f = f

differing_fits : (rows : List Row) (v : ℕ) (xs : RowOperands) → KindFits rows v kind.Binary xs → KindFits rows 1 kind.Inequality xs
differing_fits rows v Empty f = f
differing_fits rows v (One x) f = f
differing_fits rows v (Two x y) f = (refl, v, f.0, or_zero rows v y f.1)
differing_fits rows v (Three x y z) f = f

module _ (g : Flow) (walk : List ℕ) where
  abbrev rows : List Row
  rows = translation g walk

  -- the operands for the values vs
  abbrev placed : List ℕ → RowOperands
  placed vs = given (map (operand_of g walk) vs)

  -- ---- widths

  operand_has_width : (u : ℕ) → In walk u → HasWidth rows (width_of g u) (operand_of g walk u)
  operand_has_width u i = at (shape g u) refl
    where
      at : (s : Shape) → shape g u ≡ s → HasWidth rows (width_of g u) (operand_at g u (row_of g walk u) s)
      at (no_row z) e = refl
      at (rows_as f vs) e =
          rw (row_is g walk u f vs e)
          (ap (λ (row : Row). row.width) (form_row_at g walk u f vs (helpers g f vs) i e (omega arith)).1 ∙ last_width g walk (width_of g u) (start_of g walk u) f vs)

  AllIn : List ℕ → Type 0
  AllIn vs = (k : ℕ) → k < length vs → In walk (get_or vs k 0)

  of_width : (u w : ℕ) → In walk u → width_of g u ≡ w → HasWidth rows w (operand_of g walk u)
  of_width u w i e = subst (λ v. HasWidth rows v (operand_of g walk u)) e (operand_has_width u i)

  unary : (w : ℕ) (vs : List ℕ) → map (width_of g) vs ≡ w ∷ [] → AllIn vs → KindFits rows w kind.Unary (placed vs)
  unfolding AllIn
  unary w [] e i = let z : ◌≡◌ {A = ℕ} 0 1 = ap length e in absurd (omega arith)
  unary w (a ∷ []) e i = of_width a w (i 0 (omega arith)) (ap (λ l. get_or l 0 0) e)
  unary w (a ∷ (b ∷ vs)) e i = let z : suc (suc (length (map (width_of g) vs))) ≡ 1 = ap length e in absurd (omega arith)

  extension : (w v : ℕ) (vs : List ℕ) → map (width_of g) vs ≡ v ∷ [] → v < w → AllIn vs → KindFits rows w kind.Extension (placed vs)
  unfolding AllIn
  extension w v [] e l i = let z : ◌≡◌ {A = ℕ} 0 1 = ap length e in absurd (omega arith)
  extension w v (a ∷ []) e l i = (v, l, of_width a v (i 0 (omega arith)) (ap (λ l. get_or l 0 0) e))
  extension w v (a ∷ (b ∷ vs)) e l i = let z : suc (suc (length (map (width_of g) vs))) ≡ 1 = ap length e in absurd (omega arith)

  binary : (w v : ℕ) (vs : List ℕ) → map (width_of g) vs ≡ w ∷ v ∷ [] → v ≡ w → AllIn vs → KindFits rows w kind.Binary (placed vs)
  unfolding AllIn
  binary w v [] e s i = let z : ◌≡◌ {A = ℕ} 0 2 = ap length e in absurd (omega arith)
  binary w v (a ∷ []) e s i = let z : ◌≡◌ {A = ℕ} 1 2 = ap length e in absurd (omega arith)
  binary w v (a ∷ (b ∷ [])) e s i = (of_width a w (i 0 (omega arith)) (ap (λ l. get_or l 0 0) e), of_width b w (i 1 (omega arith)) (ap (λ l. get_or l 1 0) e ∙ s))
  binary w v (a ∷ (b ∷ (c ∷ vs))) e s i = let z : suc (suc (suc (length (map (width_of g) vs)))) ≡ 2 = ap length e in absurd (omega arith)

  shift : (w k : ℕ) (vs : List ℕ) → map (width_of g) vs ≡ w ∷ k ∷ [] → same_widths g vs ≡ true → AllIn vs → KindFits rows w kind.Binary (placed vs)
  shift w k [] e s i = let z : ◌≡◌ {A = ℕ} 0 2 = ap length e in absurd (omega arith)
  shift w k (a ∷ []) e s i = let z : ◌≡◌ {A = ℕ} 1 2 = ap length e in absurd (omega arith)
  shift w k (a ∷ (b ∷ vs)) e s i =
      let p : width_of g a ≡ w = ap (λ l. get_or l 0 0) e in
      let q : width_of g b ≡ k = ap (λ l. get_or l 1 0) e in
      binary w k (a ∷ b ∷ vs) e (omega (arith, eqb-true (width_of g a) (width_of g b) s)) i

  -- what the operands of a form have to fit
  FormFits : ℕ → Form → List ℕ → Type 0
  FormFits w Untranslated vs = Unit {0}
  FormFits w (Plain word) vs = KindFits rows w (kind_of word) (placed vs)
  FormFits w Inverted vs = KindFits rows w kind.Unary (placed vs)
  FormFits w Selected vs = (v : ℕ) × (map (width_of g) vs ≡ v ∷ w ∷ w ∷ [])
  FormFits w (Compared word) vs = (1 < w) × KindFits rows 1 (kind_of word) (placed vs)

  comparison : (c : IntCC) (w v : ℕ) (vs : List ℕ) → 1 < w → KindFits rows v kind.Binary (placed vs) → FormFits w (with_word Compared (intcc_word c)) vs
  unfolding FormFits
  comparison cond.Equal w v vs l b = (l, compared_fits rows v (placed vs) b)
  comparison cond.NotEqual w v vs l b = (l, differing_fits rows v (placed vs) b)
  comparison cond.SignedLessThan w v vs l b = (l, compared_fits rows v (placed vs) b)
  comparison cond.SignedGreaterThanOrEqual w v vs l b = tt
  comparison cond.SignedGreaterThan w v vs l b = tt
  comparison cond.SignedLessThanOrEqual w v vs l b = (l, compared_fits rows v (placed vs) b)
  comparison cond.UnsignedLessThan w v vs l b = (l, compared_fits rows v (placed vs) b)
  comparison cond.UnsignedGreaterThanOrEqual w v vs l b = tt
  comparison cond.UnsignedGreaterThan w v vs l b = tt
  comparison cond.UnsignedLessThanOrEqual w v vs l b = (l, compared_fits rows v (placed vs) b)

  form_fits : (o : Opcode) (c : IntCC) (same : Bool) (w : ℕ) (vs : List ℕ) → same_widths g vs ≡ same → Signature o w (map (width_of g) vs) → AllIn vs → FormFits w (form_of o c same) vs
  unfolding FormFits
  form_fits op.Iconst c same w vs q s i = absurd s
  form_fits op.Iadd c same w vs q s i = binary w w vs s refl i
  form_fits op.Imul c same w vs q s i = binary w w vs s refl i
  form_fits op.Udiv c same w vs q s i = binary w w vs s refl i
  form_fits op.Sdiv c same w vs q s i = binary w w vs s refl i
  form_fits op.Urem c same w vs q s i = binary w w vs s refl i
  form_fits op.Srem c same w vs q s i = binary w w vs s refl i
  form_fits op.Band c same w vs q s i = binary w w vs s refl i
  form_fits op.Bor c same w vs q s i = binary w w vs s refl i
  form_fits op.Bxor c same w vs q s i = binary w w vs s refl i
  form_fits op.Bnot c same w vs q s i = unary w vs s i
  form_fits op.Ishl c true w vs q s i = shift w s.0 vs s.1 q i
  form_fits op.Ishl c false w vs q s i = tt
  form_fits op.Sshr c true w vs q s i = shift w s.0 vs s.1 q i
  form_fits op.Sshr c false w vs q s i = tt
  form_fits op.Ushr c true w vs q s i = shift w s.0 vs s.1 q i
  form_fits op.Ushr c false w vs q s i = tt
  form_fits op.Select c same w vs q s i = s
  form_fits op.Uextend c same w vs q s i = extension w s.0 vs s.1 s.2 i
  form_fits op.Sextend c same w vs q s i = extension w s.0 vs s.1 s.2 i
  form_fits op.Icmp c same w vs q s i = comparison c w s.0 vs (omega (arith, s.2)) (binary s.0 s.0 vs s.1 refl i)
  form_fits op.Popcnt c same w vs q s i = unary w vs s i
  form_fits op.Bitrev c same w vs q s i = unary w vs s i
  form_fits op.Clz c same w vs q s i = unary w vs s i
  form_fits op.Ctz c same w vs q s i = unary w vs s i
  form_fits op.SaddSat c same w vs q s i = binary w w vs s refl i
  form_fits op.SsubSat c same w vs q s i = binary w w vs s refl i
  form_fits op.UsubSat c same w vs q s i = binary w w vs s refl i
  form_fits op.Opaque c same w vs q s i = absurd s

  -- ---- operands stand before the rows that name them

  operand_earlier : (u v : ℕ) → place_of walk u < place_of walk v → T (is_type (width_of g u)) → Earlier (start_of g walk v) (operand_of g walk u)
  operand_earlier u v p live = at (shape g u) refl
    where
      at : (s : Shape) → shape g u ≡ s → Earlier (start_of g walk v) (operand_at g u (row_of g walk u) s)
      at (no_row z) e = live
      at (rows_as f vs) e =
          let c : row_count g u ≡ helpers g f vs + 1 = ap (row_count_of g) e in
          omega (arith, row_is g walk u f vs e, start_order g walk u v p)

  AllBefore : ℕ → List ℕ → Type 0
  AllBefore r vs = (k : ℕ) → k < length vs → Earlier r (operand_of g walk (get_or vs k 0))

  placed_earlier : (r : ℕ) (vs : List ℕ) → AllBefore r vs → AllEarlier r (placed vs)
  unfolding AllBefore
  placed_earlier r [] h = tt
  placed_earlier r (a ∷ []) h = h 0 (omega arith)
  placed_earlier r (a ∷ (b ∷ [])) h = (h 0 (omega arith), h 1 (omega arith))
  placed_earlier r (a ∷ (b ∷ (c ∷ vs))) h = (h 0 (omega arith), h 1 (omega arith), h 2 (omega arith))

  -- ---- the rows of a form

  module _ (v : ℕ) (i : In walk v) (live : T (is_type (width_of g v))) where
    abbrev w : ℕ
    w = width_of g v

    abbrev start : ℕ
    start = start_of g walk v

    -- the helper of a value has width 1
    helper_width : (f : Form) (vs : List ℕ) → shape g v ≡ rows_as f vs → (row_at (form_rows (operand_of g walk) w start f vs) 0).width ≡ 1 → (row_at rows start).width ≡ 1
    helper_width f vs e h = rw (sym (add-zero start)) (ap (λ (row : Row). row.width) (form_row_at g walk v f vs 0 i e (omega arith)).1 ∙ h)

    -- what is earlier than the value's first row is earlier than its others
    later : (j : ℕ) (x : Operand) → Earlier start x → Earlier (start + j) x
    later j x e = earlier_more start (start + j) x (omega arith) e

    variable_fits : RowFits rows (start + 0) (variable_of w)
    variable_fits = record { width = live; earlier = tt; fits = tt }

    select_fits : (u x y : ℕ) (s : Shape) (j : ℕ) → shape g u ≡ s → In walk u → AllBefore start (u ∷ x ∷ y ∷ []) → HasWidth rows w (operand_of g walk x) → HasWidth rows w (operand_of g walk y)
        → ((f : Form) (vs : List ℕ) → s ≡ rows_as f vs → (row_at rows start).width ≡ 1) → j ≤ condition_helpers s
        → RowFits rows (start + j) (row_at (select_rows w start (operand_at g u (row_of g walk u) s) (operand_of g walk x) (operand_of g walk y)) j)
    unfolding AllBefore
    select_fits u x y (no_row z) zero e iu h hx hy help l =
        record { width = live; earlier = (tt, later 0 (operand_of g walk x) (h 1 (omega arith)), later 0 (operand_of g walk y) (h 2 (omega arith))); fits = (refl, hx, hy) }
    select_fits u x y (no_row z) (suc j) e iu h hx hy help l = absurd (omega arith)
    select_fits u x y (rows_as f vs) zero e iu h hx hy help l =
        record {
          width = tt;
          earlier = (later 0 (operand.Row (row_of g walk u)) (subst (λ (s : Shape). Earlier start (operand_at g u (row_of g walk u) s)) e (h 0 (omega arith))), tt);
          fits = (refl, width_of g u, subst (λ (s : Shape). HasWidth rows (width_of g u) (operand_at g u (row_of g walk u) s)) e (operand_has_width u iu), tt);
        }
    select_fits u x y (rows_as f vs) (suc zero) e iu h hx hy help l =
        record { width = live; earlier = (omega arith, later 1 (operand_of g walk x) (h 1 (omega arith)), later 1 (operand_of g walk y) (h 2 (omega arith))); fits = (help f vs refl, hx, hy) }
    select_fits u x y (rows_as f vs) (suc (suc j)) e iu h hx hy help l = absurd (omega arith)

    selected_fits : (vs : List ℕ) (j c : ℕ) → shape g v ≡ rows_as Selected vs → AllIn vs → AllBefore start vs → map (width_of g) vs ≡ c ∷ w ∷ w ∷ []
        → j ≤ helpers g Selected vs → RowFits rows (start + j) (row_at (form_rows (operand_of g walk) w start Selected vs) j)
    unfolding AllIn
    selected_fits [] j c e a h f l = let z : ◌≡◌ {A = ℕ} 0 3 = ap length f in absurd (omega arith)
    selected_fits (u ∷ []) j c e a h f l = let z : ◌≡◌ {A = ℕ} 1 3 = ap length f in absurd (omega arith)
    selected_fits (u ∷ (x ∷ [])) j c e a h f l = let z : ◌≡◌ {A = ℕ} 2 3 = ap length f in absurd (omega arith)
    selected_fits (u ∷ (x ∷ (y ∷ []))) j c e a h f l =
        select_fits u x y (shape g u) j refl (a 0 (omega arith)) h
        (of_width x w (a 1 (omega arith)) (ap (λ l. get_or l 1 0) f)) (of_width y w (a 2 (omega arith)) (ap (λ l. get_or l 2 0) f))
        (λ k vs s. helper_width Selected (u ∷ x ∷ y ∷ []) e (ap (λ (t : Shape). (row_at (select_rows w start (operand_at g u (row_of g walk u) t) (operand_of g walk x) (operand_of g walk y)) 0).width) s)) l
    selected_fits (u ∷ (x ∷ (y ∷ (z ∷ vs)))) j c e a h f l = let n : suc (suc (suc (suc (length (map (width_of g) vs))))) ≡ 3 = ap length f in absurd (omega arith)

    form_row_fits : (f : Form) (vs : List ℕ) (j : ℕ) → shape g v ≡ rows_as f vs → AllIn vs → AllBefore start vs → FormFits w f vs → j ≤ helpers g f vs
        → RowFits rows (start + j) (row_at (form_rows (operand_of g walk) w start f vs) j)
    unfolding FormFits AllBefore
    form_row_fits Untranslated vs zero e a h f l = variable_fits
    form_row_fits Untranslated vs (suc j) e a h f l = absurd (omega arith)
    form_row_fits (Plain word) vs zero e a h f l =
        record { width = live; earlier = all_earlier_more start (start + 0) (placed vs) (omega arith) (placed_earlier start vs h); fits = f }
    form_row_fits (Plain word) vs (suc j) e a h f l = absurd (omega arith)
    form_row_fits Inverted [] zero e a h f l = absurd f
    form_row_fits Inverted (u ∷ []) zero e a h f l = record { width = live; earlier = (later 0 (operand_of g walk u) (h 0 (omega arith)), live); fits = (f, refl) }
    form_row_fits Inverted (u ∷ (x ∷ [])) zero e a h f l = absurd f
    form_row_fits Inverted (u ∷ (x ∷ (y ∷ vs))) zero e a h f l = absurd f
    form_row_fits Inverted vs (suc j) e a h f l = absurd (omega arith)
    form_row_fits Selected vs j e a h f l = selected_fits vs j f.0 e a h f.1 l
    form_row_fits (Compared word) vs zero e a h f l =
        record { width = tt; earlier = all_earlier_more start (start + 0) (placed vs) (omega arith) (placed_earlier start vs h); fits = f.1 }
    form_row_fits (Compared word) vs (suc zero) e a h f l = record { width = live; earlier = omega arith; fits = (1, f.0, helper_width (Compared word) vs e refl) }
    form_row_fits (Compared word) vs (suc (suc j)) e a h f l = absurd (omega arith)

-- a row of a value keeps the rules
value_row_fits : (g : Flow) (walk : List ℕ) → Lawful g → Ordered g walk → (v j : ℕ) (d : ValueDef) → def_of g v ≡ d → In walk v → j < row_count_of g (shape_of g d)
    → RowFits (translation g walk) (start_of g walk v + j) (row_at (shape_rows (operand_of g walk) (width_of g v) (start_of g walk v) (shape_of g d)) j)
unfolding AllIn AllBefore FormFits
value_row_fits g walk wf wk v j (def.Constant z) e i h = absurd (omega arith)
value_row_fits g walk wf wk v j (def.Operation o c args) e i h =
    let vs : List ℕ = values args in
    let fits : DefFits g (width_of g v) (def.Operation o c args) = subst (DefFits g (width_of g v)) e (wf.fits v) in
    let before : (k : ℕ) → k < length vs → place_of walk (get_or vs k 0) < place_of walk v =
    subst (λ (us : List ℕ). (k : ℕ) → k < length us → place_of walk (get_or us k 0) < place_of walk v) (ap used e) (λ k l. wk.operands_first v k i l) in
    let inside : AllIn g walk vs = λ k l. omega (arith, before k l) in
    form_row_fits g walk v i (live_type g wf v (wk.alive v i)) (form_of o c (same_widths g vs)) vs j (ap (shape_of g) e) inside
    (λ k l. operand_earlier g walk (get_or vs k 0) v (before k l) (live_type g wf (get_or vs k 0) (wk.alive (get_or vs k 0) (inside k l))))
    (form_fits g walk o c (same_widths g vs) (width_of g v) vs refl fits.2 inside) (omega arith)
value_row_fits g walk wf wk v j def.Variable e i h =
    form_row_fits g walk v i (live_type g wf v (wk.alive v i)) Untranslated [] j (ap (shape_of g) e) (λ k l. absurd (omega arith)) (λ k l. absurd (omega arith)) tt (omega arith)
value_row_fits g walk wf wk v j def.Deleted e i h =
    form_row_fits g walk v i (live_type g wf v (wk.alive v i)) Untranslated [] j (ap (shape_of g) e) (λ k l. absurd (omega arith)) (λ k l. absurd (omega arith)) tt (omega arith)

pub translation_fits : TranslationFits
translation_fits g walk wf wk r h =
    let o = row_owner g walk r h in
    rw o.is (fits_more (translation g walk) (start_of g walk o.owner + o.nth) r (row_at (value_rows g walk o.owner) o.nth) o.first
    (value_row_fits g walk wf wk o.owner o.nth (def_of g o.owner) refl o.in_walk o.few))
