-- The rows of a walk: each value's own, and the helpers. Assumes nothing.
use Rattle.std.proofs.Common.{◌≡◌, ℕ, zero, suc, ◌+◌, ◌<◌, ◌≤◌, Bool, true, false, ◌⊎◌, ◌↔◌, List, [], length, get_or, sym, refl, ap, ◌∙◌, inl, inr, arith}
use Rattle.std.proofs.lemmas.Bool.{both_ways, cases_lt}
use Rattle.ir.specs.Codes.{intcc_word}
use Rattle.ir.specs.Entities.{values}
use Rattle.ir.specs.declared.condcodes.IntCC.{IntCC}
use Rattle.ir.specs.declared.condcodes.IntCC.TheVariants as cond
use Rattle.ir.specs.declared.opcodes.Opcode.{Opcode}
use Rattle.ir.specs.declared.opcodes.Opcode.TheVariants as op
use Rattle.ir.specs.declared.words.Word.TheVariants.{Var}
use Rattle.flow.specs.Meaning.{Flow, width_of, def_of}
use Rattle.flow.specs.Walk.{In, place_of}
use Rattle.flow.specs.declared.definition.ValueDef.{ValueDef}
use Rattle.flow.specs.declared.definition.ValueDef.TheVariants as def
use Rattle.flow.proofs.Places.{at_place, topological_ordered}
use Rattle.souper.specs.Rows.{row_at}
use Rattle.souper.specs.Soundness.{is_variable_row}
use Rattle.souper.specs.Translation.{Shape, no_row, rows_as, has_row, with_word, shape, shape_of, form_of, same_widths, condition_helpers, helpers, row_count_of, row_count, start_of, row_of, operand_at, operand_of, select_rows, form_rows, shape_rows, translation}
use Rattle.souper.specs.WalkRows.{OwnRow, Helper, nonzero_helper, comparison_helper, TranslationIsRowsOfWalk}
use Rattle.souper.specs.declared.form.Form.{Form}
use Rattle.souper.specs.declared.form.Form.TheVariants.{Untranslated, Plain, Inverted, Selected, Compared}
use Rattle.souper.specs.declared.rows.Operand.{Operand}
use Rattle.souper.specs.declared.rows.Row.{Row}
use Rattle.souper.proofs.Fits.{translation_fits}
use Rattle.souper.proofs.Places.{count_few, row_owner, start_order}
use Rattle.souper.proofs.Sound.{form_row_at, last_width, row_is}

-- ---- no operation has the word of a variable

NoVariable : Form → Type 0
NoVariable Untranslated = Unit {0}
NoVariable (Plain word) = word ≡ Var → ⊥
NoVariable Inverted = Unit {0}
NoVariable Selected = Unit {0}
NoVariable (Compared word) = Unit {0}

compared_no_variable : (c : IntCC) → NoVariable (with_word Compared (intcc_word c))
unfolding NoVariable
compared_no_variable cond.Equal = tt
compared_no_variable cond.NotEqual = tt
compared_no_variable cond.SignedLessThan = tt
compared_no_variable cond.SignedGreaterThanOrEqual = tt
compared_no_variable cond.SignedGreaterThan = tt
compared_no_variable cond.SignedLessThanOrEqual = tt
compared_no_variable cond.UnsignedLessThan = tt
compared_no_variable cond.UnsignedGreaterThanOrEqual = tt
compared_no_variable cond.UnsignedGreaterThan = tt
compared_no_variable cond.UnsignedLessThanOrEqual = tt

no_variable : (o : Opcode) (c : IntCC) (same : Bool) → NoVariable (form_of o c same)
unfolding NoVariable
no_variable op.Iconst c same = tt
no_variable op.Iadd c same = λ e. cc
no_variable op.Imul c same = λ e. cc
no_variable op.Udiv c same = λ e. cc
no_variable op.Sdiv c same = λ e. cc
no_variable op.Urem c same = λ e. cc
no_variable op.Srem c same = λ e. cc
no_variable op.Band c same = λ e. cc
no_variable op.Bor c same = λ e. cc
no_variable op.Bxor c same = λ e. cc
no_variable op.Bnot c same = tt
no_variable op.Ishl c true = λ e. cc
no_variable op.Ishl c false = tt
no_variable op.Sshr c true = λ e. cc
no_variable op.Sshr c false = tt
no_variable op.Ushr c true = λ e. cc
no_variable op.Ushr c false = tt
no_variable op.Select c same = tt
no_variable op.Uextend c same = λ e. cc
no_variable op.Sextend c same = λ e. cc
no_variable op.Icmp c same = compared_no_variable c
no_variable op.Popcnt c same = λ e. cc
no_variable op.Bitrev c same = λ e. cc
no_variable op.Clz c same = λ e. cc
no_variable op.Ctz c same = λ e. cc
no_variable op.SaddSat c same = λ e. cc
no_variable op.SsubSat c same = λ e. cc
no_variable op.UsubSat c same = λ e. cc
no_variable op.Opaque c same = tt

-- the form of a value that has a row
own_form : (g : Flow) (d : ValueDef) → has_row (shape_of g d) ≡ true → (f : Form) × (vs : List ℕ) × (shape_of g d ≡ rows_as f vs) × NoVariable f
unfolding NoVariable
own_form g (def.Constant z) h = absurd (both_ways false refl h)
own_form g (def.Operation o c args) h = (form_of o c (same_widths g (values args)), values args, refl, no_variable o c (same_widths g (values args)))
own_form g def.Variable h = (Untranslated, [], refl, tt)
own_form g def.Deleted h = (Untranslated, [], refl, tt)

module _ (g : Flow) (walk : List ℕ) where
  abbrev rows : List Row
  rows = translation g walk

  -- the last row of a form
  abbrev last : ℕ → Form → List ℕ → Row
  last v f vs = row_at (form_rows (operand_of g walk) (width_of g v) (start_of g walk v) f vs) (helpers g f vs)

  own_row : (v r : ℕ) (f : Form) (vs : List ℕ) → shape g v ≡ rows_as f vs → OwnRow g walk v r → (r < length rows) × (row_at rows r ≡ last v f vs)
  own_row v r f vs e o =
      let at : start_of g walk v + helpers g f vs ≡ r = sym (row_is g walk v f vs e) ∙ o.row in
      let p = form_row_at g walk v f vs (helpers g f vs) o.in_walk e (omega arith) in
      (omega (arith, p.0), ap (row_at rows) (sym at) ∙ p.1)

  there : (v r : ℕ) → OwnRow g walk v r → (r < length rows) × ((row_at rows r).width ≡ width_of g v)
  there v r o =
      let s = own_form g (def_of g v) o.no_constant in
      let p = own_row v r s.0 s.1 s.2 o in
      (p.0, ap (λ (row : Row). row.width) p.1 ∙ last_width g walk (width_of g v) (start_of g walk v) s.0 s.1)

  -- a row behind another value's is another row
  behind : (u v r : ℕ) → OwnRow g walk u r → OwnRow g walk v r → place_of walk u < place_of walk v → ⊥
  behind u v r o p l =
      let s = own_form g (def_of g u) o.no_constant in
      let t = own_form g (def_of g v) p.no_constant in
      let count : row_count g u ≡ helpers g s.0 s.1 + 1 = ap (row_count_of g) s.2 in
      omega (arith, start_order g walk u v l, row_is g walk u s.0 s.1 s.2, row_is g walk v t.0 t.1 t.2, o.row, p.row)

  apart : (u v r : ℕ) → OwnRow g walk u r → OwnRow g walk v r → u ≡ v
  apart u v r o p = at (cases_lt (place_of walk u) (place_of walk v)) (cases_lt (place_of walk v) (place_of walk u))
    where
      at : (place_of walk u < place_of walk v) ⊎ (place_of walk v ≤ place_of walk u) → (place_of walk v < place_of walk u) ⊎ (place_of walk u ≤ place_of walk v) → u ≡ v
      at (inl l) k = absurd (behind u v r o p l)
      at (inr l) (inl k) = absurd (behind v u r p o k)
      at (inr l) (inr k) =
          let same : place_of walk u ≡ place_of walk v = omega arith in
          sym (at_place walk u o.in_walk) ∙ ap (λ n. get_or walk n 0) same ∙ at_place walk v p.in_walk

  -- ---- variables

  select_word : (w start u : ℕ) (s : Shape) (x y : Operand) → (row_at (select_rows w start (operand_at g u (row_of g walk u) s) x y) (condition_helpers s)).word ≡ Var → ⊥
  select_word w start u (no_row z) x y e = cc
  select_word w start u (rows_as f vs) x y e = cc

  last_variable : (v : ℕ) (f : Form) (vs : List ℕ) → NoVariable f → (last v f vs).word ≡ Var → is_variable_row (rows_as f vs) ≡ true
  unfolding NoVariable
  last_variable v Untranslated vs n e = refl
  last_variable v (Plain word) vs n e = absurd (n e)
  last_variable v Inverted vs n e = cc
  last_variable v Selected vs n e = absurd (select_word (width_of g v) (start_of g walk v) (get_or vs 0 0) (shape g (get_or vs 0 0)) _ _ e)
  last_variable v (Compared word) vs n e = cc

  variable_last : (v : ℕ) (f : Form) (vs : List ℕ) → is_variable_row (rows_as f vs) ≡ true → (last v f vs).word ≡ Var
  variable_last v Untranslated vs e = refl
  variable_last v (Plain word) vs e = absurd (both_ways false refl e)
  variable_last v Inverted vs e = absurd (both_ways false refl e)
  variable_last v Selected vs e = absurd (both_ways false refl e)
  variable_last v (Compared word) vs e = absurd (both_ways false refl e)

  variables : (v r : ℕ) → OwnRow g walk v r → ((row_at rows r).word ≡ Var) ↔ (is_variable_row (shape g v) ≡ true)
  variables v r o =
      let s = own_form g (def_of g v) o.no_constant in
      let is = (own_row v r s.0 s.1 s.2 o).1 in
      let word : (row_at rows r).word ≡ (last v s.0 s.1).word = ap (λ (row : Row). row.word) is in
      let kind : is_variable_row (shape g v) ≡ is_variable_row (rows_as s.0 s.1) = ap is_variable_row s.2 in
      (λ e. kind ∙ last_variable v s.0 s.1 s.3 (sym word ∙ e), λ e. word ∙ variable_last v s.0 s.1 (sym kind ∙ e))

  -- ---- helpers

  select_helper : (v : ℕ) (vs : List ℕ) (s : Shape) (row : Row) (j : ℕ) → shape g v ≡ rows_as Selected vs → shape g (get_or vs 0 0) ≡ s → j < condition_helpers s
      → row ≡ row_at (select_rows (width_of g v) (start_of g walk v) (operand_at g (get_or vs 0 0) (row_of g walk (get_or vs 0 0)) s) (operand_of g walk (get_or vs 1 0)) (operand_of g walk (get_or vs 2 0))) j
      → Helper g walk row v
  select_helper v vs (no_row z) row j e k l q = absurd (omega arith)
  select_helper v vs (rows_as f us) row zero e k l q = nonzero_helper vs e q
  select_helper v vs (rows_as f us) row (suc j) e k l q = absurd (omega arith)

  helper : (v : ℕ) (f : Form) (vs : List ℕ) (row : Row) (j : ℕ) → shape g v ≡ rows_as f vs → j < helpers g f vs
      → row ≡ row_at (form_rows (operand_of g walk) (width_of g v) (start_of g walk v) f vs) j → Helper g walk row v
  helper v Untranslated vs row j e l q = absurd (omega arith)
  helper v (Plain word) vs row j e l q = absurd (omega arith)
  helper v Inverted vs row j e l q = absurd (omega arith)
  helper v Selected vs row j e l q = select_helper v vs (shape g (get_or vs 0 0)) row j e refl l q
  helper v (Compared word) vs row zero e l q = comparison_helper word vs e q
  helper v (Compared word) vs row (suc j) e l q = absurd (omega arith)

  helped : (v r : ℕ) (f : Form) (vs : List ℕ) → OwnRow g walk v (r + 1) → shape g v ≡ rows_as f vs → helpers g f vs ≡ 1 → Helper g walk (row_at rows r) v
  helped v r f vs o e one =
      let at : start_of g walk v + 0 ≡ r = omega (arith, row_is g walk v f vs e, o.row) in
      helper v f vs (row_at rows r) 0 e (omega arith) (ap (row_at rows) (sym at) ∙ (form_row_at g walk v f vs 0 o.in_walk e (omega arith)).1)

  abbrev Only : ℕ → Type 0
  Only r = ((v : ℕ) × OwnRow g walk v r) ⊎ ((v : ℕ) × OwnRow g walk v (r + 1) × Helper g walk (row_at rows r) v)

  -- the row j of a value
  only_at : (v j r : ℕ) (s : Shape) → shape g v ≡ s → In walk v → start_of g walk v + j ≡ r → j < row_count_of g s
      → row_at rows r ≡ row_at (shape_rows (operand_of g walk) (width_of g v) (start_of g walk v) s) j → Only r
  only_at v j r (no_row z) e i a l q = absurd (omega arith)
  only_at v j r (rows_as f vs) e i a l q = at (cases_lt j (helpers g f vs))
    where
      at : (j < helpers g f vs) ⊎ (helpers g f vs ≤ j) → Only r
      at (inl k) =
          let own : row_of g walk v ≡ r + 1 = omega (arith, row_is g walk v f vs e, count_few g (rows_as f vs)) in
          inr (v, record { in_walk = i; no_constant = ap has_row e; row = own }, helper v f vs (row_at rows r) j e k q)
      at (inr k) =
          let own : row_of g walk v ≡ r = omega (arith, row_is g walk v f vs e) in
          inl (v, record { in_walk = i; no_constant = ap has_row e; row = own })

pub translation_is_rows_of_walk : TranslationIsRowsOfWalk
translation_is_rows_of_walk g walk lawful t =
    record {
      there = there g walk;
      apart = apart g walk;
      variables = variables g walk;
      only = λ r h. let o = row_owner g walk r h in only_at g walk o.owner o.nth r (shape g o.owner) refl o.in_walk (o.exact t.once) o.few o.is;
      helped = helped g walk;
      widths = translation_fits g walk lawful (topological_ordered g walk t);
    }
