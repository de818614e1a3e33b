-- One value more for the visitor that translates. Assumes nothing.
use Rattle.std.proofs.Common.{◌≡◌, ℕ, ◌+◌, ◌-◌, ◌*◌, ◌<◌, ◌≤◌, true, false, ◌⊎◌, List, [], ◌∷◌, ◌++◌, length, get_or, drop, set, sym, refl, ap, ◌∙◌, subst, ap₂, inl, inr, ⊎_elim, append_assoc, append-nil, arith, length-append, length-drop}
use Rattle.std.proofs.lemmas.List.{drop_more, set_at, length_push, get_or-set_same, get_or-set_other}
use Rattle.std.proofs.lemmas.Bool.{both_ways}
use Rattle.flow.specs.Meaning.{Flow, Lawful, width_of, def_of, uses, has}
use Rattle.flow.specs.Walk.{Topological, In}
use Rattle.flow.proofs.Among.{all_among, has_push, has_push_cases, distinct_length}
use Rattle.flow.proofs.Paths.{live_exists}
use Rattle.flow.proofs.Places.{has_in, in_has, topological_left, topological_new, topological_in, topological_ordered}
use Rattle.souper.specs.Translation.{Shape, has_row, no_row, rows_as, shape, row_count, row_count_of, row_of, operand_at, operand_of, select_rows, form_rows, shape_rows, value_rows, translation, added_rows}
use Rattle.souper.specs.declared.form.Form.{Form}
use Rattle.souper.specs.declared.form.Form.TheVariants.{Untranslated, Plain, Inverted, Selected, Compared}
use Rattle.souper.specs.declared.rows.Operand.{Operand}
use Rattle.souper.specs.declared.rows.Operand.TheVariants as operand
use Rattle.souper.specs.declared.rows.Row.{Row}
use Rattle.souper.proofs.Grows.{start_push, start_push_self, start_past, rows_same, translation_grows}
use Rattle.souper.proofs.Places.{shape_length, value_length, translation_few}
use Rattle.harvest.specs.Placed.{placed_operand, put}
use Rattle.harvest.specs.Translated.{Translates, Follows, NeverFull}

-- ---- writing behind the rows that were written

write_one : (before rows p : List Row) (len : ℕ) (row : Row) → length p ≡ len → rows ≡ p ++ drop len before → len < length before → set rows len row ≡ (p ++ (row ∷ [])) ++ drop (len + 1) before
write_one before rows p len row e is lt =
    ap (λ l. set l len row) (is ∙ ap (λ l. p ++ l) (drop_more before len row lt))
    ∙ set_at p (get_or before len row) (drop (len + 1) before) row len e ∙ sym (append_assoc p (row ∷ []) (drop (len + 1) before))

write_more : (before rows p l : List Row) (len : ℕ) → length p ≡ len → rows ≡ p ++ drop len before → len + length l ≤ length before
    → put rows len l ≡ (p ++ l) ++ drop (len + length l) before
write_more before rows p [] len e is fits = is ∙ ap₂ (λ (q : List Row) (n : ℕ). q ++ drop n before) (sym (append-nil p)) (omega arith)
write_more before rows p (row ∷ l) len e is fits =
    write_more before (set rows len row) (p ++ (row ∷ [])) l (len + 1) (omega (arith, length_push p row)) (write_one before rows p len row e is (omega arith)) (omega arith)
    ∙ ap₂ (λ (q : List Row) (n : ℕ). q ++ drop n before) (append_assoc p (row ∷ []) l) (omega arith)

-- ---- a value as an operand

operand_agrees : (g : Flow) (u row r : ℕ) (s : Shape) → (has_row s ≡ true → row ≡ r) → operand_at g u row s ≡ operand_at g u r s
operand_agrees g u row r (no_row z) h = refl
operand_agrees g u row r (rows_as f vs) h = ap operand.Row (h refl)

counted_row : (g : Flow) (s : Shape) → has_row s ≡ true → 0 < row_count_of g s
counted_row g (no_row z) h = absurd (both_ways false refl h)
counted_row g (rows_as f vs) h = omega arith

module _ (g : Flow) (lawful : Lawful g) (before : List Row) (shown : List ℕ) (v : ℕ) (t : Topological g (shown ++ (v ∷ []))) where
  old : Topological g shown
  old = topological_left g shown (v ∷ []) t

  new : In shown v → ⊥
  new i = both_ways (has shown v) (topological_new g shown v t) (in_has shown v i)

  few : length shown + 1 ≤ length g
  few =
      omega (
        arith,
        length_push shown v,
        distinct_length (length g) (shown ++ (v ∷ [])) t.once (all_among (λ u. u < length g) (shown ++ (v ∷ [])) (λ u h. live_exists g u (t.alive u h))),
      )

  pub exists : v < 1024
  exists = omega (arith, live_exists g v (t.alive v (has_push shown v)), lawful.few)

  module _ (rows : List Row) (places : List ℕ) (len : ℕ) (is : Translates g before shown rows places len) where
    pub low : len + 2 ≤ 2 * length g
    low = omega (arith, is.count, translation_few g shown, few)

    pub same_length : 2 * length g ≤ length before → length rows ≡ length before
    same_length room =
        omega (arith, low, is.count, ap length is.written, length-append (translation g shown) (drop len before), length-drop len before)

    -- the rows that the value adds
    added : shape_rows (placed_operand g places) (width_of g v) len (shape g v) ≡ added_rows g shown v (shape g v)
    added =
        (rows_same g lawful (placed_operand g places) (operand_of g shown) v len (def_of g v) refl
        (λ k lt. let u : ℕ = get_or (uses g v) k 0 in operand_agrees g u (get_or places u 0) (row_of g shown u) (shape g u) (is.placed u (in_has shown u (topological_in g shown v t k lt))))
        ∙ ap (λ n. shape_rows (operand_of g shown) (width_of g v) n (shape g v)) is.count)

    grown : translation g (shown ++ (v ∷ [])) ≡ translation g shown ++ added_rows g shown v (shape g v)
    grown = translation_grows g shown v lawful (topological_ordered g shown old) new (topological_in g shown v t)

    own_row : row_of g (shown ++ (v ∷ [])) v ≡ len + row_count g v - 1
    unfolding row_of translation
    own_row =
        ap (λ n. n + row_count g v - 1) (start_push_self g shown v ∙ start_past g (value_rows g shown) (value_length g shown) shown v new ∙ sym is.count)

    row_stays : (u : ℕ) → has shown u ≡ true → row_of g (shown ++ (v ∷ [])) u ≡ row_of g shown u
    unfolding row_of
    row_stays u h = ap (λ n. n + row_count g u - 1) (start_push g shown v u (has_in shown u h))

    step : (l rows' : List Row) (places' : List ℕ) (len' : ℕ) → l ≡ shape_rows (placed_operand g places) (width_of g v) len (shape g v) → len' ≡ len + length l
        → rows' ≡ (translation g shown ++ l) ++ drop len' before
        → ((u : ℕ) → (u ≡ v → ⊥) → get_or places' u 0 ≡ get_or places u 0) → (0 < length l → get_or places' v 0 + 1 ≡ len')
        → Translates g before (shown ++ (v ∷ [])) rows' places' len'
    step l rows' places' len' lines end writes others own =
        let l-is : l ≡ added_rows g shown v (shape g v) = lines ∙ added in
        let long : length l ≡ row_count g v = ap length l-is ∙ shape_length g shown (width_of g v) (length (translation g shown)) (shape g v) in
        let all : translation g (shown ++ (v ∷ [])) ≡ translation g shown ++ l =
        grown ∙ ap (λ m. translation g shown ++ m) (sym l-is) in
        record {
          count = omega (arith, ap length all, length-append (translation g shown) l, is.count);
          written = writes ∙ ap (λ m. m ++ drop len' before) (sym all);
          placed = λ u h r. place u r (has_push_cases shown v u h) long;
        }
      where
        old-place : (u : ℕ) → has shown u ≡ true → has_row (shape g u) ≡ true → get_or places' u 0 ≡ row_of g (shown ++ (v ∷ [])) u
        old-place u h r =
            others u (λ e. both_ways (has shown v) (topological_new g shown v t) (subst (λ x. has shown x ≡ true) e h)) ∙ is.placed u h r ∙ sym (row_stays u h)

        own-place : length l ≡ row_count g v → has_row (shape g v) ≡ true → get_or places' v 0 ≡ row_of g (shown ++ (v ∷ [])) v
        own-place long r = omega (arith, own (omega (arith, counted_row g (shape g v) r)), own_row, counted_row g (shape g v) r)

        place : (u : ℕ) → has_row (shape g u) ≡ true → (has shown u ≡ true) ⊎ (v ≡ u) → length l ≡ row_count g v → get_or places' u 0 ≡ row_of g (shown ++ (v ∷ [])) u
        place u r (inl h) long = old-place u h r
        place u r (inr e) long = subst (λ x. get_or places' x 0 ≡ row_of g (shown ++ (v ∷ [])) x) e (own-place long (subst (λ x. has_row (shape g x) ≡ true) (sym e) r))

-- One value more is translated.
follows_more : (g g' : Flow) → Lawful g → (before : List Row) (from : ℕ) (shown : List ℕ) (rows : List Row) (places : List ℕ) (len v : ℕ) (l rows' : List Row) (places' : List ℕ) (len' : ℕ)
    → l ≡ shape_rows (placed_operand g' places) (width_of g' v) len (shape g' v) → len' ≡ len + length l
    → (2 * length g ≤ length before → (p : List Row) → length p ≡ len → rows ≡ p ++ drop len before → rows' ≡ (p ++ l) ++ drop len' before)
    → ((u : ℕ) → (u ≡ v → ⊥) → get_or places' u 0 ≡ get_or places u 0) → (0 < length l → get_or places' v 0 + 1 ≡ len')
    → Follows g before from shown g' rows places len → Follows g before from (shown ++ (v ∷ [])) g' rows' places' len'
follows_more g g' lawful before from shown rows places len v l rows' places' len' lines end writes others own f = record {
  same = f.same;
  translates = λ none room t.
      let is = f.translates none room (topological_left g shown (v ∷ []) t) in
      step g lawful before shown v t rows places len is l rows' places' len'
      (lines ∙ ap (λ (h : Flow). shape_rows (placed_operand h places) (width_of h v) len (shape h v)) f.same) end
      (writes room (translation g shown) (sym is.count) is.written) others own;
}

-- There is room for the rows of one value more.
pub never_full : (g g' : Flow) → Lawful g → (before : List Row) (from : ℕ) (shown : List ℕ) (rows : List Row) (places : List ℕ) (len v : ℕ)
    → (1024 ≤ v) ⊎ ((2046 < len) ⊎ (length rows < len + 2)) → Follows g before from shown g' rows places len → NeverFull g before from (shown ++ (v ∷ []))
never_full g g' lawful before from shown rows places len v why f none room t =
    let is = f.translates none room (topological_left g shown (v ∷ []) t) in
    let a = exists g lawful before shown v t in
    let b = low g lawful before shown v t rows places len is in
    let c = same_length g lawful before shown v t rows places len is room in
    ⊎_elim (λ h. omega arith) (λ w. ⊎_elim (λ h. omega (arith, lawful.few)) (λ h. omega arith) w) why

-- ---- no value has more than two rows

select_few : (w start : ℕ) (condition x y : Operand) → length (select_rows w start condition x y) ≤ 2
select_few w start (operand.Row r) x y = omega arith
select_few w start (operand.Constant v z) x y = omega arith
select_few w start operand.Zero x y = omega arith

form_few : (of : ℕ → Operand) (w start : ℕ) (f : Form) (vs : List ℕ) → length (form_rows of w start f vs) ≤ 2
form_few of w start Untranslated vs = omega arith
form_few of w start (Plain word) vs = omega arith
form_few of w start Inverted vs = omega arith
form_few of w start Selected vs = select_few w start (of (get_or vs 0 0)) (of (get_or vs 1 0)) (of (get_or vs 2 0))
form_few of w start (Compared word) vs = omega arith

shape_few : (of : ℕ → Operand) (w start : ℕ) (s : Shape) → length (shape_rows of w start s) ≤ 2
shape_few of w start (no_row z) = omega arith
shape_few of w start (rows_as f vs) = form_few of w start f vs

-- The rows of one value more are put behind those that were written, and the last of them is its own.
pub follows_put : (g g' : Flow) → Lawful g → (before : List Row) (from : ℕ) (shown : List ℕ) (rows : List Row) (places : List ℕ) (len v own : ℕ) (rows' : List Row) (len' : ℕ)
    → v < length places → len + 2 ≤ length rows
    → rows' ≡ put rows len (shape_rows (placed_operand g' places) (width_of g' v) len (shape g' v))
    → len' ≡ len + length (shape_rows (placed_operand g' places) (width_of g' v) len (shape g' v)) → own ≡ len' - 1
    → Follows g before from shown g' rows places len → Follows g before from (shown ++ (v ∷ [])) g' rows' (set places v own) len'
follows_put g g' lawful before from shown rows places len v own rows' len' table two puts end is f =
    let l = shape_rows (placed_operand g' places) (width_of g' v) len (shape g' v) in
    let few = shape_few (placed_operand g' places) (width_of g' v) len (shape g' v) in
    follows_more g g' lawful before from shown rows places len v l rows' (set places v own) len' refl end
    (λ room p long rest.
    puts ∙ write_more before rows p l len long rest (omega (arith, few, two, ap length rest, length-append p (drop len before), length-drop len before))
    ∙ ap (λ n. (p ++ l) ++ drop n before) (sym end))
    (λ u ne. get_or-set_other places v u own 0 ne) (λ some. omega (arith, get_or-set_same places v own 0 table, is, end)) f
