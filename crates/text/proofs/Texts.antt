-- A candidate's text as it grows, row by row.
use Rattle.std.proofs.Common.{◌≡◌, ℕ, suc, ◌+◌, ◌<◌, ◌≤◌, List, [], ◌∷◌, ◌++◌, length, take, drop, sym, refl, ap, ◌∙◌, add-zero, append_assoc, arith, length-append}
use Rattle.std.proofs.lemmas.List.{append-nil, length-take-le, take-append-drop, take_all, take_more}
use Rattle.ir.specs.declared.entities.Value.{Value}
use Rattle.souper.specs.Rows.{row_at, variable_of}
use Rattle.souper.specs.declared.rows.Row.{Row}
use Rattle.text.specs.Text.{heading, ending, row_line, row_lines, text_of}

-- the text up to the row r
abbrev pub text_before : Value → List ℕ → List Row → ℕ → List ℕ
text_before root name rows r = heading root name ++ row_lines 0 (take r rows)

row_lines_append : (r : ℕ) (xs ys : List Row) → row_lines r (xs ++ ys) ≡ row_lines r xs ++ row_lines (r + length xs) ys
unfolding row_lines
row_lines_append r [] ys = ap (λ n. row_lines n ys) (sym (add-zero r))
row_lines_append r (x ∷ xs) ys =
    let step : suc r + length xs ≡ r + length (x ∷ xs) = omega arith in
    ap (λ l. row_line r x ++ l) (row_lines_append (suc r) xs ys ∙ ap (λ n. row_lines (suc r) xs ++ row_lines n ys) step)
    ∙ sym (append_assoc (row_line r x) (row_lines (suc r) xs) (row_lines (r + length (x ∷ xs)) ys))

row_lines_one : (r : ℕ) (x : Row) → row_lines r (x ∷ []) ≡ row_line r x
unfolding row_lines
row_lines_one r x = append-nil (row_line r x)

no_rows : (r : ℕ) → row_lines r [] ≡ []
unfolding row_lines
no_rows r = refl

-- before the first row there is the heading
pub text_begins : (root : Value) (name : List ℕ) (rows : List Row) → heading root name ≡ text_before root name rows 0
text_begins root name rows = sym (ap (λ l. heading root name ++ l) (no_rows 0) ∙ append-nil (heading root name))

-- and with each row comes its line
pub text_more : (root : Value) (name : List ℕ) (rows : List Row) (r : ℕ) → r < length rows → text_before root name rows (r + 1) ≡ text_before root name rows r ++ row_line r (row_at rows r)
text_more root name rows r h =
    let row = row_at rows r in
    let at : 0 + length (take r rows) ≡ r = omega (arith, length-take-le r rows (omega arith)) in
    ap (λ l. heading root name ++ l) (
    ap (row_lines 0) (take_more rows r (variable_of 0) h)
    ∙ row_lines_append 0 (take r rows) (row ∷ [])
    ∙ ap (λ l. row_lines 0 (take r rows) ++ l) (row_lines_one (0 + length (take r rows)) row ∙ ap (λ n. row_line n row) at)
    )
    ∙ sym (append_assoc (heading root name) (row_lines 0 (take r rows)) (row_line r row))

-- behind the last row comes the ending
pub text_ends : (root : Value) (name : List ℕ) (rows : List Row) (r : ℕ) → length rows ≤ r → text_of root name rows ≡ text_before root name rows r ++ ending rows
unfolding text_of
text_ends root name rows r h = ap (λ l. heading root name ++ row_lines 0 l ++ ending rows) (sym (take_all r rows h))

-- the text up to a row is no longer than the whole
pub text_before_fits : (root : Value) (name : List ℕ) (rows : List Row) (r : ℕ) → length (text_before root name rows r) ≤ length (text_of root name rows)
unfolding text_of
text_before_fits root name rows r =
    let parts : row_lines 0 rows ≡ row_lines 0 (take r rows) ++ row_lines (0 + length (take r rows)) (drop r rows) = ap (row_lines 0) (sym (take-append-drop r rows)) ∙ row_lines_append 0 (take r rows) (drop r rows) in
    omega (
      arith,
      ap length parts,
      length-append (row_lines 0 (take r rows)) (row_lines (0 + length (take r rows)) (drop r rows)),
      length-append (heading root name) (row_lines 0 (take r rows)),
      length-append (heading root name ++ row_lines 0 rows) (ending rows),
      length-append (heading root name) (row_lines 0 rows),
    )

-- nor is it with the row's line
pub row_line_fits : (root : Value) (name : List ℕ) (rows : List Row) (r : ℕ) → r < length rows → length (text_before root name rows r) + length (row_line r (row_at rows r)) ≤ length (text_of root name rows)
row_line_fits root name rows r h =
    omega (
      arith,
      text_before_fits root name rows (r + 1),
      ap length (text_more root name rows r h),
      length-append (text_before root name rows r) (row_line r (row_at rows r)),
    )
