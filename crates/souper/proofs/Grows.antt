-- One value more in a walk. Assumes nothing.
use Rattle.std.proofs.Common.{◌≡◌, ℕ, suc, ◌+◌, ◌<◌, Bool, true, false, cond, eqb, List, [], ◌∷◌, ◌++◌, map, length, get_or, sym, refl, ap, ◌∙◌, subst, ap₂, arith, length-append}
use lib.ListN.{length-map}
use Rattle.ir.specs.Entities.{values}
use Rattle.std.specs.List.{flat_map}
use Rattle.std.proofs.lemmas.List.{flat_map_more}
use Rattle.std.proofs.lemmas.Bool.{eq-eqb}
use Rattle.flow.specs.Meaning.{Flow, width_of, def_of, used, uses, DefFits, Lawful}
use Rattle.flow.specs.Walk.{In, place_of}
use Rattle.flow.specs.declared.definition.ValueDef.{ValueDef}
use Rattle.flow.specs.declared.definition.ValueDef.TheVariants as def
use Rattle.flow.proofs.Places.{place_first}
use Rattle.souper.specs.declared.rows.Row.{Row}
use Rattle.souper.specs.Soundness.{TranslationGrows}
use Rattle.souper.specs.declared.form.Form.{Form}
use Rattle.souper.specs.declared.form.Form.TheVariants.{Untranslated, Plain, Inverted, Selected, Compared}
use Rattle.souper.specs.Translation.{Shape, no_row, rows_as, shape, shape_of, form_of, same_widths, row_count, start_of, row_of, operand_at, operand_of, select_rows, form_rows, shape_rows, value_rows, translation, added_rows}
use Rattle.souper.specs.declared.rows.Operand.{Operand}
use Rattle.souper.specs.declared.rows.Operand.TheVariants as operand
use Rattle.souper.specs.declared.rows.RowOperands.TheVariants.{One}
use Rattle.ir.specs.declared.words.Word.TheVariants.{Zext}
use Rattle.souper.specs.Rows.{given}
use Rattle.souper.proofs.Places.{value_length}
use Rattle.souper.proofs.Sound.{Arity, form_arity}

-- ---- where rows start

pub start_push_self : (g : Flow) (walk : List ℕ) (v : ℕ) → start_of g (walk ++ v ∷ []) v ≡ start_of g walk v
unfolding start_of
start_push_self g [] v = rw (eq-eqb v v refl) refl
start_push_self g (u ∷ us) v = ap (λ n. cond (eqb u v) 0 (row_count g u + n)) (start_push_self g us v)

pub start_push : (g : Flow) (walk : List ℕ) (v u : ℕ) → In walk u → start_of g (walk ++ v ∷ []) u ≡ start_of g walk u
unfolding start_of place_of
start_push g [] v u i = absurd (omega arith)
start_push g (x ∷ xs) v u i = at (eqb x u) i (start_push g xs v u)
  where
    at : (b : Bool) → cond b 0 (suc (place_of xs u)) < suc (length xs) → (In xs u → start_of g (xs ++ v ∷ []) u ≡ start_of g xs u)
        → cond b 0 (row_count g x + start_of g (xs ++ v ∷ []) u) ≡ cond b 0 (row_count g x + start_of g xs u)
    at true l ih = refl
    at false l ih = ap (λ n. row_count g x + n) (ih (omega arith))

-- a value that is not in the walk starts behind all its rows
pub start_past : (g : Flow) (f : ℕ → List Row) → ((u : ℕ) → length (f u) ≡ row_count g u) → (walk : List ℕ) (v : ℕ) → (In walk v → ⊥) → start_of g walk v ≡ length (flat_map f walk)
unfolding start_of place_of
start_past g f len [] v n = refl
start_past g f len (u ∷ us) v n = at (eqb u v) n (start_past g f len us v)
  where
    at : (b : Bool) → (cond b 0 (suc (place_of us v)) < suc (length us) → ⊥) → ((In us v → ⊥) → start_of g us v ≡ length (flat_map f us))
        → cond b 0 (row_count g u + start_of g us v) ≡ length (f u ++ flat_map f us)
    at true m ih = absurd (m (omega arith))
    at false m ih = omega (arith, ih (λ i. m (omega arith)), len u, length-append (f u) (flat_map f us))

-- ---- operands and rows of values of the walk stay

pub operand_push : (g : Flow) (walk : List ℕ) (v u : ℕ) → In walk u → operand_of g (walk ++ v ∷ []) u ≡ operand_of g walk u
unfolding row_of
operand_push g walk v u i = at (shape g u)
  where
    at : (s : Shape) → operand_at g u (row_of g (walk ++ v ∷ []) u) s ≡ operand_at g u (row_of g walk u) s
    at (no_row z) = refl
    at (rows_as f vs) = rw (start_push g walk v u i) refl

-- ---- rows over operands that are the same

Same : (ℕ → Operand) → (ℕ → Operand) → List ℕ → Type 0
Same f h vs = (k : ℕ) → k < length vs → f (get_or vs k 0) ≡ h (get_or vs k 0)

map_same : (f h : ℕ → Operand) (vs : List ℕ) → Same f h vs → map f vs ≡ map h vs
unfolding Same
map_same f h [] e = refl
map_same f h (u ∷ vs) e = ap₂ (λ (x : Operand) (xs : List Operand). x ∷ xs) (e 0 (omega arith)) (map_same f h vs (λ k l. e (suc k) (omega arith)))

form_same : (f h : ℕ → Operand) (w start : ℕ) (form : Form) (vs : List ℕ) → Same f h vs → Arity form (length vs) → form_rows f w start form vs ≡ form_rows h w start form vs
unfolding Same
form_same f h w start Untranslated vs e a = refl
form_same f h w start (Plain word) vs e a = ap (λ xs. record { width = w; word = word; operands = given xs } ∷ []) (map_same f h vs e)
form_same f h w start Inverted vs e a = rw (e 0 (omega arith)) refl
form_same f h w start Selected vs e a =
    ap (λ (x : Operand). select_rows w start x (f (get_or vs 1 0)) (f (get_or vs 2 0))) (e 0 (omega arith))
    ∙ ap₂ (λ (x y : Operand). select_rows w start (h (get_or vs 0 0)) x y) (e 1 (omega arith)) (e 2 (omega arith))
form_same f h w start (Compared word) vs e a = ap (λ xs. record { width = 1; word = word; operands = given xs } ∷ record { width = w; word = Zext; operands = One (operand.Row start) } ∷ []) (map_same f h vs e)

-- the rows of a value depend only on the operands that it uses
pub rows_same : (g : Flow) → Lawful g → (f h : ℕ → Operand) (u start : ℕ) (d : ValueDef) → def_of g u ≡ d → ((k : ℕ) → k < length (used d) → f (get_or (used d) k 0) ≡ h (get_or (used d) k 0))
    → shape_rows f (width_of g u) start (shape_of g d) ≡ shape_rows h (width_of g u) start (shape_of g d)
unfolding Same
rows_same g wf f h u start (def.Constant z) e same = refl
rows_same g wf f h u start (def.Operation o c args) e same =
    let vs : List ℕ = values args in
    let fits : DefFits g (width_of g u) (def.Operation o c args) = subst (DefFits g (width_of g u)) e (wf.fits u) in
    let form : Form = form_of o c (same_widths g vs) in
    let a : Arity form (length vs) = subst (Arity form) (length-map vs (width_of g)) (form_arity o c (same_widths g vs) (width_of g u) (map (width_of g) vs) fits.2) in
    form_same f h (width_of g u) start form vs same a
rows_same g wf f h u start def.Variable e same = refl
rows_same g wf f h u start def.Deleted e same = refl

-- ---- one value more

joined_same : (f h : ℕ → List Row) (xs : List ℕ) → ((k : ℕ) → k < length xs → f (get_or xs k 0) ≡ h (get_or xs k 0)) → flat_map f xs ≡ flat_map h xs
joined_same f h [] e = refl
joined_same f h (x ∷ xs) e = ap₂ (λ (a b : List Row). a ++ b) (e 0 (omega arith)) (joined_same f h xs (λ k l. e (suc k) (omega arith)))

pub translation_grows : TranslationGrows
unfolding translation
translation_grows g walk v wf wk n h =
    let w : List ℕ = walk ++ v ∷ [] in
    let old : flat_map (value_rows g w) walk ≡ flat_map (value_rows g walk) walk =
    joined_same (value_rows g w) (value_rows g walk) walk
    (λ k l. let u : ℕ = get_or walk k 0 in
    let i : In walk u = omega (arith, place_first walk k l) in
    ap (λ n. shape_rows (operand_of g w) (width_of g u) n (shape g u)) (start_push g walk v u i)
    ∙ rows_same g wf (operand_of g w) (operand_of g walk) u (start_of g walk u) (def_of g u) refl (λ j m. operand_push g walk v (get_or (uses g u) j 0) (omega (arith, wk.operands_first u j i m)))) in
    let new : value_rows g w v ≡ added_rows g walk v (shape g v) =
    ap (λ n. shape_rows (operand_of g w) (width_of g v) n (shape g v)) (start_push_self g walk v ∙ start_past g (value_rows g walk) (value_length g walk) walk v n)
    ∙ rows_same g wf (operand_of g w) (operand_of g walk) v (length (translation g walk)) (def_of g v) refl (λ j m. operand_push g walk v (get_or (uses g v) j 0) (h j m)) in
    sym (flat_map_more (value_rows g w) [] walk v) ∙ ap₂ (λ (a b : List Row). a ++ b) old new
