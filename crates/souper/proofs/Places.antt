-- Where the rows of a value stand in a translation. Assumes nothing.
use Rattle.std.proofs.Common.{◌≡◌, ℕ, suc, ◌+◌, ◌-◌, ◌*◌, ◌<◌, ◌≤◌, Bool, true, false, cond, eqb, ◌⊎◌, List, [], ◌∷◌, ◌++◌, length, get_or, refl, ap, ◌∙◌, subst, sym, inl, inr, add_assoc, zero-add, arith, length-append}
use Rattle.std.specs.List.{flat_map}
use Rattle.std.proofs.lemmas.List.{get_or_append_left, get_or-append-add}
use Rattle.std.proofs.lemmas.Bool.{eqb-true, eq-eqb, both_ways, cases_lt}
use Rattle.flow.specs.Meaning.{Flow, width_of, has}
use Rattle.flow.specs.Walk.{Distinct, place_of, In}
use Rattle.flow.proofs.Places.{in_has}
use Rattle.souper.specs.declared.rows.Row.{Row}
use Rattle.souper.specs.Rows.{row_at, variable_of}
use Rattle.souper.specs.declared.form.Form.{Form}
use Rattle.souper.specs.declared.form.Form.TheVariants.{Untranslated, Plain, Inverted, Selected, Compared}
use Rattle.souper.specs.Translation.{Shape, no_row, rows_as, shape, condition_helpers, helpers, row_count_of, row_count, start_of, row_of, operand_at, operand_of, select_rows, form_rows, shape_rows, value_rows, translation}

-- ---- a list of lists, one for each value

-- the element j of the list of v stands so far behind those of the values before v
joined_at : (g : Flow) (f : ℕ → List Row) → ((u : ℕ) → length (f u) ≡ row_count g u) → (walk : List ℕ) (v j : ℕ) → In walk v → j < row_count g v
    → (start_of g walk v + j < length (flat_map f walk)) × (row_at (flat_map f walk) (start_of g walk v + j) ≡ row_at (f v) j)
unfolding start_of place_of
joined_at g f len [] v j i h = absurd (omega arith)
joined_at g f len (u ∷ us) v j i h = at (eqb u v) refl i (joined_at g f len us v j)
  where
    At : ℕ → Type 0
    At start = (start + j < length (f u ++ flat_map f us)) × (row_at (f u ++ flat_map f us) (start + j) ≡ row_at (f v) j)

    at : (b : Bool) → eqb u v ≡ b → cond b 0 (suc (place_of us v)) < suc (length us)
        → (In us v → j < row_count g v → (start_of g us v + j < length (flat_map f us)) × (row_at (flat_map f us) (start_of g us v + j) ≡ row_at (f v) j))
        → At (cond b 0 (row_count g u + start_of g us v))
    at true e k ih =
        let s : u ≡ v = eqb-true u v e in
        let l : j < length (f u) = omega (arith, len u, ap (row_count g) s) in
        (omega (arith, length-append (f u) (flat_map f us)), rw zero-add (get_or_append_left (f u) (flat_map f us) (variable_of 0) j l ∙ ap (λ x. row_at (f x) j) s))
    at false e k ih =
        let p = ih (omega arith) h in
        (omega (arith, length-append (f u) (flat_map f us), len u, p.0), rw (add_assoc, ← len u) (get_or-append-add (f u) (flat_map f us) (start_of g us v + j) (variable_of 0) ∙ p.1))

-- what comes earlier in the walk has its rows earlier
pub start_order : (g : Flow) (walk : List ℕ) (u v : ℕ) → place_of walk u < place_of walk v → start_of g walk u + row_count g u ≤ start_of g walk v
unfolding start_of place_of
start_order g [] u v h = absurd (omega arith)
start_order g (x ∷ xs) u v h = at (eqb x u) (eqb x v) refl h (start_order g xs u v)
  where
    at : (a b : Bool) → eqb x u ≡ a → cond a 0 (suc (place_of xs u)) < cond b 0 (suc (place_of xs v))
        → (place_of xs u < place_of xs v → start_of g xs u + row_count g u ≤ start_of g xs v)
        → cond a 0 (row_count g x + start_of g xs u) + row_count g u ≤ cond b 0 (row_count g x + start_of g xs v)
    at a true e k ih = absurd (omega arith)
    at true false e k ih = omega (arith, ap (row_count g) (eqb-true x u e))
    at false false e k ih = omega (arith, ih (omega arith))

-- ---- the rows of a value

select_length : (g : Flow) (walk : List ℕ) (w start u : ℕ) (s : Shape) (x y : _) → length (select_rows w start (operand_at g u (row_of g walk u) s) x y) ≡ condition_helpers s + 1
select_length g walk w start u (no_row z) x y = refl
select_length g walk w start u (rows_as f vs) x y = refl

form_length : (g : Flow) (walk : List ℕ) (w start : ℕ) (f : Form) (vs : List ℕ) → length (form_rows (operand_of g walk) w start f vs) ≡ helpers g f vs + 1
form_length g walk w start Untranslated vs = refl
form_length g walk w start (Plain word) vs = refl
form_length g walk w start Inverted vs = refl
form_length g walk w start Selected vs = select_length g walk w start (get_or vs 0 0) (shape g (get_or vs 0 0)) _ _
form_length g walk w start (Compared word) vs = refl

pub shape_length : (g : Flow) (walk : List ℕ) (w start : ℕ) (s : Shape) → length (shape_rows (operand_of g walk) w start s) ≡ row_count_of g s
shape_length g walk w start (no_row z) = refl
shape_length g walk w start (rows_as f vs) = form_length g walk w start f vs

pub value_length : (g : Flow) (walk : List ℕ) (v : ℕ) → length (value_rows g walk v) ≡ row_count g v
value_length g walk v = shape_length g walk (width_of g v) (start_of g walk v) (shape g v)

condition_few : (s : Shape) → condition_helpers s ≤ 1
condition_few (no_row z) = omega arith
condition_few (rows_as f vs) = omega arith

pub count_few : (g : Flow) (s : Shape) → row_count_of g s ≤ 2
count_few g (no_row z) = omega arith
count_few g (rows_as Untranslated vs) = omega arith
count_few g (rows_as (Plain word) vs) = omega arith
count_few g (rows_as Inverted vs) = omega arith
count_few g (rows_as Selected vs) = omega (arith, condition_few (shape g (get_or vs 0 0)))
count_few g (rows_as (Compared word) vs) = omega arith

joined_few : (f : ℕ → List Row) → ((u : ℕ) → length (f u) ≤ 2) → (vs : List ℕ) → length (flat_map f vs) ≤ 2 * length vs
joined_few f few [] = omega arith
joined_few f few (v ∷ vs) = omega (arith, few v, joined_few f few vs, length-append (f v) (flat_map f vs))

-- a value has at most two rows
pub translation_few : (g : Flow) (walk : List ℕ) → length (translation g walk) ≤ 2 * length walk
unfolding translation
translation_few g walk = joined_few (value_rows g walk) (λ u. omega (arith, value_length g walk u, count_few g (shape g u))) walk

pub row_there : (g : Flow) (walk : List ℕ) (v j : ℕ) → In walk v → j < row_count g v
    → (start_of g walk v + j < length (translation g walk)) × (row_at (translation g walk) (start_of g walk v + j) ≡ row_at (value_rows g walk v) j)
unfolding translation
row_there g walk v j i h = joined_at g (value_rows g walk) (value_length g walk) walk v j i h

-- ---- the value that a row belongs to

-- The row r is the row `nth` of a value of the walk. It stands where the value's rows do; or, where the walk has the value again, behind them.
pub record Owner (g : Flow) (f : ℕ → List Row) (walk : List ℕ) (r : ℕ) (row : Row) : Type 0 where
  pub owner : ℕ
  pub nth : ℕ
  pub in_walk : In walk owner
  pub few : nth < row_count g owner
  pub first : start_of g walk owner + nth ≤ r
  pub exact : Distinct walk → start_of g walk owner + nth ≡ r
  pub is : row ≡ row_at (f owner) nth

joined_owner : (g : Flow) (f : ℕ → List Row) → ((u : ℕ) → length (f u) ≡ row_count g u) → (walk : List ℕ) (r : ℕ) → r < length (flat_map f walk) → Owner g f walk r (row_at (flat_map f walk) r)
unfolding start_of place_of
joined_owner g f len [] r h = absurd (omega arith)
joined_owner g f len (u ∷ us) r h = at (cases_lt r (length (f u))) (joined_owner g f len us)
  where
    later : (s : ℕ) → r ≡ length (f u) + s → (o : Owner g f us s (row_at (flat_map f us) s)) → (b : Bool) → eqb u o.owner ≡ b → Owner g f (u ∷ us) r (row_at (f u ++ flat_map f us) r)
    later s e o true q = record {
      owner = o.owner;
      nth = o.nth;
      in_walk = rw q (omega arith);
      few = o.few;
      first = rw q (omega (arith, o.first));
      exact = λ d. absurd (both_ways _ d.0 (subst (λ x. has us x ≡ true) (sym (eqb-true u o.owner q)) (in_has us o.owner o.in_walk)));
      is = rw e (get_or-append-add (f u) (flat_map f us) s (variable_of 0)) ∙ o.is;
    }
    later s e o false q = record {
      owner = o.owner;
      nth = o.nth;
      in_walk = rw q (omega (arith, o.in_walk));
      few = o.few;
      first = rw q (omega (arith, o.first, len u));
      exact = λ d. rw q (omega (arith, o.exact d.1, len u));
      is = rw e (get_or-append-add (f u) (flat_map f us) s (variable_of 0)) ∙ o.is;
    }

    at : (r < length (f u)) ⊎ (length (f u) ≤ r) → ((s : ℕ) → s < length (flat_map f us) → Owner g f us s (row_at (flat_map f us) s)) → Owner g f (u ∷ us) r (row_at (f u ++ flat_map f us) r)
    at (inl l) ih =
        let z : eqb u u ≡ true = eq-eqb u u refl in
        record {
          owner = u;
          nth = r;
          in_walk = rw z (omega arith);
          few = omega (arith, len u);
          first = rw z (omega arith);
          exact = λ d. rw z (omega arith);
          is = get_or_append_left (f u) (flat_map f us) (variable_of 0) r l;
        }
    at (inr l) ih =
        let o = ih (r - length (f u)) (omega (arith, length-append (f u) (flat_map f us))) in
        later (r - length (f u)) (omega arith) o (eqb u o.owner) refl

pub row_owner : (g : Flow) (walk : List ℕ) (r : ℕ) → r < length (translation g walk) → Owner g (value_rows g walk) walk r (row_at (translation g walk) r)
unfolding translation
row_owner g walk r h = joined_owner g (value_rows g walk) (value_length g walk) walk r h
