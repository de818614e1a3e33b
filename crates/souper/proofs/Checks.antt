-- The width check goes through the rows in order, and names the first that breaks a rule. Assumes nothing.
use Rattle.std.proofs.Common.{◌≡◌, ℕ, zero, suc, ◌+◌, ◌<◌, Bool, true, false, cond, ◌↔◌, T, List, [], ◌∷◌, length, Some, None, Ok, Err, Option, Result, sym, refl, subst, arith}
use Rattle.std.proofs.lemmas.Bool.{and_parts, and_from, eqb-true, eq-eqb, ltb-true, lt-ltb, both_ways}
use Rattle.std.proofs.lemmas.Float.{T_from_true}
use Rattle.ir.specs.declared.refusal.Refusal.{Refusal}
use Rattle.flow.specs.Meaning.{is_type}
use Rattle.souper.specs.Check.{has_width, has_width_or_zero, kind_fits, is_earlier, are_earlier, row_fits, first_bad, broken_at, verdict, width_check}
use Rattle.souper.specs.Rows.{operand_width, row_at}
use Rattle.souper.specs.Widths.{HasWidth, HasWidthOrZero, KindFits, Earlier, AllEarlier, RowFits, WidthsPass, FirstToBreak}
use Rattle.souper.specs.Words.{kind_of}
use Rattle.souper.specs.declared.kind.Kind.{Kind}
use Rattle.souper.specs.declared.kind.Kind.TheVariants as kind
use Rattle.souper.specs.declared.rows.Operand.{Operand}
use Rattle.souper.specs.declared.rows.Operand.TheVariants as operand
use Rattle.souper.specs.declared.rows.Row.{Row}
use Rattle.souper.specs.declared.rows.RowOperands.{RowOperands}
use Rattle.souper.specs.declared.rows.RowOperands.TheVariants.{Empty, One, Two, Three}

-- ---- each test holds exactly where its rule does

T_true : (b : Bool) → T b → b ≡ true
T_true true t = refl
T_true false t = absurd t

no : {P : Type 0} → false ≡ true → P
no e = absurd (both_ways false refl e)

module _ (rows : List Row) where
  width_test : (w : ℕ) (x : Operand) → HasWidth rows w x → has_width rows w x ≡ true
  width_test w (operand.Row r) h = eq-eqb _ w h
  width_test w (operand.Constant v z) h = eq-eqb v w h
  width_test w operand.Zero h = absurd h

  width_rule : (w : ℕ) (x : Operand) → has_width rows w x ≡ true → HasWidth rows w x
  width_rule w (operand.Row r) h = eqb-true _ w h
  width_rule w (operand.Constant v z) h = eqb-true v w h
  width_rule w operand.Zero h = no h

  zero_test : (w : ℕ) (x : Operand) → HasWidthOrZero rows w x → has_width_or_zero rows w x ≡ true
  zero_test w (operand.Row r) h = eq-eqb _ w h
  zero_test w (operand.Constant v z) h = eq-eqb v w h
  zero_test w operand.Zero h = refl

  zero_rule : (w : ℕ) (x : Operand) → has_width_or_zero rows w x ≡ true → HasWidthOrZero rows w x
  zero_rule w (operand.Row r) h = eqb-true _ w h
  zero_rule w (operand.Constant v z) h = eqb-true v w h
  zero_rule w operand.Zero h = tt

  -- an operand has no width but its own
  own_width : (w : ℕ) (x : Operand) → HasWidth rows w x → w ≡ operand_width rows x
  own_width w (operand.Row r) h = sym h
  own_width w (operand.Constant v z) h = sym h
  own_width w operand.Zero h = absurd h

  kind_test : (w : ℕ) (k : Kind) (xs : RowOperands) → KindFits rows w k xs → kind_fits rows w k xs ≡ true
  kind_test w kind.Variable Empty f = refl
  kind_test w kind.Variable (One x) f = absurd f
  kind_test w kind.Variable (Two x y) f = absurd f
  kind_test w kind.Variable (Three x y z) f = absurd f
  kind_test w kind.Unary Empty f = absurd f
  kind_test w kind.Unary (One x) f = width_test w x f
  kind_test w kind.Unary (Two x y) f = absurd f
  kind_test w kind.Unary (Three x y z) f = absurd f
  kind_test w kind.Binary Empty f = absurd f
  kind_test w kind.Binary (One x) f = absurd f
  kind_test w kind.Binary (Two x y) f = and_from _ _ (width_test w x f.0) (width_test w y f.1)
  kind_test w kind.Binary (Three x y z) f = absurd f
  kind_test w kind.Comparison Empty f = absurd f
  kind_test w kind.Comparison (One x) f = absurd f
  kind_test w kind.Comparison (Two x y) f =
      let v = own_width f.1 x f.2 in
      and_from _ _ (eq-eqb w 1 f.0) (and_from _ _ (width_test _ x (subst (λ n. HasWidth rows n x) v f.2)) (width_test _ y (subst (λ n. HasWidth rows n y) v f.3)))
  kind_test w kind.Comparison (Three x y z) f = absurd f
  kind_test w kind.Inequality Empty f = absurd f
  kind_test w kind.Inequality (One x) f = absurd f
  kind_test w kind.Inequality (Two x y) f =
      let v = own_width f.1 x f.2 in
      and_from _ _ (eq-eqb w 1 f.0) (and_from _ _ (width_test _ x (subst (λ n. HasWidth rows n x) v f.2)) (zero_test _ y (subst (λ n. HasWidthOrZero rows n y) v f.3)))
  kind_test w kind.Inequality (Three x y z) f = absurd f
  kind_test w kind.Choice Empty f = absurd f
  kind_test w kind.Choice (One x) f = absurd f
  kind_test w kind.Choice (Two x y) f = absurd f
  kind_test w kind.Choice (Three x y z) f = and_from _ _ (width_test 1 x f.0) (and_from _ _ (width_test w y f.1) (width_test w z f.2))
  kind_test w kind.Extension Empty f = absurd f
  kind_test w kind.Extension (One x) f =
      let v = own_width f.0 x f.2 in
      and_from _ _ (lt-ltb _ w (omega (arith, f.1))) (width_test _ x (subst (λ n. HasWidth rows n x) v f.2))
  kind_test w kind.Extension (Two x y) f = absurd f
  kind_test w kind.Extension (Three x y z) f = absurd f

  kind_rule : (w : ℕ) (k : Kind) (xs : RowOperands) → kind_fits rows w k xs ≡ true → KindFits rows w k xs
  kind_rule w kind.Variable Empty e = tt
  kind_rule w kind.Variable (One x) e = no e
  kind_rule w kind.Variable (Two x y) e = no e
  kind_rule w kind.Variable (Three x y z) e = no e
  kind_rule w kind.Unary Empty e = no e
  kind_rule w kind.Unary (One x) e = width_rule w x e
  kind_rule w kind.Unary (Two x y) e = no e
  kind_rule w kind.Unary (Three x y z) e = no e
  kind_rule w kind.Binary Empty e = no e
  kind_rule w kind.Binary (One x) e = no e
  kind_rule w kind.Binary (Two x y) e = let p = and_parts _ _ e in (width_rule w x p.0, width_rule w y p.1)
  kind_rule w kind.Binary (Three x y z) e = no e
  kind_rule w kind.Comparison Empty e = no e
  kind_rule w kind.Comparison (One x) e = no e
  kind_rule w kind.Comparison (Two x y) e =
      let p = and_parts _ _ e in
      let q = and_parts _ _ p.1 in
      (eqb-true w 1 p.0, operand_width rows x, width_rule _ x q.0, width_rule _ y q.1)
  kind_rule w kind.Comparison (Three x y z) e = no e
  kind_rule w kind.Inequality Empty e = no e
  kind_rule w kind.Inequality (One x) e = no e
  kind_rule w kind.Inequality (Two x y) e =
      let p = and_parts _ _ e in
      let q = and_parts _ _ p.1 in
      (eqb-true w 1 p.0, operand_width rows x, width_rule _ x q.0, zero_rule _ y q.1)
  kind_rule w kind.Inequality (Three x y z) e = no e
  kind_rule w kind.Choice Empty e = no e
  kind_rule w kind.Choice (One x) e = no e
  kind_rule w kind.Choice (Two x y) e = no e
  kind_rule w kind.Choice (Three x y z) e =
      let p = and_parts _ _ e in
      let q = and_parts _ _ p.1 in
      (width_rule 1 x p.0, width_rule w y q.0, width_rule w z q.1)
  kind_rule w kind.Extension Empty e = no e
  kind_rule w kind.Extension (One x) e = let p = and_parts _ _ e in (operand_width rows x, ltb-true _ w p.0, width_rule _ x p.1)
  kind_rule w kind.Extension (Two x y) e = no e
  kind_rule w kind.Extension (Three x y z) e = no e

  earlier_test : (r : ℕ) (x : Operand) → Earlier r x → is_earlier r x ≡ true
  earlier_test r (operand.Row s) h = lt-ltb s r h
  earlier_test r (operand.Constant w z) h = T_true (is_type w) h
  earlier_test r operand.Zero h = refl

  earlier_rule : (r : ℕ) (x : Operand) → is_earlier r x ≡ true → Earlier r x
  earlier_rule r (operand.Row s) h = ltb-true s r h
  earlier_rule r (operand.Constant w z) h = T_from_true (is_type w) h
  earlier_rule r operand.Zero h = tt

  all_test : (r : ℕ) (xs : RowOperands) → AllEarlier r xs → are_earlier r xs ≡ true
  all_test r Empty h = refl
  all_test r (One x) h = earlier_test r x h
  all_test r (Two x y) h = and_from _ _ (earlier_test r x h.0) (earlier_test r y h.1)
  all_test r (Three x y z) h = and_from _ _ (earlier_test r x h.0) (and_from _ _ (earlier_test r y h.1) (earlier_test r z h.2))

  all_rule : (r : ℕ) (xs : RowOperands) → are_earlier r xs ≡ true → AllEarlier r xs
  all_rule r Empty e = tt
  all_rule r (One x) e = earlier_rule r x e
  all_rule r (Two x y) e = let p = and_parts _ _ e in (earlier_rule r x p.0, earlier_rule r y p.1)
  all_rule r (Three x y z) e = let p = and_parts _ _ e in let q = and_parts _ _ p.1 in (earlier_rule r x p.0, earlier_rule r y q.0, earlier_rule r z q.1)

  row_test : (r : ℕ) (row : Row) → RowFits rows r row → row_fits rows r row ≡ true
  row_test r row f = and_from _ _ (T_true (is_type row.width) f.width) (and_from _ _ (all_test r row.operands f.earlier) (kind_test row.width (kind_of row.word) row.operands f.fits))

  row_rule : (r : ℕ) (row : Row) → row_fits rows r row ≡ true → RowFits rows r row
  row_rule r row e =
      let p = and_parts _ _ e in
      let q = and_parts _ _ p.1 in
      record { width = T_from_true (is_type row.width) p.0; earlier = all_rule r row.operands q.0; fits = kind_rule row.width (kind_of row.word) row.operands q.1 }

  -- ---- the first row that breaks a rule

  -- what is found among the rows from r on: each row before it keeps the rules, and it does not
  Found : ℕ → List Row → Option ℕ → Type 0
  Found r rest None = (k : ℕ) → k < length rest → row_fits rows (r + k) (row_at rest k) ≡ true
  Found r rest (Some s) = (n : ℕ) × (s ≡ r + n) × (n < length rest) × (row_fits rows s (row_at rest n) ≡ false) × ((k : ℕ) → k < n → row_fits rows (r + k) (row_at rest k) ≡ true)

  found : (r : ℕ) (rest : List Row) → Found r rest (first_bad rows r rest)
  unfolding Found
  found r [] = λ k lt. absurd (omega arith)
  found r (row ∷ rest) = at (row_fits rows r row) refl (first_bad rows (suc r) rest) (found (suc r) rest)
    where
      shifted : (k : ℕ) → row_fits rows (suc r + k) (row_at rest k) ≡ true → row_fits rows (r + suc k) (row_at rest k) ≡ true
      shifted k e = let s : suc r + k ≡ r + suc k = omega arith in subst (λ n. row_fits rows n (row_at rest k) ≡ true) s e

      here : row_fits rows r row ≡ true → row_fits rows (r + 0) row ≡ true
      here e = let s : r ≡ r + 0 = omega arith in subst (λ n. row_fits rows n row ≡ true) s e

      at : (b : Bool) → row_fits rows r row ≡ b → (o : Option ℕ) → Found (suc r) rest o → Found r (row ∷ rest) (cond b o (Some r))
      at true e None f = front
        where
          front : (k : ℕ) → k < suc (length rest) → row_fits rows (r + k) (row_at (row ∷ rest) k) ≡ true
          front zero lt = here e
          front (suc k) lt = shifted k (f k (omega arith))
      at true e (Some s) f = (suc f.0, omega (arith, f.1), omega (arith, f.2), f.3, front)
        where
          front : (k : ℕ) → k < suc f.0 → row_fits rows (r + k) (row_at (row ∷ rest) k) ≡ true
          front zero lt = here e
          front (suc k) lt = shifted k (f.4 k (omega arith))
      at false e o f = (0, omega arith, omega arith, e, λ k lt. absurd (omega arith))

  from_start : (k : ℕ) (row : Row) → row_fits rows (0 + k) row ≡ true → RowFits rows k row
  from_start k row e = let z : 0 + k ≡ k = omega arith in row_rule k row (subst (λ n. row_fits rows n row ≡ true) z e)

  abbrev Judged : Option ℕ → Type 0
  Judged None = WidthsPass rows
  Judged (Some r) = FirstToBreak rows r

  judged : (o : Option ℕ) → Found 0 rows o → Judged o
  unfolding Found
  judged None f = λ k lt. from_start k (row_at rows k) (f k lt)
  judged (Some r) f =
      let z : r ≡ f.0 = omega (arith, f.1) in
      let bad : row_fits rows r (row_at rows r) ≡ false = subst (λ n. row_fits rows r (row_at rows n) ≡ false) (sym z) f.3 in
      record {
        there = omega (arith, f.2);
        breaks = λ fits. both_ways _ bad (row_test r (row_at rows r) fits);
        before = λ k lt. from_start k (row_at rows k) (f.4 k (omega arith));
      }

  pub first_judged : Judged (first_bad rows 0 rows)
  first_judged = judged (first_bad rows 0 rows) (found 0 rows)

  -- the check passes exactly the rows that each keep the rules
  pub check_exact : (answer : Result (Unit {0}) Refusal) → answer ≡ width_check rows → (answer ≡ Ok tt) ↔ WidthsPass rows
  check_exact answer e = at (first_bad rows 0 rows) first_judged e
    where
      at : (o : Option ℕ) → Judged o → answer ≡ verdict o → (answer ≡ Ok tt) ↔ WidthsPass rows
      at None j q = (λ _. j, λ _. q)
      at (Some r) j q = (λ e. cc, λ p. absurd (j.breaks (p r j.there)))

  -- and it names the first row that breaks a rule
  pub check_names : (why : Refusal) → width_check rows ≡ Err why → (r : ℕ) × FirstToBreak rows r × (why ≡ broken_at r)
  check_names why = at (first_bad rows 0 rows) first_judged
    where
      at : (o : Option ℕ) → Judged o → verdict o ≡ Err why → (r : ℕ) × FirstToBreak rows r × (why ≡ broken_at r)
      at None j e = cc
      at (Some r) j e = (r, j, cc)
