-- How a fold over digits comes to a number, what stands behind a prefix, and what a search finds in a table. Assumes nothing.
use Rattle.std.proofs.Common.{◌≡◌, ℕ, ◌+◌, ◌-◌, ◌*◌, ◌^◌, ◌<◌, ◌≤◌, nat_le, Bool, eqb, List, [], ◌∷◌, ◌++◌, map, length, Some, None, Option, sym, refl, ap, subst, ◌∙◌, ⊎_elim, arith, Bor, MatchOption}
use denote.Param.Members.{Mut}
use Rattle.std.specs.ControlFlow.{continue_value}
use Rattle.std.specs.Fn.{Called}
use Rattle.std.specs.Iterator.{AlwaysYields, Yields, TryFoldTurn, TryFoldsItems}
use Rattle.std.specs.List.{FoldsTo, find}
use Rattle.std.specs.Option.{option_map, option_and_then}
use Rattle.std.proofs.lemmas.Iterator.{YieldsList}
use Rattle.std.proofs.lemmas.Bool.{cond-true, cond-false, cases_Bool, le-leb, leb-true, leb-false, lt-leb, eq-eqb, eqb-true}
use Rattle.std.specs.Str.{bytes_eq}
use Rattle.script.specs.Names.{named, code_named}
use Rattle.script.specs.Numbers.{is_digit, decimal_after, below, number, behind}

-- ---- a fold that breaks off

-- steps from b over xs, none where one of them is none
abbrev pub folded : {X B : Type 0} → (B → X → Option B) → B → List X → Option B
folded h b [] = Some b
folded h b (x ∷ xs) = option_and_then (λ c. folded h c xs) (h b x)

-- what `try_fold` gives over the items that an iterator yields, where each call of the closure computes h
module _ {S A X B F : Type 0} (E : Type 0) (steps : S → Option A → S → Type 0) (view : A → X) (g : Mut F (B × (A × Unit {0})) (Option B)) (h : B → X → Option B) (each : (p q : F) (b : B) (x : A) (v : Option B) → Called g p (b, (x, tt)) v q → v ≡ h b (view x)) where
  over : (all : List X) (s t u : S) (xs : List A) (o : Option A) (p q : F) (b c : B) (r : Option B) → AlwaysYields steps view s all → Yields steps s xs t → steps t o u → FoldsTo (TryFoldTurn {E = E} g (λ v r. v ≡ continue_value r)) (p, b) xs (q, c) → MatchOption o (r ≡ Some c) (λ x. (v : Option B) × (z : F) × (e : E) × Called g q (c, (x, tt)) v z × (v ≡ None) × (r ≡ None)) → r ≡ folded h b all
  over [] s t u [] None p q b c r a y st f m = m ∙ ap Some (sym (ap (λ w. w.1) f))
  over [] s t u [] (Some x) p q b c r a y st f m = absurd (a x u (subst (λ (w : S). steps w (Some x) u) (sym y) st))
  over [] s t u (x ∷ xs) o p q b c r a y st f m = absurd (a x y.0 y.1)
  over (z ∷ zs) s t u [] None p q b c r a y st f m = absurd (a.0 u (subst (λ (w : S). steps w None u) (sym y) st))
  over (z ∷ zs) s t u [] (Some x) p q b c r a y st f m =
      let here : view x ≡ z = (a.1 x u (subst (λ (w : S). steps w (Some x) u) (sym y) st)).0 in
      let stops : h b z ≡ None = ap (λ w. h w z) (ap (λ w. w.1) f) ∙ ap (h c) (sym here) ∙ sym (each q m.1 c x m.0 m.3) ∙ m.4 in
      m.5 ∙ sym (ap (option_and_then (λ c. folded h c zs)) stops)
  over (z ∷ zs) s t u (x ∷ xs) o p q b c r a y st f m =
      let step = a.1 x y.0 y.1 in
      let goes : h b z ≡ Some f.0.1 = ap (h b) (sym step.0) ∙ sym (each p f.0.0 b x f.1.0 f.1.1) ∙ f.1.2 in
      over zs y.0 t u xs o f.0.0 q f.0.1 c r step.1 y.2 st f.2 m ∙ sym (ap (option_and_then (λ c. folded h c zs)) goes)

-- the same from the call's clause `ran`
pub try_fold_is : {S A X B F E : Type 0} {steps : S → Option A → S → Type 0} {view : A → X} {g : Mut F (B × (A × Unit {0})) (Option B)} {s : S} {all : List X} (h : B → X → Option B) (u : S) (f : F) (init : B) (r : Option B) → TryFoldsItems steps {E = E} g (λ v r. v ≡ continue_value r) (λ _ r. r ≡ None) s f init r u → YieldsList steps view s all → ((p q : F) (b : B) (x : A) (v : Option B) → Called g p (b, (x, tt)) v q → v ≡ h b (view x)) → r ≡ folded h init all
try_fold_is {E = E} {steps = steps} {view = view} {g = g} {s = s} {all = all} h u f init r e y each =
    over E steps view g h each all s e.4.0 u e.0 e.1 f e.2 init e.3 r y.runs e.4.1 e.4.2 e.5 e.6

-- ---- a number

-- the number that a digit writes behind those that write n, below 2 ^ 64
abbrev pub with_digit : ℕ → ℕ → Option ℕ
with_digit n b = below (2 ^ 64) (decimal_after n (b ∷ []))

-- a number that is too big stays so
too_big : (n : ℕ) (bs : List ℕ) → 2 ^ 64 ≤ n → below (2 ^ 64) (decimal_after n bs) ≡ None
too_big n [] h = cond-true _ _ _ (le-leb _ n h)
too_big n (b ∷ bs) h =
    ⊎_elim
    (λ t. ap (below (2 ^ 64)) (cond-true (is_digit b) _ _ t) ∙ too_big (n * 10 + (b - 48)) bs (omega arith))
    (λ t. ap (below (2 ^ 64)) (cond-false (is_digit b) _ _ t))
    (cases_Bool (is_digit b))

-- a number is read digit by digit
pub by_digits : (n : ℕ) (bs : List ℕ) → n < 2 ^ 64 → folded with_digit n bs ≡ below (2 ^ 64) (decimal_after n bs)
by_digits n [] lt = sym (cond-false _ _ _ (lt-leb _ n lt))
by_digits n (b ∷ bs) lt =
    let m = n * 10 + (b - 48) in
    let rest : Option ℕ → Option ℕ = option_and_then (λ c. folded with_digit c bs) in
    ⊎_elim
    (λ t. ap (λ o. rest (below (2 ^ 64) o)) (cond-true _ _ _ t)
    ∙ ⊎_elim
    (λ big. ap rest (cond-true _ _ _ big) ∙ sym (too_big m bs (leb-true _ m big)))
    (λ fits. ap rest (cond-false _ _ _ fits) ∙ by_digits m bs (leb-false _ m fits))
    (cases_Bool (nat_le (2 ^ 64) m))
    ∙ sym (ap (below (2 ^ 64)) (cond-true _ _ _ t)))
    (λ t. ap (λ o. rest (below (2 ^ 64) o)) (cond-false _ _ _ t) ∙ sym (ap (below (2 ^ 64)) (cond-false _ _ _ t)))
    (cases_Bool (is_digit b))

pub started : (bs : List ℕ) → 0 < length bs → below (2 ^ 64) (decimal_after 0 bs) ≡ number (2 ^ 64) bs
started [] h = absurd (omega arith)
started (b ∷ bs) h = refl

-- ---- a prefix

pub behind_front : (p w : List ℕ) → behind p (p ++ w) ≡ Some w
behind_front [] w = refl
behind_front (b ∷ p) w = cond-true _ _ _ (eq-eqb b b refl) ∙ behind_front p w

behind_none : (p w : List ℕ) → ((rest : List ℕ) → w ≡ p ++ rest → ⊥) → behind p w ≡ None
behind_none [] w h = absurd (h w refl)
behind_none (b ∷ p) [] h = refl
behind_none (b ∷ p) (c ∷ w) h =
    ⊎_elim
    (λ t. cond-true (eqb b c) _ _ t ∙ behind_none p w (λ rest e. h (rest) (ap (λ x. x ∷ w) (sym (eqb-true b c t)) ∙ ap (λ l. b ∷ l) e)))
    (λ t. cond-false (eqb b c) _ _ t)
    (cases_Bool (eqb b c))

pub stripped : (w p : List ℕ) (r : Option (Bor (List ℕ))) → MatchOption r ((rest : List ℕ) → w ≡ p ++ rest → ⊥) (λ x. w ≡ p ++ x.now) → option_map (λ x. x.now) r ≡ behind p w
stripped w p None h = sym (behind_none p w h)
stripped w p (Some x) h = sym (ap (behind p) h ∙ behind_front p x.now)

-- ---- names in a table

module _ {T : Type 0} (word : List ℕ) where
  abbrev pub has_name : Bor (List ℕ) × T → Bool
  has_name entry = bytes_eq word entry.0.now

  named_is : (table : List (Bor (List ℕ) × T)) → option_map (λ entry. entry.1) (find has_name table) ≡ named (map (λ entry. (entry.0.now, entry.1)) table) word
  named_is [] = refl
  named_is (entry ∷ table) =
      ⊎_elim
      (λ t. ap (option_map (λ entry. entry.1)) (cond-true _ _ _ t) ∙ sym (cond-true _ _ _ t))
      (λ t. ap (option_map (λ entry. entry.1)) (cond-false _ _ _ t) ∙ named_is table ∙ sym (cond-false _ _ _ t))
      (cases_Bool (has_name entry))

  -- what stands in the entry that was found
  pub named_found : (table : List (Bor (List ℕ) × T)) (o : Option (Bor (Bor (List ℕ) × T))) → option_map (λ x. x.now) o ≡ find has_name table → option_map (λ x. x.now.1) o ≡ named (map (λ entry. (entry.0.now, entry.1)) table) word
  named_found table None e = ap (option_map (λ entry. entry.1)) e ∙ named_is table
  named_found table (Some x) e = ap (option_map (λ entry. entry.1)) e ∙ named_is table

-- the code of the case that was found
pub code_found : {X : Type 0} (name : X → List ℕ) (code : X → ℕ) (xs : List X) (word : List ℕ) (o : Option (Bor X)) → option_map (λ x. x.now) o ≡ find (λ x. bytes_eq word (name x)) xs → option_map (λ x. code x.now) o ≡ code_named name code xs word
code_found name code xs word None e = ap (option_map code) e
code_found name code xs word (Some x) e = ap (option_map code) e
