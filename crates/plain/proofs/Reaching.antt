-- What reaches a value whose aliases lead through another. Assumes nothing.
use Rattle.std.proofs.Common.{◌≡◌, ℕ, Bool, true, false, ◌||◌, List, sym, refl, ap, ◌∙◌, inl, inr}
use Rattle.std.specs.List.{list_any}
use Rattle.std.proofs.lemmas.Bool.{or_cases, or_left, or_right}
use Rattle.flow.specs.Meaning.{Lawful, Reach, here, through as further, uses, has}
use Rattle.flow.specs.Walk.{walk}
use Rattle.flow.proofs.Among.{any_some, some_any}
use Rattle.flow.proofs.Walks.{walk_is_post_order}
use Rattle.rows.specs.Meaning.{flow}
use Rattle.rows.specs.Rows.{Rows}
use Rattle.plain.specs.Loops.{through, reaches_through}

-- two tests that pass together
pub same_test : (a b : Bool) → (a ≡ true → b ≡ true) → (b ≡ true → a ≡ true) → a ≡ b
same_test true b f h = sym (f refl)
same_test false true f h = h refl
same_test false false f h = refl

pub any_same : (f h : ℕ → Bool) (vs : List ℕ) → ((v : ℕ) → has vs v ≡ true → f v ≡ h v) → list_any f vs ≡ list_any h vs
any_same f h vs same =
    same_test (list_any f vs) (list_any h vs)
    (λ e. let s = any_some f vs e in some_any h vs s.0 s.1 (sym (same s.0 s.1) ∙ s.2))
    (λ e. let s = any_some h vs e in some_any f vs s.0 s.1 (same s.0 s.1 ∙ s.2))

module _ (p : Rows) (lawful : Lawful (flow p)) (d : ℕ) where
  pub reaches_some : (v : ℕ) → reaches_through p d v ≡ true → (u : ℕ) × Reach (flow p) v u × (through p.values d u ≡ true)
  unfolding reaches_through
  reaches_some v e =
      let s = any_some (through p.values d) (walk (flow p) v) e in
      (s.0, (walk_is_post_order (flow p) lawful v).reached s.0 s.1, s.2)

  pub some_reaches : (v u : ℕ) → Reach (flow p) v u → through p.values d u ≡ true → reaches_through p d v ≡ true
  unfolding reaches_through
  some_reaches v u r t =
      some_any (through p.values d) (walk (flow p) v) u ((walk_is_post_order (flow p) lawful v).complete u r) t

  -- a value reaches such a value if it is one, or if one of its operands reaches one
  pub reaches_unfolds : (v : ℕ) → reaches_through p d v ≡ (through p.values d v || list_any (reaches_through p d) (uses (flow p) v))
  reaches_unfolds v =
      same_test _ _
      (λ e. let s = reaches_some v e in onward s.0 s.1 s.2)
      (λ e.
      elim (or_cases (through p.values d v) _ e) [
        | inl t ↦ some_reaches v v (here refl) t
        | inr a ↦
            let w = any_some (reaches_through p d) (uses (flow p) v) a in
            let s = reaches_some w.0 w.2 in
            some_reaches v s.0 (further w.0 w.1 s.1) s.2
      ])
    where
      onward : (u : ℕ) → Reach (flow p) v u → through p.values d u ≡ true → (through p.values d v || list_any (reaches_through p d) (uses (flow p) v)) ≡ true
      onward u (here e) t = or_left (through p.values d v) _ (ap (through p.values d) e ∙ t)
      onward u (further w h r) t =
          or_right (through p.values d v) _ (some_any (reaches_through p d) (uses (flow p) v) w h (some_reaches w u r t))
