-- A new alias is refused for a loop exactly if the altered graph would have one, at the lowest value in one. Assumes nothing.
use Rattle.std.proofs.Common.{unwrap_or, find, ◌≡◌, ℕ, zero, suc, ◌+◌, ◌<◌, ◌≤◌, Bool, true, false, cond, not, eqb, ◌≢◌, ◌⊎◌, List, length, get_or, Some, None, sym, refl, ap, ◌∙◌, subst, inl, inr, arith}
use Rattle.std.specs.List.{range_with_len}
use Rattle.std.proofs.lemmas.Bool.{cases_Bool, and_parts, and_from, not-true, ne_eqb, eqb-false, eqb-true, or_cases, false≢true}
use Rattle.ir.specs.declared.entities.Value.{Value}
use Rattle.ir.specs.declared.refusal.Cause.TheVariants.{Loop}
use Rattle.flow.specs.Loops.{Path, one, more, Loopless, InLoop, LowestInLoop}
use Rattle.flow.specs.Meaning.{Flow, Lawful, Reach, here, through as further, used, uses, live}
use Rattle.flow.proofs.Loops.{reach_path, path_reach}
use Rattle.flow.proofs.Paths.{live_exists}
use Rattle.flow.proofs.Walks.{walk_is_post_order}
use Rattle.rows.specs.Meaning.{flow, def_in}
use Rattle.rows.specs.Rows.{Rows, value_at, step_in, follow, original, original_in}
use Rattle.rows.specs.WellFormed.{WellFormed, Settled}
use Rattle.rows.proofs.Aliases.{Ends, one_end}
use Rattle.rows.proofs.Lawfulness.{lawful, length_flow}
use Rattle.rows.specs.declared.value.ValueData.{ValueData}
use Rattle.rows.specs.declared.value.ValueData.TheVariants.{Deleted}
use Rattle.calls.specs.Calls.{ChangeToAlias}
use Rattle.plain.specs.AliasLoops.{Judged}
use Rattle.ir.specs.Refusals.{first, answer_unless}
use Rattle.plain.specs.Feed.{checks, grown}
use Rattle.plain.specs.Loops.{leads, through, reaches_through, closes, lowest_in_loop, loop_refusal}
use Rattle.plain.proofs.Accepted.{alias_accepted}
use Rattle.plain.proofs.Kept.{alias_kept}
use Rattle.plain.proofs.Loops.{Comes, looped, in_loop}
use Rattle.rows.proofs.Leaning.{uses_in, uses_are}
use Rattle.plain.proofs.NoLoops.{rows_loopless, taken, left}
use Rattle.plain.proofs.Reaching.{reaches_some, some_reaches}
use Rattle.plain.proofs.Through.{through_end}

-- ---- what leads through one value has one original

led_to : (rows : List ValueData) (d k v : ℕ) → leads rows d k v ≡ true → (j : ℕ) × (follow rows j v ≡ d)
led_to rows d zero v h = (zero, eqb-true v d h)
led_to rows d (suc k) v h =
    elim (or_cases (eqb v d) _ h) [
      | inl e ↦ (zero, eqb-true v d e)
      | inr m ↦ let s = led_to rows d k (step_in v (get_or rows v Deleted)) m in (suc s.0, s.1)
    ]

follow_add : (rows : List ValueData) (j k v : ℕ) → follow rows k (follow rows j v) ≡ follow rows (j + k) v
follow_add rows zero k v = ap (λ n. follow rows n v) zero_is
  where
    zero_is : k ≡ zero + k
    zero_is = omega arith
follow_add rows (suc j) k v = follow_add rows j k (step_in v (get_or rows v Deleted)) ∙ ap (λ n. follow rows n v) suc_is
  where
    suc_is : suc (j + k) ≡ suc j + k
    suc_is = omega arith

one_original : (rows : List ValueData) (d v : ℕ) → Settled rows → through rows d v ≡ true → original_in rows v ≡ original_in rows d
unfolding through
one_original rows d v s h =
    let n : ℕ = length rows in
    let t = led_to rows d n v h in
    let at : follow rows (t.0 + n) v ≡ original_in rows d = sym (follow_add rows t.0 n v) ∙ ap (follow rows n) t.1 in
    one_end rows n (t.0 + n) v (s v) (subst (Ends rows) (sym at) (s d)) ∙ at

-- ---- paths and reach

path_to : (g : Flow) (v u : ℕ) → Reach g v u → (v ≡ u) ⊎ Path (uses g) v u
path_to g v u (here e) = inl e
path_to g v u (further w h r) = inr (reach_path g v w u h r)

reach_to : (g : Flow) (v u : ℕ) → Path (uses g) v u → Reach g v u
reach_to g v u s = let r = path_reach g s in further r.0 r.1 r.2

-- ---- the first number that passes a test

-- x passes the test, and no number from v on and below x does
abbrev Lowest : (ℕ → Bool) → ℕ → ℕ → Type 0
Lowest test x v = (test x ≡ true) × ((w : ℕ) → v ≤ w → test w ≡ true → x ≤ w)

lowest_next : (test : ℕ → Bool) (v x : ℕ) → test v ≡ false → Lowest test x (v + 1) → Lowest test x v
lowest_next test v x h s = (s.0, λ w le t. s.1 w (next w le (λ same. false≢true (sym h ∙ ap test (sym same) ∙ t))) t)
  where
    next : (w : ℕ) → v ≤ w → w ≢ v → v + 1 ≤ w
    next w le ne = omega arith

find_lowest : (test : ℕ → Bool) (n v u d : ℕ) → v ≤ u → u < v + n → test u ≡ true → Lowest test (unwrap_or (find test (range_with_len v n)) d) v
find_lowest test zero v u d le lt e = absurd (omega arith)
find_lowest test (suc n) v u d le lt e =
    elim (cases_Bool (test v)) [
      | inl h ↦ subst (λ b. Lowest test (unwrap_or (cond b (Some v) (find test (range_with_len (v + 1) n))) d) v) (sym h) (h, λ w below t. below)
      | inr h ↦
          let other : u ≢ v = λ same. false≢true (sym h ∙ ap test (sym same) ∙ e) in
          subst (λ b. Lowest test (unwrap_or (cond b (Some v) (find test (range_with_len (v + 1) n))) d) v) (sym h)
          (lowest_next test v (unwrap_or (find test (range_with_len (v + 1) n)) d) h (find_lowest test n (v + 1) u d (omega arith) (omega arith) e))
    ]

-- ---- the theorem

module _ (p : Rows) (marks : ℕ) (dest src : Value) (free : first (checks p marks (ChangeToAlias dest src)) ≡ None) (well : WellFormed p) where
  abbrev source : ℕ
  source = original p src.0

  abbrev altered : Rows
  altered = grown p (ChangeToAlias dest src)

  abbrev thru : ℕ → Bool
  thru = through p.values dest.0

  alike : (v w : ℕ) → thru v ≡ true → thru w ≡ true → uses_in p v ≡ uses_in p w
  alike v w e f =
      ap (λ x. used (def_in p (value_at p x))) (one_original p.values dest.0 v well.0.4 e ∙ sym (one_original p.values dest.0 w well.0.4 f))

  none : Loopless (uses_in p)
  none = rows_loopless p well.2

  -- what the source reaches, and what comes to a value that leads through the destination, by walks and by paths
  closes_parts : (v : ℕ) → closes p dest.0 source v ≡ true → Path (uses_in p) source v × Comes (uses_in p) thru v
  unfolding closes
  closes_parts v e =
      let a = and_parts _ _ e in
      let b = and_parts _ _ a.1 in
      let other : v ≢ source = eqb-false v source (not-true _ a.0) in
      let l = lawful p well.0 well.2 in
      let s = reaches_some p l dest.0 v b.1 in (
        elim (path_to (flow p) source v ((walk_is_post_order (flow p) l source).reached v b.0))
            [ inl same ↦ absurd (other (sym same)) | inr path ↦ back path ],
        elim (path_to (flow p) v s.0 s.1) [
          | inl same ↦ inl (ap thru same ∙ s.2)
          | inr path ↦ inr (s.0, back path, s.2)
        ],
      )
    where
      back : {v u : ℕ} → Path (uses (flow p)) v u → Path (uses_in p) v u
      back {v} {u} path = subst (λ us. Path us v u) (sym (uses_are p)) path

  parts_close : (v : ℕ) → Path (uses_in p) source v → Comes (uses_in p) thru v → closes p dest.0 source v ≡ true
  unfolding closes
  parts_close v path comes =
      let l = lawful p well.0 well.2 in
      and_from _ _ (ap not (ne_eqb v source (λ same. none source (subst (Path (uses_in p) source) same path))))
      (and_from _ _ ((walk_is_post_order (flow p) l source).complete v (reach_to (flow p) source v (forth path)))
      (elim comes [
        | inl e ↦ some_reaches p l dest.0 v v (here refl) e
        | inr c ↦ some_reaches p l dest.0 v c.0 (reach_to (flow p) v c.0 (forth c.1)) c.2
      ]))
    where
      forth : {v u : ℕ} → Path (uses_in p) v u → Path (uses (flow p)) v u
      forth {v} {u} path = subst (λ us. Path us v u) (uses_are p) path

  -- in a loop of the altered graph are just the values that close one
  closed : (v : ℕ) → closes p dest.0 source v ≡ true → InLoop (flow altered) v
  closed v e =
      let c = closes_parts v e in
      let path = in_loop (uses_in p) (uses_in altered) thru source (taken p marks dest src free well.0) (left p marks dest src free well.0) alike none v c.0 c.1 in
      path_reach (flow altered) (subst (λ us. Path us v v) (uses_are altered) path)

  only_closed : (v : ℕ) → InLoop (flow altered) v → closes p dest.0 source v ≡ true
  only_closed v h =
      let path = subst (λ us. Path us v v) (sym (uses_are altered)) (reach_path (flow altered) v h.0 v h.1 h.2) in
      let c = looped (uses_in p) (uses_in altered) thru source (taken p marks dest src free well.0) (left p marks dest src free well.0) alike none v path in
      parts_close v c.0 c.1

  path_live : (g : Flow) → Lawful g → {v u : ℕ} → Path (uses g) v u → live g u ≡ true
  path_live g l {v} {u} (one h) = l.operands_live v u h
  path_live g l (more h t) = path_live g l t

  -- if the source reaches a value that leads through the destination, that value closes a loop
  some_closes : reaches_through p dest.0 source ≡ true → (u : ℕ) × (u < length p.values) × (closes p dest.0 source u ≡ true)
  some_closes e =
      let l = lawful p well.0 well.2 in
      let s = reaches_some p l dest.0 source e in
      let a = alias_accepted p marks dest src free in
      let clear : thru source ≡ false = through_end p.values dest.0 source (well.0.4 src.0) ∙ ne_eqb source dest.0 a.other in
      elim (path_to (flow p) source s.0 s.1) [
        | inl same ↦ absurd (false≢true (sym clear ∙ ap thru same ∙ s.2))
        | inr path ↦ (
          s.0,
          subst (λ n. s.0 < n) (length_flow p) (live_exists (flow p) s.0 (path_live (flow p) l path)),
          parts_close s.0 (subst (λ us. Path us source s.0) (sym (uses_are p)) path) (inl s.2),
        )
      ]

  lowest_closes : reaches_through p dest.0 source ≡ true → LowestInLoop (flow altered) (lowest_in_loop p dest.0 source)
  unfolding lowest_in_loop
  lowest_closes e =
      let s = some_closes e in
      let f = find_lowest (closes p dest.0 source) (length p.values) 0 s.0 (length p.values) (omega arith) (omega arith) s.2 in
      record { in_loop = closed _ f.0; lowest = λ u h. f.1 u (omega arith) (only_closed u h) }

  pub judged : Judged (flow altered) (answer_unless (loop_refusal p dest.0 source) tt)
  judged =
      elim (cases_Bool (reaches_through p dest.0 source)) [
        | inl e ↦ subst (λ b. Judged (flow altered) (answer_unless (cond b (Some (record { cause = Loop; place = lowest_in_loop p dest.0 source })) None) tt)) (sym e) (refl, lowest_closes e)
        | inr e ↦ subst (λ b. Judged (flow altered) (answer_unless (cond b (Some (record { cause = Loop; place = lowest_in_loop p dest.0 source })) None) tt)) (sym e) (alias_kept p marks dest src free e well).2
      ]
