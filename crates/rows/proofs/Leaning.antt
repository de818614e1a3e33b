-- What rows lean on: aliases, and the operands of operations. Assumes nothing.
use Rattle.std.proofs.Common.{◌≡◌, ℕ, zero, suc, ◌<◌, ◌≤◌, true, false, ◌⊎◌, List, [], length, sym, refl, ap, ◌∙◌, subst, inl, inr}
use mathlib.Core.Path.{fun_ext}
use Rattle.std.proofs.lemmas.List.{get_or_past}
use Rattle.std.proofs.lemmas.Bool.{cases_Bool, cases_lt, false≢true}
use Rattle.flow.specs.Loops.{Path, one, more, Loopless, InLoop}
use Rattle.flow.specs.Meaning.{Node, NoLoop, used, uses, has}
use Rattle.flow.proofs.Loops.{reach_path, path_reach, loopless, no_loop, uses_in_lem, from_same, joined}
use Rattle.rows.specs.Circles.{target_in, alias_targets, leans_in, leans_on, NothingLeansOnItself}
use Rattle.rows.specs.Meaning.{flow, def_in, def_at}
use Rattle.rows.specs.Rows.{Rows, value_at, step_in, is_alias, follow, original}
use Rattle.rows.specs.WellFormed.{Settled}
use Rattle.rows.proofs.Aliases.{Ends, step_end, follow_end, follow_more}
use Rattle.rows.proofs.Circles.{target_has, target_is, settled_loopless, loopless_settled}
use Rattle.rows.proofs.Lawfulness.{node_in, node_past}
use Rattle.rows.specs.declared.value.ValueData.{ValueData}
use Rattle.rows.specs.declared.value.ValueData.TheVariants.{Inst, Param, Alias, Union, Deleted}

-- ---- what a value uses, by its row

abbrev pub uses_in : Rows → ℕ → List ℕ
uses_in p v = used (def_at p v)

own_original : (p : Rows) (v : ℕ) → Ends p.values v → original p v ≡ v
own_original p v e = follow_end p.values (length p.values) v e

pub uses_are : (p : Rows) → uses_in p ≡ uses (flow p)
uses_are p =
    fun_ext
    (λ v.
    elim (cases_lt v (length p.values)) [
      | inl l ↦ sym (ap (λ (n : Node). used n.def) (node_in p v l))
      | inr l ↦
          let row : value_at p v ≡ Deleted = get_or_past p.values v Deleted l in
          ap (λ w. used (def_in p (value_at p w))) (own_original p v (ap is_alias row))
          ∙ ap (λ r. used (def_in p r)) row ∙ sym (ap (λ (n : Node). used n.def) (node_past p v l))
    ])

-- ---- only a value that there is leads on

inside : (p : Rows) (targets : ℕ → List ℕ) (v w : ℕ) → (length p.values ≤ v → targets v ≡ []) → has (targets v) w ≡ true
    → v < length p.values
inside p targets v w past h =
    elim (cases_lt v (length p.values)) [ inl l ↦ l | inr l ↦ absurd (false≢true (ap (λ o. has o w) (sym (past l)) ∙ h)) ]

pub targets_inside : (p : Rows) (v w : ℕ) → has (alias_targets p v) w ≡ true → v < length p.values
targets_inside p v w = inside p (alias_targets p) v w (λ l. ap target_in (get_or_past p.values v Deleted l))

pub leans_inside : (p : Rows) (v w : ℕ) → has (leans_on p v) w ≡ true → v < length p.values
leans_inside p v w = inside p (leans_on p) v w (λ l. ap (leans_in p) (get_or_past p.values v Deleted l))

pub uses_inside : (p : Rows) (v w : ℕ) → has (uses (flow p) v) w ≡ true → v < length p.values
uses_inside p v w = inside p (uses (flow p)) v w (λ l. ap (λ (n : Node). used n.def) (node_past p v l))

-- ---- a loop is a path from a value to itself

pub in_loop_path : (p : Rows) (v : ℕ) → InLoop (flow p) v → Path (uses (flow p)) v v
in_loop_path p v (w, h, r) = reach_path (flow p) v w v h r

pub path_in_loop : (p : Rows) (v : ℕ) → Path (uses (flow p)) v v → InLoop (flow p) v
path_in_loop p v r = path_reach (flow p) r

-- ---- a use is a way along aliases, and then to an operand

alias_leans : (p : Rows) (row : ValueData) (w : ℕ) → has (target_in row) w ≡ true → has (leans_in p row) w ≡ true
alias_leans p (Inst ty num inst) w h = absurd (false≢true h)
alias_leans p (Param ty num block) w h = absurd (false≢true h)
alias_leans p (Alias ty o) w h = h
alias_leans p (Union ty x y) w h = absurd (false≢true h)
alias_leans p Deleted w h = absurd (false≢true h)

operand_leans : (p : Rows) (row : ValueData) (w : ℕ) → has (used (def_in p row)) w ≡ true → has (leans_in p row) w ≡ true
operand_leans p (Inst ty num inst) w h = h
operand_leans p (Param ty num block) w h = absurd (false≢true h)
operand_leans p (Alias ty o) w h = absurd (false≢true h)
operand_leans p (Union ty x y) w h = absurd (false≢true h)
operand_leans p Deleted w h = absurd (false≢true h)

leans_cases : (p : Rows) (row : ValueData) (w : ℕ) → has (leans_in p row) w ≡ true
    → (has (target_in row) w ≡ true) ⊎ ((is_alias row ≡ false) × (has (used (def_in p row)) w ≡ true))
leans_cases p (Inst ty num inst) w h = inr (refl, h)
leans_cases p (Param ty num block) w h = absurd (false≢true h)
leans_cases p (Alias ty o) w h = inl h
leans_cases p (Union ty x y) w h = absurd (false≢true h)
leans_cases p Deleted w h = absurd (false≢true h)

-- a path with longer steps
paths_along : {targets targets' : ℕ → List ℕ} → ((v w : ℕ) → has (targets v) w ≡ true → Path targets' v w)
    → {v w : ℕ} → Path targets v w → Path targets' v w
paths_along step {v} {w} (one h) = step v w h
paths_along step {v} (more {a = b} h r) = joined (step v b h) (paths_along step r)

loopless_along : {targets targets' : ℕ → List ℕ} → ((v w : ℕ) → has (targets v) w ≡ true → Path targets' v w)
    → Loopless targets' → Loopless targets
loopless_along step none v r = none v (paths_along step r)

module _ (p : Rows) where
  -- what the end of some aliases leans on, the first of them does
  along_aliases : (k v w : ℕ) → Path (leans_on p) (follow p.values k v) w → Path (leans_on p) v w
  along_aliases zero v w r = r
  along_aliases (suc k) v w r =
      let next : ℕ = step_in v (value_at p v) in
      let on = along_aliases k next w r in
      elim (cases_Bool (is_alias (value_at p v))) [
        | inl a ↦ more (alias_leans p (value_at p v) next (target_has v (value_at p v) a)) on
        | inr e ↦ subst (λ u. Path (leans_on p) u w) (step_end v (value_at p v) e) on
      ]

  use_leans : (v w : ℕ) → has (uses (flow p) v) w ≡ true → Path (leans_on p) v w
  use_leans v w h =
      along_aliases (length p.values) v w
      (one (operand_leans p (value_at p (original p v)) w (uses_in_lem _ _ w (ap (λ f. f v) (sym (uses_are p))) h)))

  pub leaning_sound : Loopless (leans_on p) → Settled p.values × NoLoop (flow p)
  leaning_sound none = (
    loopless_settled p (loopless_along (λ v w h. one (alias_leans p (value_at p v) w h)) none),
    no_loop (flow p) (loopless_along use_leans none),
  )

  -- a step is along an alias, or to an operand
  leans_step : (v w : ℕ) → has (leans_on p v) w ≡ true → (has (alias_targets p v) w ≡ true) ⊎ (has (uses (flow p) v) w ≡ true)
  leans_step v w h =
      elim (leans_cases p (value_at p v) w h) [
        | inl t ↦ inl t
        | inr (e, o) ↦
            inr
            (subst (λ f. has (f v) w ≡ true) (uses_are p)
            (ap (λ u. has (used (def_in p (value_at p u))) w) (own_original p v e) ∙ o))
      ]

  module _ (settled : Settled p.values) where
    -- an alias uses what its target uses
    alias_uses : (v w : ℕ) → has (alias_targets p v) w ≡ true → uses (flow p) v ≡ uses (flow p) w
    alias_uses v w h =
        let t = target_is v w (value_at p v) h in
        let n : ℕ = length p.values in
        let same : original p v ≡ original p w = sym (follow_more p.values n v (settled v)) ∙ ap (original p) t.1 in
        subst (λ f. f v ≡ f w) (uses_are p) (ap (λ u. used (def_in p (value_at p u))) same)

    aliases_use : {v w : ℕ} → Path (alias_targets p) v w → uses (flow p) v ≡ uses (flow p) w
    aliases_use {v} {w} (one h) = alias_uses v w h
    aliases_use {v} (more {a = b} h r) = alias_uses v b h ∙ aliases_use r

    -- a path is along aliases alone, or comes by uses to what uses the same as its end
    leans_path : {v w : ℕ} → Path (leans_on p) v w
        → Path (alias_targets p) v w ⊎ ((u : ℕ) × Path (uses (flow p)) v u × (uses (flow p) u ≡ uses (flow p) w))
    leans_path {v} {w} (one h) = elim (leans_step v w h) [ inl t ↦ inl (one t) | inr o ↦ inr (w, one o, refl) ]
    leans_path {v} (more {a = b} h r) =
        elim (leans_step v b h) [
          | inl t ↦
              elim (leans_path r) [
                | inl q ↦ inl (more t q)
                | inr (u, q, e) ↦ inr (u, from_same v (alias_uses v b t) q, e)
              ]
          | inr o ↦ elim (leans_path r) [ inl q ↦ inr (b, one o, aliases_use q) | inr (u, q, e) ↦ inr (u, more o q, e) ]
        ]

  pub leaning_complete : Settled p.values × NoLoop (flow p) → Loopless (leans_on p)
  leaning_complete (settled, none) v r =
      elim (leans_path settled r) [
        | inl q ↦ settled_loopless p settled v q
        | inr (u, q, e) ↦ loopless (flow p) none u (from_same u e q)
      ]

pub nothing_leans_on_itself : NothingLeansOnItself
nothing_leans_on_itself p = (leaning_sound p, leaning_complete p)
