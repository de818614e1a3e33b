-- What is answered about a value or an instruction, by its row. Assumes nothing.
use Rattle.std.proofs.Common.{◌≡◌, ℕ, Result, cond, ltb, length, Ok, Err, sym, ap, ◌∙◌, inl, inr}
use Rattle.std.proofs.lemmas.Bool.{cases_lt, cond-true, cond-false, lt-ltb, le-ltb}
use Rattle.ir.specs.Entities.{value, not_live}
use Rattle.ir.specs.declared.refusal.Refusal.{Refusal}
use Rattle.flow.specs.Layout as laid
use Rattle.flow.specs.Layout.{InstRow, asked_inst}
use Rattle.flow.specs.Meaning.{Node, node, asked, original_of, def_of}
use Rattle.rows.specs.Meaning.{flow, node_of, def_at, layout, placed, single_of}
use Rattle.rows.specs.Rows.{Rows, inst_at, original}
use Rattle.rows.proofs.Lawfulness.{node_in, asked_in, asked_past, inst_in, asked_inst_in, asked_inst_past}

-- an answer, refused where the number is not among so many
abbrev among : {A : Type 0} → ℕ → ℕ → A → Result A Refusal
among k n answer = cond (ltb k n) (Ok answer) (Err not_live)

module _ (p : Rows) where
  value_asked : {A : Type 0} (f : Node → A) (v : ℕ) → asked (flow p) v (f (node (flow p) v)) ≡ among v (length p.values) (f (node_of p v))
  value_asked f v =
      elim (cases_lt v (length p.values)) [
        | inl l ↦
            asked_in p v _ l ∙ ap (λ n. Ok (f n)) (node_in p v l) ∙ sym (cond-true (ltb v (length p.values)) _ _ (lt-ltb v (length p.values) l))
        | inr l ↦ asked_past p v _ l ∙ sym (cond-false (ltb v (length p.values)) _ _ (le-ltb v (length p.values) l))
      ]

  inst_asked : {A : Type 0} (f : InstRow → A) (i : ℕ)
      → asked_inst (layout p) i (f (laid.inst_at (layout p) i)) ≡ among i (length p.insts) (f (placed (inst_at p i)))
  inst_asked f i =
      elim (cases_lt i (length p.insts)) [
        | inl l ↦
            asked_inst_in p i _ l ∙ ap (λ x. Ok (f x)) (inst_in p i l) ∙ sym (cond-true (ltb i (length p.insts)) _ _ (lt-ltb i (length p.insts) l))
        | inr l ↦ asked_inst_past p i _ l ∙ sym (cond-false (ltb i (length p.insts)) _ _ (le-ltb i (length p.insts) l))
      ]

  pub original_asked : (v : ℕ) → asked (flow p) v (value (original_of (flow p) v)) ≡ among v (length p.values) (value (original p v))
  original_asked = value_asked (λ n. value n.original)

  pub def_asked : (v : ℕ) → asked (flow p) v (def_of (flow p) v) ≡ among v (length p.values) (def_at p v)
  def_asked = value_asked (λ n. n.def)

  pub block_asked : (i : ℕ) → asked_inst (layout p) i (laid.inst_at (layout p) i).block ≡ among i (length p.insts) (inst_at p i).block
  block_asked = inst_asked (λ x. x.block)

  pub result_asked : (i : ℕ)
      → asked_inst (layout p) i (laid.inst_at (layout p) i).result ≡ among i (length p.insts) (single_of (inst_at p i).results)
  result_asked = inst_asked (λ x. x.result)
