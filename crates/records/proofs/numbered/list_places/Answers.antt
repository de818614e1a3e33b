use Rattle.std.proofs.Common.{◌≡◌, ℕ, ◌/◌, ◌+◌, ◌<◌, ◌≤◌, Bool, true, false, ◌&&◌, leb, List, [], ◌∷◌, ◌++◌, length, filter, Result, Ok, Err, sym, ap, ◌∙◌, arith, length-append}
use Rattle.std.specs.List.{range_with_len}
use Rattle.std.specs.Result.{is_ok, OnOk, OnErr}
use Rattle.std.proofs.lemmas.Bool.{false≢true, lt-leb, and_right}
use Rattle.std.proofs.lemmas.Result.{err_from_is_err_and}
use Rattle.records.specs.Fields.{kind_of}
use Rattle.records.specs.Kinds.{is_value, is_inst, kind_at, is_value_at, is_inst_at, places_of}
use Rattle.records.specs.declared.record.Kind.TheVariants.{Value, Inst, Unknown}
use Rattle.records.proofs.Indexing.{kept_here, kept_over}
use Rattle.records.proofs.numbered.list_places.Goals.{in-Value, in-Inst, in-Unknown}
use Rattle.records.proofs.numbered.list_places.Goals as goal

at_ok : {T E P : Type 0} (r : Result T E) → is_ok r ≡ true → OnOk r P → P
at_ok (Ok x) e h = h
at_ok (Err y) e h = absurd (false≢true e)

at_err : {T E P : Type 0} (r : Result T E) → is_ok r ≡ false → OnErr r P → P
at_err (Ok x) e h = absurd (false≢true (sym e))
at_err (Err y) e h = h

-- the numbers kept of one kind, once that of record k is put behind them or passed by
module _ (p : ℕ → Bool) (k : ℕ) (before after : List ℕ) (kept : before ≡ filter p (range_with_len 0 k)) where
  put : p k ≡ true → after ≡ before ++ k ∷ [] → length before < 1024 → (after ≡ filter p (range_with_len 0 (k + 1))) × (length after ≤ 1024)
  put is a room = (kept_here p k true before after is kept a, omega (arith, ap length a, length-append before (k ∷ [])))

  passed_by : p k ≡ false → after ≡ before → length before ≤ 1024 → (after ≡ filter p (range_with_len 0 (k + 1))) × (length after ≤ 1024)
  passed_by is a room = (kept_here p k false before after is kept a, omega (arith, ap length a))

pub loop-k-preserved : goal.loop-k-preserved
loop-k-preserved c =
    let bs = c.args.bytes.now in
    let k = c.loop-k.k in
    let old = c.loop-k.invariant in
    let went : is_ok c.match-kind.map_err ≡ true = sym c.map_err.ensures.variant ∙ ap is_ok c.in_ok-map_err.was in
    elim c.match-kind.branch [
      | in-Value w ↦ (let kind : kind_at bs k ≡ Value = sym (w.in-Value.ensures ∙ ap kind_of c.of.ensures) in
          let ok = sym (ap is_ok w.map_err-is) ∙ went in
          let values = put (is_value_at bs) k c.loop-k.values.items c.match-kind.values.items old.values (ap is_value kind) (ap (λ p. p.items) w.values-is ∙ at_ok w.try_push.result ok w.try_push.ensures.ok) (omega (arith, w.try_push.ensures.variant.0 ok)) in
          let insts = passed_by (is_inst_at bs) k c.loop-k.insts.items c.match-kind.insts.items old.insts (ap is_inst kind) (ap (λ p. p.items) w.insts-is) old.few_insts in
          record { values = values.0; insts = insts.0; few_values = values.1; few_insts = insts.1 })
      | in-Inst w ↦ (let kind : kind_at bs k ≡ Inst = sym (w.in-Inst.ensures ∙ ap kind_of c.of.ensures) in
          let ok = sym (ap is_ok w.map_err-is) ∙ went in
          let values = passed_by (is_value_at bs) k c.loop-k.values.items c.match-kind.values.items old.values (ap is_value kind) (ap (λ p. p.items) w.values-is) old.few_values in
          let insts = put (is_inst_at bs) k c.loop-k.insts.items c.match-kind.insts.items old.insts (ap is_inst kind) (ap (λ p. p.items) w.insts-is ∙ at_ok w.try_push-in-Inst.result ok w.try_push-in-Inst.ensures.ok) (omega (arith, w.try_push-in-Inst.ensures.variant.0 ok)) in
          record { values = values.0; insts = insts.0; few_values = values.1; few_insts = insts.1 })
      | in-Unknown w ↦ (let kind : kind_at bs k ≡ Unknown = sym (w.in-Unknown.ensures ∙ ap kind_of c.of.ensures) in
          let values = passed_by (is_value_at bs) k c.loop-k.values.items c.match-kind.values.items old.values (ap is_value kind) (ap (λ p. p.items) w.values-is) old.few_values in
          let insts = passed_by (is_inst_at bs) k c.loop-k.insts.items c.match-kind.insts.items old.insts (ap is_inst kind) (ap (λ p. p.items) w.insts-is) old.few_insts in
          record { values = values.0; insts = insts.0; few_values = values.1; few_insts = insts.1 })
    ]

pub returns-in_err-map_err-clause-few : goal.returns-in_err-map_err-clause-few
returns-in_err-map_err-clause-few c =
    let bs = c.args.bytes.now in
    let k = c.loop-k.k in
    let n = length bs / 40 in
    let old = c.loop-k.invariant in
    let failed : is_ok c.match-kind.map_err ≡ false = sym c.map_err.ensures.variant ∙ ap is_ok c.in_err-map_err.was in
    let over : leb (length (places_of Value bs)) 1024 && leb (length (places_of Inst bs)) 1024 ≡ false =
    elim c.match-kind.branch [
      | in-Value w ↦ (let kind : kind_at bs k ≡ Value = sym (w.in-Value.ensures ∙ ap kind_of c.of.ensures) in
          let full = at_err w.try_push.result (sym (ap is_ok w.map_err-is) ∙ failed) w.try_push.ensures.full in
          ap (λ b. b && leb (length (places_of Inst bs)) 1024) (lt-leb (length (places_of Value bs)) 1024 (kept_over (is_value_at bs) k n 1024 c.loop-k.values.items c.loop-k-test.true (ap is_value kind) old.values (omega (arith, full)))))
      | in-Inst w ↦ (let kind : kind_at bs k ≡ Inst = sym (w.in-Inst.ensures ∙ ap kind_of c.of.ensures) in
          let full = at_err w.try_push-in-Inst.result (sym (ap is_ok w.map_err-is) ∙ failed) w.try_push-in-Inst.ensures.full in
          and_right (leb (length (places_of Value bs)) 1024) _ (lt-leb (length (places_of Inst bs)) 1024 (kept_over (is_inst_at bs) k n 1024 c.loop-k.insts.items c.loop-k-test.true (ap is_inst kind) old.insts (omega (arith, full)))))
      | in-Unknown w ↦ absurd (false≢true (sym failed ∙ ap is_ok w.map_err-is))
    ] in
    let p = err_from_is_err_and c.from_residual.result c.from_residual.ensures.1 in
    rw p.1 (sym over)
