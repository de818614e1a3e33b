use Rattle.std.proofs.Common.{ℕ, List, max, sym, ap, ◌∙◌, ap₂, arith, rules}
use Rattle.std.proofs.lemmas.Iterator.{YieldsList-from_map, YieldsList-from_range}
use Rattle.std.proofs.lemmas.Iterator.Adapters.{option_map_id}
use Rattle.std.proofs.lemmas.Iterator.Consumers.{YieldsList-at, YieldsList-from_chain, max_from_yields_List}
use Rattle.std.specs.Option.{unwrap_or}
use Rattle.rows.specs.Rows.{Rows, value_at, inst_at, no_inst}
use Rattle.rows.specs.declared.value.ValueData.TheVariants.{Deleted}
use Rattle.records.specs.RowsOf.{blocks_for, blocks_in, most}
use Rattle.image.specs.Held.{rows_in}
use Rattle.image.proofs.Held.{num_values, num_insts}
use Rattle.image.proofs.Naming.{blocks_are, by_number, most_append, most_reduce}
use Rattle.image.proofs.image_rows.ImageRows.num_blocks.Goals as goal

pub returns : goal.returns
returns c =
    let s = c.args.self in
    let p : Rows = rows_in s.bytes.now s.counts in
    let n = s.counts.values in
    let m = s.counts.insts in
    let best = max_from_yields_List {v = λ x. x} c.chain.result c.max.result c.max.ensures.ran
    (YieldsList-from_chain
    (YieldsList-at c.chain.ensures.first (YieldsList-from_map _ (λ v. blocks_in (value_at p v)) (YieldsList-from_range 0 n n c.map-params.ensures.source (omega arith)) c.map-params.ensures.closure (λ x r q k. search rules)))
    (YieldsList-at c.chain.ensures.second (YieldsList-from_map _ (λ i. blocks_for (inst_at p i)) (YieldsList-from_range 0 m m c.map-insts.ensures.source (omega arith)) c.map-insts.ensures.closure (λ x r q k. search rules)))
    c.chain.ensures.first_done c.chain.ensures.second_done) in
    c.unwrap_or.ensures ∙ ap (λ o. unwrap_or o 0) (sym (option_map_id _) ∙ best) ∙ most_reduce _ ∙ most_append _ _
    ∙ ap₂ (λ (a b : List ℕ). max (most a) (most b)) (sym (by_number blocks_in p.values n Deleted (num_values s.bytes.now s.counts))) (sym (by_number blocks_for p.insts m no_inst (num_insts s.bytes.now s.counts)))
    ∙ sym (blocks_are s.bytes.now s.counts)
