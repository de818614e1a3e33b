use Rattle.std.proofs.Common.{◌+◌, ◌^◌, ◌<◌, length, take, sym, refl, ap, ◌∙◌, arith}
use Rattle.std.proofs.lemmas.Bool.{eq-eqb, ne_eqb, cond-true, cond-false}
use Rattle.flow.specs.Layout.{in_block}
use Rattle.harvest.proofs.Searching.{insts_start, insts_end, insts_other, insts_skip, insts_none, insts_found, one_more, index_low, with_index}
use Rattle.harvest.proofs.search.find_root.Goals as goal
use Rattle.harvest.proofs.search.find_root.Goals.{then-block-from, else-block-from, then-stands_in, else-stands_in, then-index-first+in_default, else-index-first}

pub overflow_add-index : goal.overflow_add-index
overflow_add-index g c =
    let order = g.G.LaidOut.layout c.args.graph.now in
    let i : c.loop-inst.inst < length order.insts = omega (arith, c.loop-inst-test.true, c.num_insts-insts.ensures) in
    omega (arith, index_low _ order _ _ (omega (arith, c.loop-block-test.true, c.num_blocks-blocks.ensures)) _ _ _ i c.loop-inst.invariant)

pub loop-inst-init : goal.loop-inst-init
loop-inst-init g c =
    let order = g.G.LaidOut.layout c.args.graph.now in
    let lt : c.loop-block.block < order.num_blocks = omega (arith, c.loop-block-test.true, c.num_blocks-blocks.ensures) in
    elim c.if-block-from.branch [
      | then-block-from w ↦
          let own = w.if-block-from.true in
          rw w.first-is (
          insts_start _ order _ _ lt _ _ _ (sym (cond-true _ _ _ (eq-eqb c.loop-block.block c.args.from.block own)))
          (c.requires.passed ∙ ap (λ k. length (in_block k (take c.args.passed.inst order.insts))) (sym own)) c.requires.before c.loop-block.invariant
          )
      | else-block-from w ↦
          rw w.first-is (insts_start _ order _ _ lt _ _ _ (sym (cond-false _ _ _ (ne_eqb c.loop-block.block c.args.from.block w.if-block-from.false))) refl (omega arith) c.loop-block.invariant)
    ]

pub loop-inst-preserved : goal.loop-inst-preserved
loop-inst-preserved g c =
    let order = g.G.LaidOut.layout c.args.graph.now in
    let i : c.loop-inst.inst < length order.insts = omega (arith, c.loop-inst-test.true, c.num_insts-insts.ensures) in
    let lt : c.loop-block.block < order.num_blocks = omega (arith, c.loop-block-test.true, c.num_blocks-blocks.ensures) in
    let t = c.loop-inst.invariant in
    elim c.if-stands_in.branch [
      | then-stands_in w ↦
          let own = sym (w.if-stands_in.ensures i) in
          elim w.if-index-first.branch [
            | then-index-first+in_default w' ↦
                with_index w.index-is (insts_none _ order _ _ lt _ _ _ i t own w'.if-index-first.true (sym w'.in_default.ensures))
            | else-index-first w' ↦
                with_index w.index-is (insts_skip _ order _ _ lt _ _ _ i t own w'.if-index-first.false)
          ]
      | else-stands_in w ↦
          with_index w.index-is (insts_other _ order _ _ lt _ _ _ i t (sym (w.if-stands_in.ensures i)))
    ]

pub loop-block-preserved : goal.loop-block-preserved
loop-block-preserved g c =
    let order = g.G.LaidOut.layout c.args.graph.now in
    let lt : c.loop-block.block < order.num_blocks = omega (arith, c.loop-block-test.true, c.num_blocks-blocks.ensures) in
    insts_end _ order _ _ lt _ _ _ (omega (arith, c.loop-inst-test.false, c.num_insts-insts.ensures)) c.loop-block.auto.block c.loop-inst.invariant

pub returns-in-Some : goal.returns-in-Some
returns-in-Some g c =
    let order = g.G.LaidOut.layout c.args.graph.now in
    let i : c.loop-inst.inst < length order.insts = omega (arith, c.loop-inst-test.true, c.num_insts-insts.ensures) in
    let lt : c.loop-block.block < order.num_blocks = omega (arith, c.loop-block-test.true, c.num_blocks-blocks.ensures) in
    let low : c.loop-inst.index + 1 < 2 ^ 32 = omega (arith, index_low _ order _ _ lt _ _ _ i c.loop-inst.invariant) in
    let own = sym (c.if-stands_in.ensures i) in
    record {
      found = insts_found _ order _ _ lt _ _ _ i c.loop-inst.invariant own c.if-index-first.true (g.G.FlowGraph.lawful c.args.graph.now) _ (sym c.in-Some.ensures) _ c.behind-next.ensures.block (c.behind-next.ensures.index low);
      passed =
          c.behind-next.ensures.index low ∙ sym (one_more _ order _ _ lt _ _ _ i c.loop-inst.invariant own)
          ∙ ap (λ k. length (in_block k (take (c.loop-inst.inst + 1) order.insts))) (sym c.behind-next.ensures.block);
    }
