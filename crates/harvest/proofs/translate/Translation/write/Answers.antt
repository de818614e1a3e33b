use Rattle.std.proofs.Common.{◌++◌, replicate, append-nil, refl, ap, ◌∙◌, arith, rules}
use Rattle.std.proofs.lemmas.List.{drop_all}
use Rattle.flow.proofs.Places.{walk_topological}
use Rattle.harvest.proofs.Counting.{all_counted}
use Rattle.harvest.proofs.Soundness.{written_of, no_stop}
use Rattle.harvest.proofs.translate.Translation.write.Goals as goal

pub unreachable-requires : goal.unreachable-requires
unreachable-requires g c =
    let own = c.args.self.now in
    no_stop (g.G.FlowGraph.meaning own.graph.now) (g.G.FlowGraph.lawful own.graph.now) own.value.0 own.alive _ (λ _. Unit {0}) c.args.rows.now c.in_default.field-0 (omega arith) c.requires c.in_default.ensures.walked

pub returns-clause-written : goal.returns-clause-written
returns-clause-written g c =
    let own = c.args.self.now in
    let flow = g.G.FlowGraph.meaning own.graph.now in
    let lawful = g.G.FlowGraph.lawful own.graph.now in
    let done = c.in-Ok.ensures.walked in
    let visitor = c.post_order_dfs.new.visitor in
    let lent = done.shown.0 in
    written_of flow lawful own.value.0 own.alive c.args.rows.now visitor.rows.now _ visitor.places visitor.len visitor.counted c.in-Ok.steps own.value refl
    (all_counted flow lawful own.value.0 own.alive _ _ done.shown.2) done.counted (search rules) (done.shown.1.translates refl c.requires (walk_topological flow lawful own.value.0 own.alive))

pub returns-clause-marks : goal.returns-clause-marks
returns-clause-marks g c =
    c.in-Ok.ensures.cleared c.args.self.now.alive (omega arith) ∙ ap (λ l. replicate 1024 0 ++ l) (drop_all 1024 c.args.marks.now (omega arith)) ∙ append-nil _
