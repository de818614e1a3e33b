use Rattle.std.proofs.Common.{◌≡◌, vec_items, sym, refl, ◌∙◌, subst}
use Rattle.ir.specs.declared.entities.Value.{Value}
use Rattle.harvest.specs.Candidates.{NextRoot}
use Rattle.harvest.specs.Written.{LhsOf}
use Rattle.harvest.specs.declared.harvest.Lhs.{Lhs}
use Rattle.harvest.proofs.Harvesting.{Found, found_none, found_more, found_all, lhs_copied}
use Rattle.harvest.proofs.harvest.harvest_all.Goals as goal

pub loop-candidate-init : goal.loop-candidate-init
loop-candidate-init g c =
    let flow = g.G.FlowGraph.meaning c.args.graph.now in
    let order = g.G.LaidOut.layout c.args.graph.now in
    record {
      same = c.at-harvest.ensures.graph;
      found = subst (Found flow order _) (sym c.new-all.ensures.items) (found_none flow order _ c.at-harvest.ensures.from);
    }

pub loop-candidate-preserved : goal.loop-candidate-preserved
loop-candidate-preserved g c =
    let flow = g.G.FlowGraph.meaning c.args.graph.now in
    let order = g.G.LaidOut.layout c.args.graph.now in
    let from = c.loop-candidate.harvest.from in
    let same = c.loop-candidate.invariant.same in
    let candidate = c.in-Some.candidate in
    let lhs : Lhs = c.in_ok-copied.field-0 in
    let copied = c.in_ok-copied.ensures in
    let root : NextRoot flow order from candidate.written.root candidate.next =
    subst (λ (h : g.row.G.Denot). NextRoot (g.G.FlowGraph.meaning h) (g.G.LaidOut.layout h) from candidate.written.root candidate.next) same c.in-Some.ensures.next.0 in
    let lhs-is : LhsOf flow lhs.root.0 (vec_items lhs.rows) lhs.counted lhs.steps =
    subst (λ (h : g.row.G.Denot). LhsOf (g.G.FlowGraph.meaning h) lhs.root.0 (vec_items lhs.rows) lhs.counted lhs.steps) same
    (lhs_copied (g.G.FlowGraph.meaning c.loop-candidate.harvest.graph.now) _ c.next_within.new.rows candidate.written lhs c.in-Some.ensures.next.1 copied.root copied.rows copied.counted copied.steps) in
    let next : NextRoot flow order from lhs.root lhs.next =
    subst (λ (v : Value). NextRoot flow order from v lhs.next) (sym copied.root) (subst (NextRoot flow order from candidate.written.root) (sym copied.next) root) in
    let more = found_more flow order from _ lhs c.loop-candidate.invariant.found next lhs-is in
    record {
      same = c.in-Some.ensures.graph ∙ same;
      found = subst (λ p. Found flow order p (vec_items c.push.new.self)) (copied.next ∙ sym c.in-Some.ensures.place) (subst (Found flow order lhs.next) (sym c.in_ok-push.ensures.items) more);
    }

pub returns : goal.returns
returns g c =
    let flow = g.G.FlowGraph.meaning c.args.graph.now in
    let order = g.G.LaidOut.layout c.args.graph.now in
    found_all flow order (g.G.FlowGraph.lawful c.args.graph.now) (g.met.G.LaidOut.well_laid c.args.graph.now) _ _ c.loop-candidate.invariant.found (rw (sym c.loop-candidate.invariant.same) c.in_default.ensures.next.0)
