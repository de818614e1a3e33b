use Rattle.std.proofs.Common.{◌+◌, ◌<◌, ◌≤◌, length, arith, rules}
use Rattle.harvest.proofs.Counting.{counted_more}
use Rattle.harvest.proofs.Translating.{follows_put, never_full}
use Rattle.harvest.proofs.translator.TranslatorVisitor.show.Goals as goal

pub returns-then-is_full : goal.returns-then-is_full
returns-then-is_full g c = λ a shown f. never_full _ _ (g.G.FlowGraph.lawful a.graph.now) _ _ shown _ _ _ c.args.v.0 (c.is_full.ensures.0 c.if-is_full.true) f.1

pub returns : goal.returns
returns g c = λ a shown f.
    let table : c.args.v.0 < length c.args.self.now.places = search rules in
    let two : c.args.self.now.len + 2 ≤ length c.args.self.now.rows.now = search rules in (
      f.0,
      follows_put _ _ (g.G.FlowGraph.lawful a.graph.now) _ _ shown _ _ _ c.args.v.0 c.saturating_sub.result _ _ table two c.put_value-end.ensures.put c.put_value-end.ensures.end (search rules) f.1,
      counted_more _ _ _ _ _ c.args.v.0 shown c.put_value-end.result.1 c.put_value-end.ensures.counts f.2 c.counted_on-self.ensures,
    )
