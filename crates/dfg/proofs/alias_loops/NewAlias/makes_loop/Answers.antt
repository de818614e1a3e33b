use Rattle.std.proofs.Common.{◌≤◌, length, ◌∙◌, arith}
use Rattle.rows.specs.Meaning.{flow}
use Rattle.plain.specs.Loops.{reaches_through}
use Rattle.plain.proofs.Sweeping.{swept_whole}
use Rattle.dfg.specs.Plain.{plain}
use Rattle.dfg.proofs.Marking.{stopped_if_found}
use Rattle.dfg.proofs.alias_loops.NewAlias.makes_loop.Goals as goal

pub returns : goal.returns
unfolding reaches_through
returns c =
    let a = c.args.self.now in
    let p = plain a.graph.now in
    let room : 1024 ≤ length c.args.marks.now = omega arith in
    record {
      found = c.is_err.ensures.value ∙ stopped_if_found (flow p) a.original.0 (length c.args.marks.now) _ p.values a.dest.0 _ a.alive room (λ shown f. f.none) c.post_order_dfs.ensures.walked;
      marks = c.post_order_dfs.ensures.cleared a.alive room ∙ swept_whole c.args.marks.now (omega arith);
    }
