use Rattle.std.proofs.Common.{cond, Err, Some, None, ap, ◌∙◌}
use Rattle.ir.specs.Refusals.{answer_unless}
use Rattle.ir.specs.declared.refusal.Cause.TheVariants.{Loop}
use Rattle.dfg.specs.Plain.{plain}
use Rattle.plain.specs.Loops.{lowest_in_loop}
use Rattle.dfg.proofs.alias_loops.NewAlias.check_loops.Goals as goal

pub returns : goal.returns
returns c =
    let a = c.args.self.now in
    let p = plain a.graph.now in
    record {
      answer =
          ap (λ k. Err (record { cause = Loop; place = k })) c.lowest_in_loop-lowest.ensures.lowest
          ∙ ap (λ b. answer_unless (cond b (Some (record { cause = Loop; place = lowest_in_loop p a.dest.0 a.original.0 })) None) (tt {0})) c.if-not-makes_loop.ensures.found;
      marks = c.lowest_in_loop-lowest.ensures.marks;
    }
