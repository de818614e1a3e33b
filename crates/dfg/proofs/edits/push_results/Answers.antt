use Rattle.std.proofs.Common.{rules}
use Rattle.dfg.proofs.Rows.{rows_pushed}
use Rattle.dfg.proofs.edits.push_results.Goals as goal

pub loop-num-preserved : goal.loop-num-preserved
loop-num-preserved c =
    record {
      items = rows_pushed _ _ _ _ _ _ _ c.requires.few c.loop-num-test.true c.from_bits_or_invalid-ty.ensures c.loop-num.invariant.items c.push_reserved.ensures.items;
      len = search rules;
      capacity = search rules;
    }
