use Rattle.std.proofs.Common.{◌≡◌, ◌+◌, ◌++◌, take, vec_items, vec_len, vec_capacity}
use Rattle.plain.specs.Feed.{result_rows}
use Rattle.dfg.proofs.edits.push_results.Given as goal

-- the rows of the types so far are behind those that were there
abbrev pub invariant-loop-num : goal.invariant-loop-num
invariant-loop-num l =
    record {
      items : vec_items l.values ≡ vec_items l.initial.values ++ result_rows (take l.num l.types) l.inst.0;
      len : vec_len l.values ≡ vec_len l.initial.values + l.num;
      capacity : vec_capacity l.values ≡ vec_capacity l.initial.values;
    }
