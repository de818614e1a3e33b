use Rattle.std.proofs.Common.{◌≡◌, map, length, take, vec_items}
use Rattle.rows.specs.Rows.{empty}
use Rattle.calls.specs.Calls.{call_of}
use Rattle.dfg.specs.Plain.{plain}
use Rattle.plain.specs.Feed.{fed_all, answers_to}
use Rattle.building.proofs.list.build.Given as goal

-- the calls so far made the graph and were answered
abbrev pub invariant-loop-call : goal.invariant-loop-call
invariant-loop-call l =
    record {
      graph : plain l.graph ≡ fed_all empty (map call_of (take l.call-index l.calls));
      answers : vec_items l.answers ≡ answers_to empty (map call_of (take l.call-index l.calls));
      marks : length l.marks ≡ 1024;
    }
