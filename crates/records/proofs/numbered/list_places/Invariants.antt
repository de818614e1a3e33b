use Rattle.std.proofs.Common.{◌≡◌, ◌≤◌, length, filter}
use Rattle.std.specs.List.{range_with_len}
use Rattle.records.specs.Kinds.{is_value_at, is_inst_at}
use Rattle.records.proofs.numbered.list_places.Given as goal

abbrev pub invariant-loop-k : goal.invariant-loop-k
invariant-loop-k l = record {
  values : l.values.items ≡ filter (is_value_at l.bytes) (range_with_len 0 l.k);
  insts : l.insts.items ≡ filter (is_inst_at l.bytes) (range_with_len 0 l.k);
  few_values : length l.values.items ≤ 1024;
  few_insts : length l.insts.items ≤ 1024;
}
