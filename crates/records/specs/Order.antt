-- Records that nothing stands against: value records come first. Assumes nothing.
use Rattle.std.specs.Prelude.{◌≡◌, ℕ, ◌+◌, ◌≤◌, List, length, None}
use Rattle.std.specs.List.{range_with_len}
use Rattle.records.specs.Faults.{records_refusal}
use Rattle.records.specs.Fields.{record_count}
use Rattle.records.specs.Kinds.{value_places, inst_places}

-- values first: value v is in record v, and instruction i in the i-th record behind the values
pub record ValuesFirst (bs : List ℕ) : Type 0 where
  pub values : value_places bs ≡ range_with_len 0 (length (value_places bs))
  pub insts : inst_places bs ≡ range_with_len (length (value_places bs)) (length (inst_places bs))
  pub all : length (value_places bs) + length (inst_places bs) ≡ record_count bs
  pub few_values : length (value_places bs) ≤ 1024
  pub few_insts : length (inst_places bs) ≤ 1024

abbrev pub CleanInOrder : Type 0
CleanInOrder = (bs : List ℕ) → records_refusal bs ≡ None → ValuesFirst bs
