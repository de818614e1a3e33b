-- Which records are of values and which of instructions. Each kind is numbered by its own records. Assumes nothing.
use Rattle.std.specs.Prelude.{ℕ, Bool, true, false, not, ◌||◌, List, filter}
use Rattle.std.specs.List.{range_with_len}
use Rattle.records.specs.Fields.{record_at, record_count, kind_of}
use Rattle.records.specs.declared.record.Kind.{Kind}
use Rattle.records.specs.declared.record.Kind.TheVariants.{Value, Inst, Unknown}

abbrev pub is_value : Kind → Bool
is_value Value = true
is_value Inst = false
is_value Unknown = false

abbrev pub is_inst : Kind → Bool
is_inst Value = false
is_inst Inst = true
is_inst Unknown = false

abbrev pub kind_at : List ℕ → ℕ → Kind
kind_at bs k = kind_of (record_at bs k)

abbrev pub is_value_at : List ℕ → ℕ → Bool
is_value_at bs k = is_value (kind_at bs k)

abbrev pub is_inst_at : List ℕ → ℕ → Bool
is_inst_at bs k = is_inst (kind_at bs k)

-- the record numbers of the values and of the instructions, in order
unfoldable pub value_places : List ℕ → List ℕ
value_places bs = filter (is_value_at bs) (range_with_len 0 (record_count bs))

unfoldable pub inst_places : List ℕ → List ℕ
inst_places bs = filter (is_inst_at bs) (range_with_len 0 (record_count bs))

-- is the second kind the first
abbrev pub is_kind : Kind → Kind → Bool
is_kind Value t = is_value t
is_kind Inst t = is_inst t
is_kind Unknown t = not (is_value t || is_inst t)

-- the record numbers of a kind, in order
abbrev pub places_of : Kind → List ℕ → List ℕ
places_of t bs = filter (λ k. is_kind t (kind_at bs k)) (range_with_len 0 (record_count bs))
