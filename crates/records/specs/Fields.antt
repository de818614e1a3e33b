-- The format of an image, field by field: records of 40 bytes with no header, numbers little-endian. Assumes nothing.
use Rattle.std.specs.Prelude.{ℕ, zero, suc, ◌+◌, ◌*◌, ◌/◌, ◌%◌, Bool, cond, ◌&&◌, List, [], ◌∷◌, length, take, drop, replicate, ◌==◌, nat_lt, slice_index, slice_range}
use Rattle.std.specs.List.{list_all}
use Rattle.ir.specs.Bitvectors.{signed}
use Rattle.records.specs.declared.inst_record.InstRecord.{InstRecord}
use Rattle.records.specs.declared.record.Kind.{Kind}
use Rattle.records.specs.declared.record.Kind.TheVariants as kind
use Rattle.records.specs.declared.value_record.ValueRecord.{ValueRecord}
use Rattle.records.specs.declared.value_record.ValueRecord.TheVariants.{Inst, Param, Alias, Union, Deleted}

-- how many whole records the bytes have
abbrev pub record_count : List ℕ → ℕ
record_count bs = length bs / 40

-- record k of the bytes, 40 zeros past their end
unfoldable pub record_at : List ℕ → ℕ → List ℕ
record_at bs k = cond (nat_lt k (record_count bs)) (take 40 (drop (40 * k) bs)) (replicate 40 0)

-- the number of n bytes of a record, from place i + j on, the lowest byte first
abbrev pub number_from : List ℕ → ℕ → ℕ → ℕ → ℕ
number_from r i j zero = 0
number_from r i j (suc n) = slice_index r (i + j) + 256 * number_from r i (j + 1) n

-- the number of n bytes of a record, from a place on
unfoldable pub number : List ℕ → ℕ → ℕ → ℕ
number r at n = number_from r at 0 n

-- are the bytes of a record from one place on and before another zero
unfoldable pub zeros : List ℕ → ℕ → ℕ → Bool
zeros r from to = list_all (λ b. b == 0) (slice_range r from to)

-- byte 0 is 1 for a value and 2 for an instruction
abbrev pub kind_by : ℕ → Kind
kind_by b = cond (b == 1) kind.Value (cond (b == 2) kind.Inst kind.Unknown)

unfoldable pub kind_of : List ℕ → Kind
kind_of r = kind_by (slice_index r 0)

-- ---- value records

-- what tag, type, x and y say: tag 0 an instruction's result, 1 a parameter, 2 an alias or a deleted value, 3 a union
abbrev pub unpacked : ℕ → ℕ → ℕ → ℕ → ValueRecord
unpacked tag ty x y =
    cond (tag == 0) (Inst ty x y)
    (cond (tag == 1) (Param ty x y)
    (cond (tag == 2) (cond (ty == 0 && y == 4294967295) (Deleted x) (Alias ty x y)) (Union ty x y)))

-- x in bytes 4 to 7, y in 8 to 11, and in 12 and 13 the tag times 16,384 plus the type
unfoldable pub value_record : List ℕ → ValueRecord
value_record r = unpacked (number r 12 2 / 16384) (number r 12 2 % 16384) (number r 4 4) (number r 8 4)

-- ---- instruction records

-- opcode, condition, operand count and result count in bytes 1 to 4, the immediate in 8 to 15, operands in 16 to 27,
-- results in 28 to 35, the block in 36 to 39
unfoldable pub inst_record : List ℕ → InstRecord
unfolding signed
inst_record r = record {
  opcode = slice_index r 1;
  cond = slice_index r 2;
  arg_count = slice_index r 3;
  result_count = slice_index r 4;
  imm = signed 64 (number r 8 8);
  args = number r 16 4 ∷ number r 20 4 ∷ number r 24 4 ∷ [];
  results = number r 28 4 ∷ number r 32 4 ∷ [];
  block = number r 36 4;
}
