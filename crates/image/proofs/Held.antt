-- The rows of an image, one by one. Assumes nothing.
use Rattle.std.proofs.Common.{◌≡◌, ℕ, ◌+◌, ◌<◌, ◌≤◌, List, length, refl, arith}
use Rattle.std.proofs.lemmas.List.FromFn.{length-map-range_with_len, get_or-map-range_with_len}
use Rattle.std.proofs.lemmas.List.{get_or_past}
use Rattle.rows.specs.Rows.{value_at, inst_at, no_inst}
use Rattle.rows.specs.declared.value.ValueData.TheVariants.{Deleted}
use Rattle.records.specs.RowsOf.{value_row_at, inst_row_at}
use Rattle.records.specs.declared.check.Counts.{Counts}
use Rattle.image.specs.Held.{rows_in}

module _ (bs : List ℕ) (n : Counts) where
  pub num_values : length (rows_in bs n).values ≡ n.values
  unfolding rows_in
  num_values = length-map-range_with_len (value_row_at bs) 0 n.values

  pub num_insts : length (rows_in bs n).insts ≡ n.insts
  unfolding rows_in
  num_insts = length-map-range_with_len (inst_row_at bs) n.values n.insts

  pub value_in : (v : ℕ) → v < n.values → value_at (rows_in bs n) v ≡ value_row_at bs v
  unfolding rows_in
  value_in v l = get_or-map-range_with_len (value_row_at bs) 0 n.values v v Deleted l (omega arith)

  pub value_past : (v : ℕ) → n.values ≤ v → value_at (rows_in bs n) v ≡ Deleted
  value_past v l = get_or_past (rows_in bs n).values v Deleted (omega (arith, num_values))

  pub inst_in : (i : ℕ) → i < n.insts → inst_at (rows_in bs n) i ≡ inst_row_at bs (n.values + i)
  unfolding rows_in
  inst_in i l = get_or-map-range_with_len (inst_row_at bs) n.values n.insts i (n.values + i) no_inst l refl

  pub inst_past : (i : ℕ) → n.insts ≤ i → inst_at (rows_in bs n) i ≡ no_inst
  inst_past i l = get_or_past (rows_in bs n).insts i no_inst (omega (arith, num_insts))
