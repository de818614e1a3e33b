-- The rows in the records of an image, value records first. Assumes nothing.
use Rattle.std.specs.Prelude.{ℕ, ◌≤◌, List, map, length}
use Rattle.std.specs.List.{range_with_len}
use Rattle.std.proofs.Common.{sym, subst}
use Rattle.std.proofs.lemmas.List.FromFn.{length-map-range_with_len}
use Rattle.records.specs.RowsOf.{value_row_at, inst_row_at, rows_from}
use Rattle.records.specs.declared.check.Counts.{Counts}
use Rattle.rows.specs.Rows.{Rows}

-- the rows in the first records, so many of values and behind them so many of instructions
unfoldable pub rows_in : List ℕ → Counts → Rows
rows_in bs n = rows_from (map (value_row_at bs) (range_with_len 0 n.values)) (map (inst_row_at bs) (range_with_len n.values n.insts))

-- a row for each, and no more
pub few_held : (bs : List ℕ) (n : Counts) → n.values ≤ 1024 → length (rows_in bs n).values ≤ 1024
unfolding rows_in
few_held bs n few = subst (λ k. k ≤ 1024) (sym (length-map-range_with_len (value_row_at bs) 0 n.values)) few
