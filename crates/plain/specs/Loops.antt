-- The loops that a new alias would make. Assumes nothing.
use Rattle.std.specs.Prelude.{ℕ, zero, suc, Bool, cond, not, ◌&&◌, ◌||◌, List, length, Some, None, Option, ◌==◌, slice_index_or}
use Rattle.std.specs.List.{find, list_any, range_with_len}
use Rattle.std.specs.Option.{unwrap_or}
use Rattle.ir.specs.declared.refusal.Cause.TheVariants.{Loop}
use Rattle.ir.specs.declared.refusal.Refusal.{Refusal}
use Rattle.flow.specs.Meaning.{has}
use Rattle.flow.specs.Walk.{walk}
use Rattle.rows.specs.Meaning.{flow}
use Rattle.rows.specs.Rows.{Rows, step_in}
use Rattle.rows.specs.declared.value.ValueData.{ValueData}
use Rattle.rows.specs.declared.value.ValueData.TheVariants.{Deleted}

-- do so many steps along a value's aliases lead through d
abbrev pub leads : List ValueData → ℕ → ℕ → ℕ → Bool
leads rows d zero v = v == d
leads rows d (suc k) v = v == d || leads rows d k (step_in v (slice_index_or rows v Deleted))

-- do a value's aliases lead through d
unfoldable pub through : List ValueData → ℕ → ℕ → Bool
through rows d v = leads rows d (length rows) v

-- do the aliases of one of the values lead through d
abbrev pub any_through : List ValueData → ℕ → List ℕ → Bool
any_through rows d vs = list_any (through rows d) vs

-- does v reach a value whose aliases lead through d
unfoldable pub reaches_through : Rows → ℕ → ℕ → Bool
reaches_through p d v = any_through p.values d (walk (flow p) v)

-- would v be in a loop, were d another name for r: r reaches v in one step or more, and v reaches a value whose aliases lead through d
unfoldable pub closes : Rows → ℕ → ℕ → ℕ → Bool
closes p d r v = not (v == r) && (has (walk (flow p) r) v && reaches_through p d v)

-- the lowest value that would be in a loop, were d another name for r, or the number behind the last value
unfoldable pub lowest_in_loop : Rows → ℕ → ℕ → ℕ
lowest_in_loop p d r = unwrap_or (find (closes p d r) (range_with_len 0 (length p.values))) (length p.values)

-- why d cannot become another name for r
abbrev pub loop_refusal : Rows → ℕ → ℕ → Option Refusal
loop_refusal p d r = cond (reaches_through p d r) (Some (record { cause = Loop; place = lowest_in_loop p d r })) None
