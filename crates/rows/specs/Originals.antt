-- The original of a value is found by following its aliases to their end. Assumes nothing.
use Rattle.std.specs.Prelude.{◌≡◌, ℕ, false, List, slice_index_or}
use Rattle.ir.specs.declared.entities.Value.{Value}
use Rattle.ir.specs.declared.types.Type as T
use Rattle.rows.specs.Rows.{Rows, is_alias, original}
use Rattle.rows.specs.WellFormed.{Settled}
use Rattle.rows.specs.declared.value.ValueData.{ValueData}
use Rattle.rows.specs.declared.value.ValueData.TheVariants.{Alias, Deleted}

-- from v, alias by alias, to a value that is none
pub data LeadsTo (rows : List ValueData) : ℕ → ℕ → Type 0 where
  end : {v : ℕ} → is_alias (slice_index_or rows v Deleted) ≡ false → LeadsTo rows v v
  along : {v u : ℕ} (ty : T.Type) (o : Value) → slice_index_or rows v Deleted ≡ Alias ty o → LeadsTo rows o.0 u → LeadsTo rows v u

-- where aliases come to an end, those of a value lead to its original, and to nothing else
pub record FoundAlong (p : Rows) (v : ℕ) : Type 0 where
  pub leads : LeadsTo p.values v (original p v)
  pub only : (u : ℕ) → LeadsTo p.values v u → original p v ≡ u

abbrev pub OriginalsAreEnds : Type 0
OriginalsAreEnds = (p : Rows) → Settled p.values → (v : ℕ) → FoundAlong p v
