-- What holds of the verdict on bytes. Assumes nothing.
use Rattle.std.specs.Prelude.{◌≡◌, ℕ, ◌<◌, true, false, ◌↔◌, List, length, Some, None, Option, Result, MatchOption}
use Rattle.ir.specs.Refusals.{because}
use Rattle.ir.specs.declared.refusal.Cause.{Cause}
use Rattle.ir.specs.declared.refusal.Cause.TheVariants.{NotRecords}
use Rattle.ir.specs.declared.refusal.Refusal.{Refusal}
use Rattle.records.specs.Faults.{is_whole, record_fault}
use Rattle.records.specs.Fields.{record_count}
use Rattle.records.specs.RowsOf.{rows_of}
use Rattle.records.specs.declared.check.Counts.{Counts}
use Rattle.image.specs.Verdict.{Verdict, Accepted, IsImage, early_refusal, row_fault}

-- bytes are accepted exactly if nothing stands against their records and their rows are well-formed
abbrev pub AcceptedExactly : Type 0
AcceptedExactly = (bs : List ℕ) → Accepted bs ↔ IsImage bs

-- there is one verdict
abbrev pub OneVerdict : Type 0
OneVerdict = (bs : List ℕ) (r s : Result Counts Refusal) → Verdict bs r → Verdict bs s → r ≡ s

-- ---- the first fault is the one that is named

-- nothing stands against the places below n
abbrev pub NoFault : (ℕ → Option Cause) → ℕ → Type 0
NoFault fault n = (k : ℕ) → k < n → fault k ≡ None

-- the refusal names the first place below n against which something stands, and what stands there
pub record FirstFault (fault : ℕ → Option Cause) (n : ℕ) (why : Refusal) : Type 0 where
  pub within : why.place < n
  pub stands : fault why.place ≡ Some why.cause
  pub none_before : NoFault fault why.place

-- Why bytes are refused before anything is looked for that goes round: they are not whole records, or too many; or else by the
-- first record that something stands against; or else, where nothing stands against any record, by the first such value row.
pub data RefusedEarly (bs : List ℕ) (why : Refusal) : Type 0 where
  not_whole : is_whole bs ≡ false → why ≡ because NotRecords → RefusedEarly bs why
  at_record : is_whole bs ≡ true → FirstFault (record_fault bs) (record_count bs) why → RefusedEarly bs why
  at_row : is_whole bs ≡ true → NoFault (record_fault bs) (record_count bs) → FirstFault (row_fault (rows_of bs)) (length (rows_of bs).values) why → RefusedEarly bs why

-- nothing of all this stands
pub record PassedEarly (bs : List ℕ) : Type 0 where
  pub whole : is_whole bs ≡ true
  pub records : NoFault (record_fault bs) (record_count bs)
  pub rows : NoFault (row_fault (rows_of bs)) (length (rows_of bs).values)

abbrev pub FirstIsNamed : Type 0
FirstIsNamed = (bs : List ℕ) → MatchOption (early_refusal bs) (PassedEarly bs) (RefusedEarly bs)
