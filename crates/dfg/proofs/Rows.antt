-- Value rows that are added, one after another, and deleted: aliases go on coming to an end. Assumes nothing.
use Rattle.std.proofs.Common.{◌≡◌, ℕ, zero, suc, ◌+◌, ◌<◌, ◌≤◌, List, [], ◌∷◌, ◌++◌, map, length, get_or, take, sym, refl, ap, ◌∙◌, subst, append_assoc, arith}
use Rattle.ir.specs.declared.entities.Block.{Block}
use Rattle.ir.specs.declared.types.Type as T
use Rattle.rows.specs.Rows.{erased}
use Rattle.rows.specs.WellFormed.{Settled}
use Rattle.rows.specs.declared.value.ValueData.{ValueData}
use Rattle.rows.specs.declared.value.ValueData.TheVariants.{Inst, Param}
use Rattle.plain.proofs.Chains.{settled_more, settled_erased}
use Rattle.plain.proofs.Steps.{rows_end}
use Rattle.ir.specs.Codes.{type_or}
use Rattle.plain.specs.Feed.{result_rows}

-- the rows so far, and the next result's
rows_more : (types : List ℕ) (n i : ℕ) (t : T.Type) → length types ≤ 2 → i < length types → t ≡ type_or (get_or types i 0)
    → result_rows (take (i + 1) types) n ≡ result_rows (take i types) n ++ Inst t i (record { 0 = n }) ∷ []
rows_more [] n i t few l e = absurd (omega arith)
rows_more (a ∷ []) n zero t few l e = ap (λ t. Inst t 0 (record { 0 = n }) ∷ []) (sym e)
rows_more (a ∷ []) n (suc i) t few l e = absurd (omega arith)
rows_more (a ∷ b ∷ []) n zero t few l e = ap (λ t. Inst t 0 (record { 0 = n }) ∷ []) (sym e)
rows_more (a ∷ b ∷ []) n (suc zero) t few l e = ap (λ t. Inst (type_or a) 0 (record { 0 = n }) ∷ Inst t 1 (record { 0 = n }) ∷ []) (sym e)
rows_more (a ∷ b ∷ []) n (suc (suc i)) t few l e = absurd (omega arith)
rows_more (a ∷ b ∷ c ∷ more) n i t few l e = absurd (omega arith)

pub rows_pushed : (old rows now : List ValueData) (types : List ℕ) (n i : ℕ) (t : T.Type) → length types ≤ 2 → i < length types → t ≡ type_or (get_or types i 0)
    → rows ≡ old ++ result_rows (take i types) n → now ≡ rows ++ Inst t i (record { 0 = n }) ∷ [] → now ≡ old ++ result_rows (take (i + 1) types) n
rows_pushed old rows now types n i t few l e before pushed =
    pushed ∙ ap (λ xs. xs ++ Inst t i (record { 0 = n }) ∷ []) before
    ∙ append_assoc old (result_rows (take i types) n) _ ∙ ap (λ xs. old ++ xs) (sym (rows_more types n i t few l e))

-- parameters and results are no aliases
pub settled_param : (rows now : List ValueData) (ty : T.Type) (num : ℕ) (block : Block) → Settled rows → now ≡ rows ++ Param ty num block ∷ [] → Settled now
settled_param rows now ty num block s e = subst Settled (sym e) (settled_more rows (Param ty num block ∷ []) (refl, tt) s)

pub settled_results : (rows now : List ValueData) (types : List ℕ) (n : ℕ) → Settled rows → now ≡ rows ++ result_rows types n → Settled now
settled_results rows now types n s e = subst Settled (sym e) (settled_more rows (result_rows types n) (rows_end types n) s)

pub settled_deleted : (rows now : List ValueData) → now ≡ map erased rows → Settled now
settled_deleted rows now e = subst Settled (sym e) (settled_erased rows)
