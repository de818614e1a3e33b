-- Where there is room for the text, just a name that is not fit is refused. Assumes nothing.
use Rattle.std.proofs.Common.{◌≡◌, ℕ, ◌≤◌, Bool, true, false, not, List, [], ◌∷◌, length, Ok, Err, refl, arith}
use Rattle.std.specs.Prelude.{nat_lt}
use Rattle.std.proofs.lemmas.Bool.{both_ways, le-ltb}
use Rattle.ir.specs.Refusals.{answer_unless, because, first}
use Rattle.ir.specs.declared.entities.Value.{Value}
use Rattle.ir.specs.declared.refusal.Cause.TheVariants.{BadName}
use Rattle.ir.specs.declared.refusal.Refusal.{Refusal}
use Rattle.souper.specs.declared.rows.Row.{Row}
use Rattle.text.specs.Checks.{is_name, no_room, refusal}
use Rattle.text.specs.Text.{text_of}

by_the_name : (short named : Bool) (a b why : Refusal) (n : ℕ) → short ≡ false → answer_unless (first ((short, a) ∷ (not named, b) ∷ [])) n ≡ Err why → (named ≡ false) × (why ≡ b)
by_the_name true named a b why n room e = absurd (both_ways true room refl)
by_the_name false true a b why n room e = cc
by_the_name false false a b why n room e = let same : why ≡ b = cc in (refl, same)

pub only_the_name : (room n : ℕ) (root : Value) (name : List ℕ) (rows : List Row) (why : Refusal) → length (text_of root name rows) ≤ room
    → answer_unless (refusal room root name rows) n ≡ Err why → (is_name name ≡ false) × (why ≡ because BadName)
unfolding no_room
only_the_name room n root name rows why fits e =
    by_the_name (nat_lt room (length (text_of root name rows))) (is_name name) _ _ why n (le-ltb room (length (text_of root name rows)) fits) e

-- a text is written only of a name that is fit
fit_name : (short named : Bool) (a b : Refusal) (n k : ℕ) → answer_unless (first ((short, a) ∷ (not named, b) ∷ [])) n ≡ Ok k → named ≡ true
fit_name true named a b n k e = let z : ◌≡◌ {A = ℕ} 0 1 = cc in absurd (omega arith)
fit_name false true a b n k e = refl
fit_name false false a b n k e = let z : ◌≡◌ {A = ℕ} 0 1 = cc in absurd (omega arith)

pub written_name : (room n k : ℕ) (root : Value) (name : List ℕ) (rows : List Row) → answer_unless (refusal room root name rows) n ≡ Ok k → is_name name ≡ true
unfolding no_room
written_name room n k root name rows e = fit_name (nat_lt room (length (text_of root name rows))) (is_name name) _ _ n k e
