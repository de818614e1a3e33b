-- What is answered passed its checks, and what is not was refused. Assumes nothing.
use Rattle.std.proofs.Common.{◌≡◌, Some, None, Ok, Err, Option, sym, refl, ap}
use Rattle.ir.specs.Refusals.{answer_unless}
use Rattle.ir.specs.declared.refusal.Refusal.{Refusal}

pub passed : {A : Type 0} (o : Option Refusal) (x y : A) → Ok x ≡ answer_unless o y → (o ≡ None) × (x ≡ y)
passed None x y e = let same : x ≡ y = cc in (refl, same)
passed (Some w) x y e = cc

pub refused : {A : Type 0} (o : Option Refusal) (y : A) (why : Refusal) → Err why ≡ answer_unless o y → o ≡ Some why
refused None y why e = cc
refused (Some w) y why e = let same : why ≡ w = cc in ap Some (sym same)
