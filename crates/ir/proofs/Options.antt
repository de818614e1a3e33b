-- What is told by options that are the same. Assumes nothing.
use Rattle.std.proofs.Common.{◌≡◌, Some, None, Option, refl}
use Rattle.ir.specs.Options.{or_else}

pub none_is_no_some : {A : Type 0} {P : Type 0} (x : A) → None ≡ Some x → P
none_is_no_some {A} {P} x e = cc

pub some_injective : {A : Type 0} (x y : A) → Some x ≡ Some y → x ≡ y
some_injective x y e = cc

-- what is not there is neither the one nor the other
pub neither : {A : Type 0} (a b : Option A) → or_else a b ≡ None → (a ≡ None) × (b ≡ None)
neither None b e = (refl, e)
neither (Some x) b e = cc
