-- Paths and loops by what values use, whatever tells that. Assumes nothing.
use Rattle.std.proofs.Common.{◌≡◌, ℕ, true, List, sym, refl, ap, ◌∙◌, subst}
use Rattle.flow.specs.Loops.{Path, one, more, Loopless}
use Rattle.flow.specs.Meaning.{Flow, Reach, here, through, NoLoop, uses, has}

-- ---- the loops of a flow graph

pub reach_path : (g : Flow) (v w u : ℕ) → has (uses g v) w ≡ true → Reach g w u → Path (uses g) v u
reach_path g v w u h (here e) = subst (Path (uses g) v) e (one h)
reach_path g v w u h (through x m r) = more h (reach_path g w x u m r)

pub path_reach : (g : Flow) {v u : ℕ} → Path (uses g) v u → (w : ℕ) × (has (uses g v) w ≡ true) × Reach g w u
path_reach g {v} {u} (one h) = (u, h, here refl)
path_reach g (more {a = b} h p) = let r = path_reach g p in (b, h, through r.0 r.1 r.2)

pub loopless : (g : Flow) → NoLoop g → Loopless (uses g)
loopless g none v p = let r = path_reach g p in none v r.0 r.1 r.2

pub no_loop : (g : Flow) → Loopless (uses g) → NoLoop g
no_loop g none v w h r = none v (reach_path g v w v h r)

-- ---- paths

pub uses_in_lem : (o o' : List ℕ) (w : ℕ) → o ≡ o' → has o w ≡ true → has o' w ≡ true
uses_in_lem o o' w e h = ap (λ x. has x w) (sym e) ∙ h

-- a path from one value is a path from any other with the same operands
pub from_same : {args : ℕ → List ℕ} {v w : ℕ} (u : ℕ) → args u ≡ args v → Path args v w → Path args u w
from_same {v = v} {w = w} u e (one h) = one (uses_in_lem _ _ w (sym e) h)
from_same {v = v} u e (more {a = b} h r) = more (uses_in_lem _ _ b (sym e) h) r

pub joined : {args : ℕ → List ℕ} {u v w : ℕ} → Path args u v → Path args v w → Path args u w
joined (one h) s = more h s
joined (more h r) s = more h (joined r s)
