-- Checks one after another, and the marks that they leave. Assumes nothing.
use Rattle.std.proofs.Common.{◌≡◌, ℕ, Bool, true, false, cond, not, List, ◌++◌, drop, replicate, Some, None, Ok, Err, Option, Result, refl, ap}
use lib.ListN.{length-replicate}
use Rattle.std.proofs.lemmas.List.{drop_at}
use Rattle.ir.specs.Options.{or_else}
use Rattle.ir.specs.Refusals.{answer_unless}
use Rattle.ir.specs.declared.refusal.Refusal.{Refusal}
use Rattle.flow.specs.Meaning.{Flow, live}
use Rattle.eval.specs.ValueAnswer.{unasked}

-- a check that refuses decides the answer
pub refused_first : {A : Type 0} (a b : Option Refusal) (why : Refusal) (x : A) → ◌≡◌ {A = Result (Unit {0}) Refusal} (Err why) (answer_unless a tt) → ◌≡◌ {A = Result A Refusal} (Err why) (answer_unless (or_else a b) x)
refused_first None b why x e = cc
refused_first (Some other) b why x e = cc

-- one that passes leaves it to those behind
pub passed_first : {A : Type 0} (a b : Option Refusal) (x : A) (u : Unit {0}) → ◌≡◌ {A = Result (Unit {0}) Refusal} (Ok u) (answer_unless a tt) → answer_unless b x ≡ answer_unless (or_else a b) x
passed_first None b x u e = refl
passed_first (Some other) b x u e = cc

-- the marks of two walks are those of one
pub cleared_twice : (marks : List ℕ) → replicate 1024 0 ++ drop 1024 (replicate 1024 0 ++ drop 1024 marks) ≡ replicate 1024 0 ++ drop 1024 marks
cleared_twice marks = ap (λ (l : List ℕ). replicate 1024 0 ++ l) (drop_at (replicate 1024 0) (drop 1024 marks) 1024 (length-replicate {A = ℕ} 1024 0))

-- ---- what the checks tell

pub something_stands : (o : Option Refusal) (why : Refusal) → ◌≡◌ {A = Result (Unit {0}) Refusal} (Err why) (answer_unless o tt) → o ≡ None → ⊥
something_stands None why e n = cc
something_stands (Some other) why e n = cc

pub nothing_stands : (o : Option Refusal) (u : Unit {0}) → ◌≡◌ {A = Result (Unit {0}) Refusal} (Ok u) (answer_unless o tt) → o ≡ None
nothing_stands None u e = refl
nothing_stands (Some why) u e = cc

passed_test : (b : Bool) (why : Refusal) (rest : Option Refusal) → cond (not b) (Some why) rest ≡ None → b ≡ true
passed_test true why rest e = refl
passed_test false why rest e = cc

pub alive_if_asked : (g : Flow) (inputs : List ℕ) (v room : ℕ) → unasked g inputs v room ≡ None → live g v ≡ true
alive_if_asked g inputs v room e = passed_test (live g v) _ _ e
