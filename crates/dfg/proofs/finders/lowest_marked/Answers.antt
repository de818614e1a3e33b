use Rattle.std.proofs.Common.{◌≡◌, Some, None, Option, option_map, refl, ◌∙◌, rules, tests, arith}
use Rattle.std.proofs.lemmas.Iterator.{YieldsList-from_range, YieldsList-from_map}
use Rattle.std.proofs.lemmas.Iterator.Search.{find_from_yields_List}
use Rattle.ir.specs.Entities.{value}
use Rattle.ir.specs.declared.entities.Value.{Value}
use Rattle.dfg.specs.Finders.{marked_but}
use Rattle.dfg.proofs.finders.lowest_marked.Goals as goal

same_option : {A : Type 0} (o : Option A) → o ≡ option_map (λ x. x) o
same_option None = refl
same_option (Some x) = refl

pub returns : goal.returns
returns c =
    same_option c.find.result
    ∙ find_from_yields_List (λ (v : Value). marked_but c.args.marked.now c.args.root.0 v.0) _ _ c.find.result c.find.ensures.ran
    (YieldsList-from_map _ value (YieldsList-from_range 0 c.args.count c.args.count (cc) (omega arith)) (cc) (λ x r q k. search rules))
    (λ x b q k. search (rules, tests))
