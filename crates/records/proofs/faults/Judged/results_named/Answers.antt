use Rattle.std.proofs.Common.{ℕ, Bool, arith, rules, tests, ◌∙◌, refl}
use Rattle.std.proofs.lemmas.Iterator.{YieldsList-from_range, YieldsList-from_slice, YieldsList-from_take, YieldsList-from_zip}
use Rattle.std.proofs.lemmas.Iterator.Consumers.{YieldsList-at}
use Rattle.std.proofs.lemmas.Iterator.Search.{all_from_yields_List}
use Rattle.records.specs.Faults.{names_record, value_at}
use Rattle.records.proofs.Lookups.{first_of_two}
use Rattle.records.proofs.faults.Judged.results_named.Goals as goal

pub returns : goal.returns
returns c =
    let bs = c.args.self.image.now.bytes.now in
    let i = c.args.inst.now in
    let test : ℕ × ℕ → Bool = λ p. names_record bs c.args.self.number p.1 (value_at bs p.0) in
    all_from_yields_List test c.all.new.self _ _ c.all.ensures.ran (YieldsList-from_zip (YieldsList-at c.zip.ensures.first (YieldsList-from_take {s = c.take.result} i.result_count (YieldsList-from_slice i.results (cc)) (cc))) (YieldsList-from_range 0 2 2 c.zip.ensures.second refl)) (λ x b q k. search (rules, tests))
    ∙ first_of_two test i.results i.result_count (omega arith)
