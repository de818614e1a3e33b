use Rattle.std.proofs.Common.{arith, rules, tests, ◌∙◌}
use Rattle.std.proofs.lemmas.Iterator.{YieldsList-from_slice, YieldsList-from_take}
use Rattle.std.proofs.lemmas.Iterator.Search.{all_from_yields_List}
use Rattle.records.specs.Faults.{live_at}
use Rattle.records.proofs.Lookups.{first_of_three}
use Rattle.records.proofs.numbered.Numbered.args_live.Goals as goal

pub returns : goal.returns
returns c =
    let bs = c.args.self.now.bytes.now in
    let i = c.args.inst.now in
    all_from_yields_List (live_at bs) _ _ _ c.all.ensures.ran (YieldsList-from_take i.arg_count (YieldsList-from_slice i.args (cc)) (cc)) (λ x b q k. search (rules, tests))
    ∙ first_of_three (live_at bs) i.args i.arg_count (omega arith)
