use Rattle.std.proofs.Common.{rules, tests}
use Rattle.std.proofs.lemmas.Iterator.{YieldsList-from_slice}
use Rattle.std.proofs.lemmas.Iterator.Search.{find_from_yields_List}
use Rattle.script.proofs.Readings.{has_name, named_found}
use Rattle.script.proofs.names.look_up.Goals as goal

pub returns : goal.returns
returns g c =
    let found = find_from_yields_List (has_name c.args.word.now) _ _ c.find.result c.find.ensures.ran (YieldsList-from_slice c.args.table.now c.iter.ensures.rest) (λ x b q k. search (rules, tests)) in
    let e = named_found c.args.word.now c.args.table.now c.find.result found in
    search (rules, e)
