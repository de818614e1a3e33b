use Rattle.std.proofs.Common.{rules, ◌∙◌, ap}
use borrow.Author.Tests.{tests}
use Rattle.std.proofs.lemmas.Iterator.Consumers.{YieldsList-from_first}
use Rattle.std.proofs.lemmas.Iterator.Search.{all_from_yields_List}
use Rattle.ir.specs.Entities.{values}
use Rattle.ir.specs.declared.entities.Value.{Value}
use Rattle.rows.specs.Rows.{live, width_at}
use Rattle.rows.proofs.Args.{list_all_live}
use Rattle.rows.proofs.read_rows.ReadRows.are_live.Goals as goal

pub returns : goal.returns
returns g c =
    let rows = g.Self.ReadRows.rows c.args.self.now in
    all_from_yields_List (live rows) _ _ c.all.result c.all.ensures.ran
    (YieldsList-from_first (λ (v : Value). v.0) values (values c.args.args) (ap values c.iter.ensures))
    (λ x b q k. search (rules, tests))
    ∙ list_all_live (width_at rows) c.args.args
