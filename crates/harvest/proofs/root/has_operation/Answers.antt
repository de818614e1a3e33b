use Rattle.std.proofs.Common.{rules, ap}
use borrow.Author.Tests.{tests}
use Rattle.std.proofs.lemmas.Iterator.Consumers.{YieldsList-from_first}
use Rattle.std.proofs.lemmas.Iterator.Search.{any_from_yields_List}
use Rattle.ir.specs.Entities.{values}
use Rattle.ir.specs.declared.entities.Value.{Value}
use Rattle.flow.specs.Meaning.{def_of}
use Rattle.harvest.specs.Roots.{is_operation}
use Rattle.harvest.proofs.root.has_operation.Goals as goal

pub returns : goal.returns
returns g c =
    let flow = g.G.FlowGraph.meaning c.args.graph.now in
    any_from_yields_List (λ u. is_operation (def_of flow u)) _ _ c.any.result c.any.ensures.ran
    (YieldsList-from_first (λ (v : Value). v.0) values (values c.args.args) (ap values c.iter.ensures))
    (λ x b q k. search (rules, tests))
