use Rattle.std.proofs.Common.{ℕ, rules, arith}
use borrow.Author.Tests.{tests}
use Rattle.ir.specs.declared.entities.Value.{Value}
use Rattle.std.proofs.lemmas.Iterator.{YieldsList-from_range, YieldsList-from_map_by, cases_from_all}
use Rattle.loops.proofs.Counted.{counted}
use Rattle.loops.proofs.Falling.{Lower, NotLower, ranks_tested}
use Rattle.loops.proofs.loopless.ranks_fall.Goals as goal

pub returns : goal.returns
returns g c =
    let graph = c.args.graph.now in
    let size = g.G.Digraph.size graph in
    let steps = g.G.Digraph.steps graph in
    let ranks = c.args.ranks.now in
    ranks_tested steps ranks size (g.G.Digraph.finite graph) c.all.result
    (cases_from_all _ _ c.all.result (Lower steps ranks) (NotLower steps ranks) c.all.ensures.ran
    (counted size (YieldsList-from_map_by _ (λ (v : Value). v.0) (λ (n : ℕ). n) (YieldsList-from_range 0 size size (cc) (omega arith)) c.map.ensures.closure (λ x r q k. search (rules, tests))))
    (λ x q k. search (rules, tests)) (λ x q k. search (rules, tests)))
