use Rattle.std.proofs.Common.{◌≡◌, ℕ, ◌+◌, ◌<◌, List, [], length, sym, ap, ◌∙◌, subst, arith}
use Rattle.std.proofs.lemmas.Option.{slice_get_within}
use Rattle.ir.specs.declared.entities.Value.{Value}
use Rattle.loops.specs.Meeting.{meet_all}
use Rattle.loops.proofs.Closure.{Spreads, spreads_start, spreads_more, spreads_end}
use Rattle.loops.proofs.lowest.search_from.Goals as goal

pub loop-u-init : goal.loop-u-init
loop-u-init g c =
    let graph = c.args.graph.now in
    let size = g.G.Digraph.size graph in
    let steps = g.G.Digraph.steps graph in
    let same : c.clear.new.self.size ≡ size = c.clear.ensures.size ∙ c.requires in
    let met : c.insert_all.new.self.nodes ≡ meet_all size [] (steps c.args.start.0) = cc in
    (c.insert_all.ensures.size ∙ same, subst (λ (l : List ℕ). Spreads size steps c.args.start.0 l 0) (sym met) (spreads_start size steps c.args.start.0))

pub overflow_add-done : goal.overflow_add-done
overflow_add-done g c =
    let low : c.loop-u.done < length c.loop-u.met.nodes = slice_get_within c.loop-u.met.nodes c.loop-u.done c.in-Some.u (sym c.in-Some.ensures.value) in
    omega arith

pub loop-u-smaller : goal.loop-u-smaller
loop-u-smaller g c =
    let low : c.loop-u.done < length c.loop-u.met.nodes = slice_get_within c.loop-u.met.nodes c.loop-u.done c.in-Some.u (sym c.in-Some.ensures.value) in
    omega arith

pub loop-u-preserved : goal.loop-u-preserved
loop-u-preserved g c =
    let graph = c.args.graph.now in
    let size = g.G.Digraph.size graph in
    let steps = g.G.Digraph.steps graph in
    let l = c.loop-u in
    let u = c.in-Some.u in
    let number : c.into.result.0 ≡ u = ap (λ (v : Value). v.0) c.into.ensures in
    let same : l.met.size ≡ size = l.invariant.0 in
    let met : c.insert_all-in-Some.new.self.nodes ≡ meet_all size l.met.nodes (steps u) = cc in (
      c.insert_all-in-Some.ensures.size ∙ same,
      subst (λ (xs : List ℕ). Spreads size steps c.args.start.0 xs (l.done + 1)) (sym met) (spreads_more size steps c.args.start.0 l.met.nodes l.done u l.invariant.1 (sym c.in-Some.ensures.value)),
    )

pub returns : goal.returns
returns g c =
    let graph = c.args.graph.now in
    let steps = g.G.Digraph.steps graph in
    record {
      reached = spreads_end (g.G.Digraph.size graph) steps (g.G.Digraph.finite graph) c.args.start.0 c.loop-u.met.nodes c.loop-u.done c.loop-u.invariant.1 (sym c.in_default.ensures.value);
      size = c.loop-u.invariant.0 ∙ sym c.requires;
    }
