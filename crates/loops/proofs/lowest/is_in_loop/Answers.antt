use Rattle.std.proofs.Common.{sym, ◌∙◌}
use Rattle.loops.proofs.Closure.{path_inside}
use Rattle.loops.proofs.lowest.is_in_loop.Goals as goal

pub returns : goal.returns
returns g c =
    let graph = c.args.graph.now in
    let v = c.args.v.0 in
    record {
      value = (
        (λ e. c.search_from.ensures.reached.reached v (sym c.contains.ensures ∙ e)),
        (λ p. c.contains.ensures ∙ c.search_from.ensures.reached.complete v (path_inside (g.G.Digraph.size graph) (g.G.Digraph.steps graph) (g.G.Digraph.finite graph) p) p),
      );
      size = c.search_from.ensures.size;
    }
