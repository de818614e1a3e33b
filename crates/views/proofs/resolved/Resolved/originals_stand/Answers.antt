use Rattle.views.proofs.BehindOriginals.{behind_originals}
use Rattle.views.proofs.resolved.Resolved.originals_stand.Goals as goal

pub returns : goal.returns
returns g c =
    let view = c.args.self.now in
    behind_originals (g.G.FlowGraph.meaning view.inner) (g.G.FlowGraph.lawful view.inner)
