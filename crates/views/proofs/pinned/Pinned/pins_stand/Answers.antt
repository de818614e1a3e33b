use Rattle.views.proofs.BehindPins.{behind_pins}
use Rattle.views.proofs.pinned.Pinned.pins_stand.Goals as goal

pub returns : goal.returns
returns g c =
    let view = c.args.self.now in
    behind_pins (g.G.FlowGraph.meaning view.inner) (g.G.FlowGraph.lawful view.inner) view.pins.items view.pinnable
