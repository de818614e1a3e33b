use Rattle.std.proofs.Common.{◌++◌, drop, ap}
use Rattle.walk.proofs.Outcomes.{carried}
use Rattle.walk.proofs.dfs.post_order_dfs.Goals as goal

pub returns-clause-walked : goal.returns-clause-walked
returns-clause-walked g c = carried _ _ _ _ _ c.walk.result _ c.map_err.ensures.cases c.walk.ensures.ended

pub returns-clause-cleared : goal.returns-clause-cleared
returns-clause-cleared g c alive room = ap (λ l. l ++ drop 1024 c.args.marks.now) c.walk.ensures.cleared
