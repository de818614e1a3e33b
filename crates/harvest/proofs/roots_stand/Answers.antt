use Rattle.std.proofs.Common.{ap}
use Rattle.harvest.specs.Roots.{roots_at}
use Rattle.harvest.proofs.Candidates.{roots_reach_two}
use Rattle.harvest.proofs.Searching.{onward_all}
use Rattle.harvest.proofs.roots_stand.Goals as goal

pub returns-clause-reach : goal.returns-clause-reach
returns-clause-reach c = roots_reach_two

pub returns-clause-from_the_start : goal.returns-clause-from_the_start
returns-clause-from_the_start c = λ g l. ap (roots_at g) (onward_all l)
