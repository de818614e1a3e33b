use Rattle.flow.proofs.Paths.{reach_transitive, reach_unfolds}
use Rattle.flow.proofs.Places.{walk_topological}
use Rattle.flow.proofs.Steps.{steps_count, steps_few}
use Rattle.flow.proofs.Walks.{unfolds, walk_is_post_order}
use Rattle.flow.proofs.walk_stands.Goals as goal

pub returns : goal.returns
returns c = record {
  reach_transitive = reach_transitive;
  reach_unfolds = reach_unfolds;
  unfolds = unfolds;
  post_order = walk_is_post_order;
  topological = walk_topological;
  steps = steps_count;
  few_steps = steps_few;
}
