use Rattle.segment_walk.proofs.Places.{held-suffix}
use Rattle.segment_walk.proofs.laws.held_law.Goals as goal

pub returns : goal.returns
returns c = λ r. held-suffix r
