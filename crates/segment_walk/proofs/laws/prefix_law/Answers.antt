use Rattle.segment_walk.proofs.Boxes.{items-prefix}
use Rattle.segment_walk.proofs.laws.prefix_law.Goals as goal

pub returns : goal.returns
returns c = λ last b more. items-prefix last b more
