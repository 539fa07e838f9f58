use Rattle.segment_walk.proofs.Boxes.{latest-boxes}
use Rattle.segment_walk.proofs.laws.latest_law.Goals as goal

pub returns : goal.returns
returns c = λ r. latest-boxes r
