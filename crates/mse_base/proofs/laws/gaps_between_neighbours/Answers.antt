use Rattle.mse_base.proofs.Neighbours.{gap_of_bridged, bridged_of_gap}
use Rattle.mse_base.proofs.laws.gaps_between_neighbours.Goals as goal

pub returns : goal.returns
returns c = λ gap given joined t g j. (gap_of_bridged gap given joined t g j, bridged_of_gap gap given joined t g j)
