use Rattle.eviction.proofs.Spared.{none_holds}
use Rattle.eviction.proofs.laws.no_range_holds_the_position.Goals as goal

pub returns : goal.returns
returns c = none_holds
