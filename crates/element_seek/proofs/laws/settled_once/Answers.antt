use Rattle.element_seek.proofs.Settled.{settled-once}
use Rattle.element_seek.proofs.laws.settled_once.Goals as goal

pub returns : goal.returns
returns c = settled-once
