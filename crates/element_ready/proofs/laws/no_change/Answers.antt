use Rattle.element_ready.proofs.Changes.{same-events}
use Rattle.element_ready.proofs.laws.no_change.Goals as goal

pub returns : goal.returns
returns c = same-events
