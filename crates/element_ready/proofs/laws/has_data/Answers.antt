use Rattle.element_ready.proofs.Changes.{level-metadata}
use Rattle.element_ready.proofs.laws.has_data.Goals as goal

pub returns : goal.returns
returns c = level-metadata
