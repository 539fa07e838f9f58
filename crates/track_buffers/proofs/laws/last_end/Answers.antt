use Rattle.track_buffers.proofs.SharedRanges.{last_joined}
use Rattle.track_buffers.proofs.laws.last_end.Goals as goal

pub returns : goal.returns
returns c = last_joined
