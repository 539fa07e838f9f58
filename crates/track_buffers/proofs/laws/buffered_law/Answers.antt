use Rattle.track_buffers.proofs.SharedRanges.{buffered_is}
use Rattle.track_buffers.proofs.laws.buffered_law.Goals as goal

pub returns : goal.returns
returns c = buffered_is
