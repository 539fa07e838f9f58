use Rattle.track_buffers.proofs.NormalizedRanges.{buffered_normalized}
use Rattle.track_buffers.proofs.range_laws.normalized.Goals as goal

pub returns : goal.returns
returns c = buffered_normalized
