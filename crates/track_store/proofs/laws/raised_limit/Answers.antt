use Rattle.track_store.proofs.Limits.{ended_later}
use Rattle.track_store.proofs.laws.raised_limit.Goals as goal

pub returns : goal.returns
returns c = ended_later
