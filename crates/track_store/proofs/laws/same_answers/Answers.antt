use Rattle.track_store.proofs.CallRuns.{one_run}
use Rattle.track_store.proofs.laws.same_answers.Goals as goal

pub returns : goal.returns
returns c = one_run
