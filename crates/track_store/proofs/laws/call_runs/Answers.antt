use Rattle.track_store.proofs.CallRuns.{none_run, change_run, look_run}
use Rattle.track_store.proofs.laws.call_runs.Goals as goal

pub returns-clause-none : goal.returns-clause-none
returns-clause-none c = none_run

pub returns-clause-change : goal.returns-clause-change
returns-clause-change c = change_run

pub returns-clause-look : goal.returns-clause-look
returns-clause-look c = look_run
