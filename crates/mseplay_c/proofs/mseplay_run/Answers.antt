use Rattle.mseplay_c.proofs.Calls.{no_run}
use Rattle.mseplay_c.proofs.mseplay_run.Goals as goal

pub returns-in_default : goal.returns-in_default
returns-in_default c = no_run _ _ _ c.number.ensures
