use Rattle.script_run.proofs.LineFronts.{begun_of_front, front_of_begun}
use Rattle.script_run.proofs.laws.fronts_of_scripts.Goals as goal

pub returns : goal.returns
returns c = record { front = front_of_begun; begun = begun_of_front }
