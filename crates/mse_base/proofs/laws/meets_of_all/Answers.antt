use Rattle.mse_base.proofs.SharedTicks.{all_normalized, covers-all, meet_push}
use Rattle.mse_base.proofs.RangeAtTime.{find-meet_of_all, overlap_push}
use Rattle.mse_base.proofs.laws.meets_of_all.Goals as goal

pub returns-clause-normalized : goal.returns-clause-normalized
returns-clause-normalized c = all_normalized

pub returns-clause-ticks : goal.returns-clause-ticks
returns-clause-ticks c = covers-all

pub returns-clause-found : goal.returns-clause-found
returns-clause-found c = find-meet_of_all

pub returns-clause-one_more : goal.returns-clause-one_more
returns-clause-one_more c = meet_push

pub returns-clause-overlap_of_one_more : goal.returns-clause-overlap_of_one_more
returns-clause-overlap_of_one_more c = overlap_push
