use Rattle.eviction.proofs.Syncs.{rising_times, times_exactly}
use Rattle.eviction.proofs.laws.times_of_random_access_points.Goals as goal

pub returns-clause-rising : goal.returns-clause-rising
returns-clause-rising c = rising_times

pub returns-clause-exactly : goal.returns-clause-exactly
returns-clause-exactly c = times_exactly
