use Rattle.cut_law.proofs.Counts.{drain-counted}
use Rattle.cut_law.proofs.Singles.{silent-play, one-play, quiet-drain}
use Rattle.cut_law.proofs.play_laws.one_play.Goals as goal

pub returns-clause-some : goal.returns-clause-some
returns-clause-some c = λ blobs limits st lines. silent-play blobs limits st lines

pub returns-clause-one : goal.returns-clause-one
returns-clause-one c = λ blobs limits st lines entries j. one-play blobs limits 0 st lines entries j.whole j.replays j.silent

pub returns-clause-drain : goal.returns-clause-drain
returns-clause-drain c = λ blobs st part d q. quiet-drain blobs st part d q

pub returns-clause-counts : goal.returns-clause-counts
returns-clause-counts c = λ blobs st part d q. drain-counted blobs st part d q
