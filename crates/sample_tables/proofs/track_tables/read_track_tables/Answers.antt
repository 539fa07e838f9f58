use Rattle.std.proofs.Common.{sym, subst}
use Rattle.sample_tables.specs.Facts.{IsDescription}
use Rattle.sample_tables.proofs.track_tables.read_track_tables.Goals as goal

pub returns-clause-described : goal.returns-clause-described
returns-clause-described c = subst (IsDescription _) (sym c.in-Ok.ensures) c.in_ok-codec.ensures.described
