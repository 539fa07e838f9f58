use Rattle.std.proofs.Common.{refl}
use Rattle.mse_base.proofs.Places.{far_all}
use Rattle.mse_base.proofs.Extended.{normalized_ranges}
use Rattle.mse_base.proofs.lookup.place_reaching.Goals as goal

pub count_ending-requires : goal.count_ending-requires
count_ending-requires c = normalized_ranges c.args.gap c.args.ranges.now.spans c.requires.gap_from_zero c.requires.ranges

pub returns-clause-skipped : goal.returns-clause-skipped
returns-clause-skipped c = far_all c.args.gap _ c.args.span.now _ refl c.count_ending.ensures.before
