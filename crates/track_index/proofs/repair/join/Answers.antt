use Rattle.std.proofs.Common.{◌∙◌, ap}
use Rattle.mse_base.specs.Bridging.{is_near_any}
use Rattle.mse_base.proofs.JoinedSpans.{times_join_in}
use Rattle.track_index.proofs.repair.join.Goals as goal

pub returns-clause-ticks : goal.returns-clause-ticks
returns-clause-ticks c = λ _ t. ap (is_near_any c.args.gap t) c.add_span.ensures.spans ∙ times_join_in c.args.gap t c.args.ranges.now.spans c.args.span c.requires.ranges
