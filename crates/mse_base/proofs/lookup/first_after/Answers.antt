use Rattle.std.proofs.Common.{◌∙◌}
use Rattle.mse_base.proofs.Beside.{first_left}
use Rattle.mse_base.proofs.lookup.first_after.Goals as goal

pub returns : goal.returns
returns c = c.span_at.ensures ∙ first_left c.args.t c.args.ranges.now.spans c.count_ended.result c.count_ended.ensures.ended c.count_ended.ensures.left
