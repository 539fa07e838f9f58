use Rattle.std.proofs.Common.{sym}
use Rattle.mse_base.proofs.TickLemmas.{tick_some}
use Rattle.track_index.proofs.repair.span_between.Goals as goal

pub returns-in-Some-time : goal.returns-in-Some-time
returns-in-Some-time c = (tick_some c.args.start c.in-Some.start (sym c.in-Some.ensures), tick_some c.args.end c.in-Some-time.end (sym c.in-Some-time.ensures))
