use Rattle.mse_base.specs.Rows.{row_items}
use Rattle.track_index.proofs.MendedRanges.{grown_both, past_grown}
use Rattle.track_index.proofs.repair.refill.Goals as goal

pub returns-then-join_past-clause-grown : goal.returns-then-join_past-clause-grown
returns-then-join_past-clause-grown c = λ e. grown_both c.args.gap (row_items c.args.order.now.rows) c.args.ranges.now.spans c.join_past.new.ranges.spans c.join_between.new.ranges.spans (c.join_past.ensures.grown c.if-join_past.true) (c.join_between.ensures.grown e)

pub returns-then-join_past-clause-past : goal.returns-then-join_past-clause-past
returns-then-join_past-clause-past c = λ e. past_grown c.args.gap c.args.key.now (row_items c.args.order.now.rows) c.join_past.new.ranges.spans c.join_between.new.ranges.spans (c.join_past.ensures.past c.if-join_past.true) (c.join_between.ensures.grown e)
