use Rattle.std.proofs.Common.{arith}
use Rattle.std.proofs.lemmas.Int.{ints}
use Rattle.mse_base.specs.Rows.{row_items}
use Rattle.track_index.proofs.MendedRanges.{past_none, past_early, past_some, grown_none, grown_past, past_none_held, past_some_held}
use Rattle.track_index.proofs.repair.join_past.Goals as goal

pub returns-in-None-clause-grown : goal.returns-in-None-clause-grown
returns-in-None-clause-grown c = λ _. grown_none c.args.gap (row_items c.args.order.now.rows) c.args.ranges.now.spans

pub returns-in-None-clause-past : goal.returns-in-None-clause-past
returns-in-None-clause-past c = λ _. past_none_held c.args.gap c.args.key.now (row_items c.args.order.now.rows) c.args.ranges.now.spans (past_none c.args.key.now (row_items c.args.order.now.rows) c.in-None.ensures)

pub returns-then-le-clause-grown : goal.returns-then-le-clause-grown
returns-then-le-clause-grown c = λ _. grown_none c.args.gap (row_items c.args.order.now.rows) c.args.ranges.now.spans

pub returns-then-le-clause-past : goal.returns-then-le-clause-past
returns-then-le-clause-past c = λ _. past_none_held c.args.gap c.args.key.now (row_items c.args.order.now.rows) c.args.ranges.now.spans (past_early c.args.key.now (row_items c.args.order.now.rows) c.in-Some.end c.in-Some.ensures (grind (arith, ints, c.le.ensures, c.if-le.true)))

pub returns-in-Some-span_between-clause-grown : goal.returns-in-Some-span_between-clause-grown
returns-in-Some-span_between-clause-grown c = λ e. grown_past c.args.gap c.args.key.now (row_items c.args.order.now.rows) c.args.ranges.now.spans c.join.new.ranges.spans c.in-Some-span_between.span (past_some c.args.key.now (row_items c.args.order.now.rows) c.in-Some.end c.in-Some-span_between.span c.in-Some.ensures (grind (arith, ints, c.le.ensures, c.if-le.false)) c.in-Some-span_between.ensures.0 c.in-Some-span_between.ensures.1) (c.join.ensures.ticks e)

pub returns-in-Some-span_between-clause-past : goal.returns-in-Some-span_between-clause-past
returns-in-Some-span_between-clause-past c = λ e. past_some_held c.args.gap c.args.key.now (row_items c.args.order.now.rows) c.args.ranges.now.spans c.join.new.ranges.spans c.in-Some-span_between.span (past_some c.args.key.now (row_items c.args.order.now.rows) c.in-Some.end c.in-Some-span_between.span c.in-Some.ensures (grind (arith, ints, c.le.ensures, c.if-le.false)) c.in-Some-span_between.ensures.0 c.in-Some-span_between.ensures.1) (c.join.ensures.ticks e)
