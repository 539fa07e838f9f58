use Rattle.std.proofs.Common.{◌∙◌, sym, arith}
use Rattle.mse_base.proofs.JoinedSpans.{joined_here}
use Rattle.mse_base.proofs.bridge.join_from.Goals as goal

pub returns-then-is_last_near-clause-spans : goal.returns-then-is_last_near-clause-spans
returns-then-is_last_near-clause-spans c =
    c.set.ensures.spans ∙ joined_here c.args.gap c.loop-i.ranges.spans c.loop-i.i c.loop-i.s c.get-r.result c.span_round-s.result _ (omega (arith, c.len.ensures, c.loop-i-test.true)) c.get-r.ensures (sym c.is_far_before.ensures ∙ c.if-is_far_before.false) (sym c.is_far_before-in-loop-i.ensures ∙ c.if-is_far_before-2.false) c.span_round-s.ensures (c.is_last_near.ensures c.if-is_last_near.true) c.loop-i.invariant.items
