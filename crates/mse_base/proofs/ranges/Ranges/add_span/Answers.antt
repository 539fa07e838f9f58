use Rattle.mse_base.proofs.JoinedSpans.{ranges_join_in, length_join_in}
use Rattle.mse_base.proofs.Extended.{normalized_ranges}
use Rattle.mse_base.proofs.BridgedRanges.{bridged_join_in}
use Rattle.mse_base.proofs.ranges.Ranges.add_span.Goals as goal

pub invariant_of-self : goal.invariant_of-self
invariant_of-self c = rw c.join_in.ensures.spans (normalized_ranges c.args.gap _ c.requires.gap_from_zero (ranges_join_in c.args.gap c.self.inside.spans.spans c.args.span c.requires.gap_from_zero (rw (← c.self.view_is) at c.requires.ranges)))

pub returns-clause-bridged : goal.returns-clause-bridged
returns-clause-bridged c = rw (c.join_in.ensures.spans, ← c.self.view_is) (bridged_join_in c.args.gap c.self.inside.spans.spans c.args.span c.requires.gap_from_zero (rw (← c.self.view_is) at c.requires.ranges))

pub returns-clause-ranges : goal.returns-clause-ranges
returns-clause-ranges c = rw c.join_in.ensures.spans (ranges_join_in c.args.gap c.self.inside.spans.spans c.args.span c.requires.gap_from_zero (rw (← c.self.view_is) at c.requires.ranges))

pub returns-clause-len : goal.returns-clause-len
returns-clause-len c = rw (c.join_in.ensures.spans, ← c.self.view_is) (length_join_in c.args.gap c.self.inside.spans.spans c.args.span)
