use Rattle.std.proofs.Common.{◌∙◌, List, length, sym, ap, subst, arith}
use Rattle.mse_base.specs.declared.span.Span.{Span}
use Rattle.mse_base.specs.Bridging.{IsRanges, ranges_with}
use Rattle.mse_base.proofs.Places.{join_in_skips}
use Rattle.mse_base.proofs.bridge.join_in.Goals as goal

pub place_reaching-from-requires-clause-ranges : goal.place_reaching-from-requires-clause-ranges
place_reaching-from-requires-clause-ranges c = subst (λ (rs : List Span). IsRanges c.args.gap rs) (sym (c.join_late.ensures.unchanged c.if-join_late.false)) c.requires.ranges

pub join_from-requires-clause-room : goal.join_from-requires-clause-room
join_from-requires-clause-room c = omega (arith, c.join_late.ensures.room, ap length (c.join_late.ensures.unchanged c.if-join_late.false), c.requires.room)

pub returns-clause-spans : goal.returns-clause-spans
returns-clause-spans c =
    let kept = c.join_late.ensures.unchanged c.if-join_late.false in
    c.join_from.ensures.spans ∙ join_in_skips c.args.gap c.args.span c.join_late.new.ranges.spans c.place_reaching-from.result c.requires.gap_from_zero (sym c.is_empty.ensures ∙ c.if-is_empty.false) (subst (λ (rs : List Span). IsRanges c.args.gap rs) (sym kept) c.requires.ranges) c.place_reaching-from.ensures.skipped ∙ ap (λ rs. ranges_with c.args.gap rs c.args.span) kept
