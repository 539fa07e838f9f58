use Rattle.std.proofs.Common.{◌∙◌, ℤ, List, pos, sym, ap}
use Rattle.mse_base.specs.declared.span.Span.{Span}
use Rattle.mse_base.specs.Bridging.{ranges_with}
use Rattle.track_buffers.proofs.SharedRanges.{ranges_normalized, joined_last, none_grown}
use Rattle.track_buffers.proofs.buffered.extend_last.Goals as goal

pub add_span-requires-clause-ranges : goal.add_span-requires-clause-ranges
add_span-requires-clause-ranges c = rw (c.zero.ensures, c.in_ok-reserve.ensures.spans) (ranges_normalized c.args.ranges.now.spans c.requires)

pub returns-clause-ok : goal.returns-clause-ok
returns-clause-ok c =
    let last = c.in-Some.last in
    let old = c.args.ranges.now.spans in
    c.add_span.ensures.spans
    ∙ ap (λ (z : ℤ). ranges_with z c.reserve.new.self.spans c.span_up_to.result) c.zero.ensures
    ∙ ap (λ (ss : List Span). ranges_with (pos 0) ss c.span_up_to.result) c.in_ok-reserve.ensures.spans
    ∙ ap (λ (s : Span). ranges_with (pos 0) old s) c.span_up_to.ensures
    ∙ joined_last old last c.args.end c.requires (sym c.last.ensures ∙ c.in-Some.is)

pub returns-in_default-clause-ok : goal.returns-in_default-clause-ok
returns-in_default-clause-ok c = none_grown c.args.ranges.now.spans c.args.end (sym c.last.ensures ∙ c.in_default.is)
