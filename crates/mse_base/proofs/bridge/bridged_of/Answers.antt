use Rattle.std.proofs.Common.{◌∙◌, List, take, subst, sym}
use Rattle.mse_base.specs.declared.span.Span.{Span}
use Rattle.mse_base.specs.Bridging.{IsRanges}
use Rattle.mse_base.proofs.JoinedSpans.{ranges_bridged}
use Rattle.mse_base.proofs.bridge.bridged_of.Goals as goal

pub join_in-requires-clause-ranges : goal.join_in-requires-clause-ranges
join_in-requires-clause-ranges c =
    subst (λ (rs : List Span). IsRanges c.args.gap rs) (sym (c.reserve.ensures.spans ∙ c.loop-span.invariant))
    (ranges_bridged c.args.gap (take c.loop-span.span-index c.args.spans.now) c.requires)
