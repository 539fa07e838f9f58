use Rattle.std.proofs.Common.{◌∙◌, List, ap}
use Rattle.std.specs.List.{find}
use Rattle.mse_base.specs.declared.span.Span.{Span}
use Rattle.mse_base.specs.Spans.{reaches}
use Rattle.mse_base.specs.Meets.{meet_of_all}
use Rattle.track_buffers.specs.Buffered.{with_common_end}
use Rattle.track_buffers.proofs.SharedRanges.{ranges_same}
use Rattle.track_buffers.proofs.buffers.TrackBuffers.span_holding.Goals as goal

pub returns : goal.returns
returns g c =
    let b = c.self.inside in
    rw (← c.self.view_is) (c.watched_span.ensures ∙ ap (λ (rs : List (List Span)). find (reaches c.args.t) (meet_of_all (with_common_end c.args.ended rs))) (ranges_same g.S.FrameStore.frames g.S.FrameStore.gap b.gap b.tracks.items c.self.invariant.0.gaps_are))
