use Rattle.std.proofs.Common.{◌∙◌, List, ap}
use Rattle.mse_base.specs.declared.span.Span.{Span}
use Rattle.mse_base.specs.Meets.{meet_of_all}
use Rattle.track_buffers.specs.Buffered.{is_buffered_up_to, with_common_end}
use Rattle.track_buffers.proofs.SharedRanges.{ranges_same}
use Rattle.track_buffers.proofs.buffers.TrackBuffers.is_buffered_up_to.Goals as goal

pub returns : goal.returns
returns g c =
    let b = c.self.inside in
    rw (← c.self.view_is) (c.is_buffered_up_to.ensures ∙ ap (λ (rs : List (List Span)). is_buffered_up_to c.args.t c.args.until (meet_of_all (with_common_end c.args.ended rs))) (ranges_same g.S.FrameStore.frames g.S.FrameStore.gap b.gap b.tracks.items c.self.invariant.0.gaps_are))
