use Rattle.mse_base.specs.Meets.{meet_of_all}
use Rattle.std.proofs.Common.{List, ap}
use Rattle.mse_base.specs.declared.span.Span.{Span}
use Rattle.track_store.specs.Kept.{gaps_of}
use Rattle.track_buffers.specs.Buffered.{buffered_of, with_common_end, ranges_in}
use Rattle.track_buffers.specs.Media.{media_of}
use Rattle.track_buffers.proofs.SharedRanges.{ranges_same, ok_spans, ok_buffered}
use Rattle.track_buffers.proofs.KeptTracks.{gaps_forward}
use Rattle.track_buffers.proofs.buffers.TrackBuffers.buffered.Goals as goal

pub buffered_of-requires : goal.buffered_of-requires
buffered_of-requires g c = gaps_forward c.self.inside.gap (gaps_of g.S.FrameStore.gap c.self.inside.tracks.items) c.self.invariant.0.gap_from_zero c.self.invariant.0.gaps_are

pub returns-clause-spans : goal.returns-clause-spans
returns-clause-spans g c =
    let F = g.S.FrameStore.frames in
    let G = g.S.FrameStore.gap in
    let b = c.self.inside in
    let m = media_of F b.tracks.items b.settings b.pending b.gap in
    rw (← c.self.view_is) (ok_spans c.buffered_of.result (meet_of_all (with_common_end c.args.ended (ranges_in F G b.tracks.items))) (buffered_of c.args.ended m) (ap (λ (rs : List (List Span)). meet_of_all (with_common_end c.args.ended rs)) (ranges_same F G b.gap b.tracks.items c.self.invariant.0.gaps_are)) c.buffered_of.ensures)

pub returns-clause-ticks : goal.returns-clause-ticks
returns-clause-ticks g c =
    let b = c.self.inside in
    let m = media_of g.S.FrameStore.frames b.tracks.items b.settings b.pending b.gap in
    rw (← c.self.view_is) (ok_buffered c.buffered_of.result c.args.ended m c.self.invariant.0.gap_from_zero (rw (← c.self.view_is) at (returns-clause-spans g c)))
