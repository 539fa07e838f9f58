use Rattle.std.proofs.Common.{◌∙◌, sym}
use Rattle.track_buffers.specs.Buffered.{ranges_in}
use Rattle.track_buffers.proofs.SharedRanges.{ranges_all}
use Rattle.track_buffers.proofs.Ended.{last_shared, no_last_shared}
use Rattle.track_buffers.proofs.holding.ended_last_span.Goals as goal

pub returns-in-Some : goal.returns-in-Some
returns-in-Some g c =
    let rs = ranges_in {S = g.row.S.Denot} g.S.FrameStore.frames g.S.FrameStore.gap c.args.tracks.now.items in
    c.shared_span_holding.ensures ∙ last_shared rs c.in-Some.end (ranges_all g.S.FrameStore.frames g.S.FrameStore.gap c.args.tracks.now.items c.requires) (sym c.highest_range_end.ensures ∙ c.in-Some.is)

pub returns-in-None : goal.returns-in-None
returns-in-None g c =
    let rs = ranges_in {S = g.row.S.Denot} g.S.FrameStore.frames g.S.FrameStore.gap c.args.tracks.now.items in
    no_last_shared rs (sym c.highest_range_end.ensures ∙ c.in-None.is)
