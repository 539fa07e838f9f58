use Rattle.std.proofs.Common.{◌∙◌, ℤ, Option, Bool, map, ap, sym}
use Rattle.track_buffers.specs.Buffered.{with_end, with_common_end, ranges_in}
use Rattle.track_buffers.proofs.SharedRanges.{grown_none}
use Rattle.track_buffers.proofs.buffered.common_end.Goals as goal

pub returns-then-ended : goal.returns-then-ended
returns-then-ended g c =
    let rs = ranges_in {S = g.row.S.Denot} g.S.FrameStore.frames g.S.FrameStore.gap c.args.tracks.now.items in
    ap (λ (o : Option ℤ). map (with_end o) rs) c.highest_range_end.ensures ∙ ap (λ (b : Bool). with_common_end b rs) (sym c.if-ended.true)

pub returns-else-ended : goal.returns-else-ended
returns-else-ended g c =
    let rs = ranges_in {S = g.row.S.Denot} g.S.FrameStore.frames g.S.FrameStore.gap c.args.tracks.now.items in
    grown_none rs ∙ ap (λ (b : Bool). with_common_end b rs) (sym c.if-ended.false)
