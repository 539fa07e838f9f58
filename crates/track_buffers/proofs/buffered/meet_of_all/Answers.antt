use Rattle.mse_base.specs.Meets.{meet_of_all}
use Rattle.std.proofs.Common.{◌≡◌, ◌∙◌, ◌≤◌, ◌<◌, map, take, length, ap, arith}
use Rattle.std.proofs.lemmas.List.{length-map, length-take, take_all}
use Rattle.track_store.specs.declared.tracks.Track.{Track}
use Rattle.track_store.specs.Frames.{ranges_of}
use Rattle.track_buffers.specs.Buffered.{with_end, ranges_in}
use Rattle.track_buffers.proofs.SharedRanges.{first_track, met_more, grown_all, ranges_all}
use Rattle.track_buffers.proofs.buffered.meet_of_all.Goals as goal

pub loop-i-init : goal.loop-i-init
loop-i-init g c =
    let qs = ranges_in {S = g.row.S.Denot} g.S.FrameStore.frames g.S.FrameStore.gap c.args.tracks.now.items in
    let rs = map (with_end c.args.end.now) qs in
    let long : length rs ≡ length c.args.tracks.now.items = length-map qs (with_end c.args.end.now) ∙ length-map c.args.tracks.now.items (λ (t : Track g.row.S.Denot). ranges_of (g.S.FrameStore.gap t.store) (g.S.FrameStore.frames t.store)) in
    let one : 1 ≤ length rs = omega (arith, c.len.ensures, c.if-len-eq0.false) in
    record {
      met = first_track rs c.in_ok-common.common.spans one c.in_ok-common.ensures;
      some = omega arith;
    }

pub loop-i-preserved : goal.loop-i-preserved
loop-i-preserved g c =
    let qs = ranges_in {S = g.row.S.Denot} g.S.FrameStore.frames g.S.FrameStore.gap c.args.tracks.now.items in
    let rs = map (with_end c.args.end.now) qs in
    let long : length rs ≡ length c.args.tracks.now.items = length-map qs (with_end c.args.end.now) ∙ length-map c.args.tracks.now.items (λ (t : Track g.row.S.Denot). ranges_of (g.S.FrameStore.gap t.store) (g.S.FrameStore.frames t.store)) in
    let here : c.loop-i.i < length rs = omega (arith, c.len-i-end.ensures, c.loop-i-test.true) in
    let front : 1 ≤ length (take c.loop-i.i rs) = rw length-take (omega (arith, c.loop-i.invariant.some)) in
    let all = grown_all c.args.end.now qs (ranges_all g.S.FrameStore.frames g.S.FrameStore.gap c.args.tracks.now.items c.requires) in
    record {
      met = met_more rs c.loop-i.i c.loop-i.common.spans c.in_ok-ranges.ranges.spans c.in_ok-common-2.common.spans here front all c.loop-i.invariant.met c.in_ok-ranges.ensures c.in_ok-common-2.ensures.met;
      some = omega arith;
    }

pub returns : goal.returns
returns g c =
    let qs = ranges_in {S = g.row.S.Denot} g.S.FrameStore.frames g.S.FrameStore.gap c.args.tracks.now.items in
    let rs = map (with_end c.args.end.now) qs in
    let long : length rs ≡ length c.args.tracks.now.items = length-map qs (with_end c.args.end.now) ∙ length-map c.args.tracks.now.items (λ (t : Track g.row.S.Denot). ranges_of (g.S.FrameStore.gap t.store) (g.S.FrameStore.frames t.store)) in
    let past : length rs ≤ c.loop-i.i = omega (arith, c.len-i-end.ensures, c.loop-i-test.false) in
    c.loop-i.invariant.met ∙ ap meet_of_all (take_all c.loop-i.i rs past)
