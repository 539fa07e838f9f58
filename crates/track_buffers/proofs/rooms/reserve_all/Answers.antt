use Rattle.std.proofs.Common.{◌∙◌, ◌<◌, length, arith}
use Rattle.range_removal.proofs.Rooms.{keeps_both, same_length}
use Rattle.track_buffers.proofs.KeptTracks.{room_more}
use Rattle.track_buffers.proofs.rooms.reserve_all.Goals as goal

pub returns-in_err-reserve_at-clause-no_room_lost : goal.returns-in_err-reserve_at-clause-no_room_lost
returns-in_err-reserve_at-clause-no_room_lost g c =
    let old = c.args.tracks.now.items in
    let now = c.loop-i.tracks.items in
    let next = c.reserve_at.new.tracks.items in
    keeps_both g.S.FrameStore.spare g.S.FrameStore.gap old now next c.reserve_at.ensures.gaps c.loop-i.invariant.spare c.reserve_at.ensures.no_room_lost

pub loop-i-preserved : goal.loop-i-preserved
loop-i-preserved g c =
    let old = c.args.tracks.now.items in
    let now = c.loop-i.tracks.items in
    let next = c.reserve_at.new.tracks.items in
    let longer = same_length g.S.FrameStore.gap now next c.reserve_at.ensures.gaps in
    let long = same_length g.S.FrameStore.gap old now c.loop-i.invariant.gaps in
    let here : c.loop-i.i < length next = omega (arith, c.loop-i.invariant.end, c.loop-i-test.true) in
    record {
      states = c.reserve_at.ensures.states ∙ c.loop-i.invariant.states;
      roomy = room_more g.S.FrameStore.spare c.args.n now next c.loop-i.i here c.reserve_at.ensures.no_room_lost longer c.loop-i.invariant.roomy c.in_ok-reserve_at.ensures.spare;
      spare = keeps_both g.S.FrameStore.spare g.S.FrameStore.gap old now next c.reserve_at.ensures.gaps c.loop-i.invariant.spare c.reserve_at.ensures.no_room_lost;
      gaps = c.reserve_at.ensures.gaps ∙ c.loop-i.invariant.gaps;
      places = c.reserve_at.ensures.places ∙ c.loop-i.invariant.places;
      end = c.loop-i.invariant.end;
    }
