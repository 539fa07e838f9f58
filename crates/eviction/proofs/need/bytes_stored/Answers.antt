use Rattle.std.proofs.Common.{◌<◌, length, arith}
use Rattle.std.proofs.lemmas.List.{length-map}
use Rattle.track_store.specs.Frames.{bytes_of}
use Rattle.track_store.specs.State.{TrackState, state_of, states_of}
use Rattle.track_store.proofs.ByteCounts.{added_more}
use Rattle.eviction.proofs.need.bytes_stored.Goals as goal

pub loop-i-preserved : goal.loop-i-preserved
loop-i-preserved g c =
    let states = states_of g.S.FrameStore.frames c.args.tracks.now.items in
    let long = length-map c.args.tracks.now.items (state_of g.S.FrameStore.frames) in
    let here : c.loop-i.i < length states = omega arith in
    record {
      sum = added_more (λ (t : TrackState). bytes_of t.frames) states c.loop-i.i c.loop-i.total c.bytes_at-total.result here c.loop-i.invariant.sum c.bytes_at-total.ensures.value;
      small = omega (arith, c.loop-i.invariant.small, c.bytes_at-total.ensures.small);
    }
