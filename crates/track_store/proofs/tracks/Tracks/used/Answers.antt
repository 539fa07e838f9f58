use Rattle.std.proofs.Common.{◌<◌, length, arith}
use Rattle.std.proofs.lemmas.List.{length-map}
use Rattle.track_store.specs.Frames.{bytes_of}
use Rattle.track_store.specs.State.{TrackState, state_of, states_of}
use Rattle.track_store.proofs.ByteCounts.{added_more}
use Rattle.track_store.proofs.tracks.Tracks.used.Goals as goal

pub loop-i-preserved : goal.loop-i-preserved
loop-i-preserved g c =
    let states = states_of g.S.FrameStore.frames c.args.self.now.items in
    let long = length-map c.args.self.now.items (state_of g.S.FrameStore.frames) in
    let here : c.loop-i.i < length states = omega arith in
    added_more (λ (t : TrackState). bytes_of t.frames) states c.loop-i.i c.loop-i.total c.used_at-total.result here c.loop-i.invariant c.used_at-total.ensures.value
