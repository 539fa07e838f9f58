use Rattle.std.proofs.Common.{◌<◌, length, true, false, arith}
use Rattle.std.proofs.lemmas.List.{length-map}
use Rattle.track_store.specs.State.{TrackState, states_of}
use Rattle.mse_base.specs.Moments.{is_video}
use Rattle.eviction.proofs.Places.{found_here, if_state, lead_here, none_more}
use Rattle.eviction.proofs.lead.lead_of.Goals as goal

pub returns-then-is_video_at : goal.returns-then-is_video_at
returns-then-is_video_at g c =
    let F = g.S.FrameStore.frames in
    let ts = states_of F c.args.tracks.now.items in
    let here : c.loop-i.i < length ts = rw length-map (omega (arith, c.len-i-end.ensures, c.loop-i-test.true)) in
    lead_here ts c.loop-i.i here (found_here (λ (t : TrackState). is_video t.kind) ts c.loop-i.i here c.loop-i.invariant (if_state F c.args.tracks.now.items c.loop-i.i true c.if-is_video_at.ensures))

pub loop-i-preserved : goal.loop-i-preserved
loop-i-preserved g c =
    let F = g.S.FrameStore.frames in
    none_more (λ (t : TrackState). is_video t.kind) (states_of F c.args.tracks.now.items) c.loop-i.i c.loop-i.invariant (if_state F c.args.tracks.now.items c.loop-i.i false c.if-is_video_at.ensures)
