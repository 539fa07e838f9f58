use Rattle.std.proofs.Common.{◌<◌, ◌≤◌, ◌∙◌, length, arith, ap}
use Rattle.std.specs.List.{flat_map}
use Rattle.std.proofs.lemmas.List.{length-map, take_all}
use Rattle.mse_base.specs.Moments.{greatest}
use Rattle.track_store.specs.Frames.{ends}
use Rattle.track_store.specs.State.{TrackState, states_of}
use Rattle.track_buffers.proofs.Loops.{highest_more}
use Rattle.track_buffers.proofs.looks.highest_end.Goals as goal

pub loop-i-preserved : goal.loop-i-preserved
loop-i-preserved g c =
    let ts = states_of g.S.FrameStore.frames c.args.tracks.now.items in
    let here : c.loop-i.i < length ts = rw length-map (omega (arith, c.len-i-end.ensures)) in
    c.max-best.ensures ∙ highest_more (λ (t : TrackState). ends t.frames) ts c.loop-i.i c.loop-i.best c.highest_end_at.result here c.loop-i.invariant c.highest_end_at.ensures

pub returns : goal.returns
returns g c =
    let ts = states_of g.S.FrameStore.frames c.args.tracks.now.items in
    let past : length ts ≤ c.loop-i.i = rw length-map (omega (arith, c.len-i-end.ensures)) in
    c.loop-i.invariant ∙ ap (λ us. greatest (flat_map (λ (t : TrackState). ends t.frames) us)) (take_all c.loop-i.i ts past)
