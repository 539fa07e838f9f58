use Rattle.std.proofs.Common.{◌<◌, ◌≤◌, ◌∙◌, length, map, arith, ap}
use Rattle.std.proofs.lemmas.List.{take_all}
use Rattle.track_store.specs.declared.tracks.Track.{Track}
use Rattle.track_store.specs.State.{state_of}
use Rattle.track_buffers.specs.Views.{track_view}
use Rattle.track_buffers.proofs.Loops.{mapped_more}
use Rattle.track_buffers.proofs.looks.track_views.Goals as goal

pub loop-i-preserved : goal.loop-i-preserved
loop-i-preserved g c =
    let ts = c.args.tracks.now.items in
    let here : c.loop-i.i < length ts = omega (arith, c.len-i-end.ensures) in
    mapped_more (λ (t : Track g.row.S.Denot). track_view (g.S.FrameStore.gap t.store) (state_of g.S.FrameStore.frames t)) ts c.loop-i.i c.loop-i.views.items c.push_view.new.views.items here c.loop-i.invariant c.in_ok-push_view.ensures

pub returns : goal.returns
returns g c =
    let ts = c.args.tracks.now.items in
    let past : length ts ≤ c.loop-i.i = omega (arith, c.len-i-end.ensures) in
    c.from_vec.ensures ∙ c.loop-i.invariant ∙ ap (map (λ (t : Track g.row.S.Denot). track_view (g.S.FrameStore.gap t.store) (state_of g.S.FrameStore.frames t))) (take_all c.loop-i.i ts past)
