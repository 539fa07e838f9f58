use Rattle.std.proofs.Common.{◌<◌, ◌≤◌, length, arith}
use Rattle.std.proofs.lemmas.List.{length-map}
use Rattle.track_store.specs.State.{states_of}
use Rattle.track_buffers.specs.Frames.{has_number}
use Rattle.track_buffers.proofs.Loops.{position_more, position_here, position_none}
use Rattle.track_buffers.proofs.frames.place_of.Goals as goal

pub returns-then-has_number_at-clause-place : goal.returns-then-has_number_at-clause-place
returns-then-has_number_at-clause-place g c =
    let ts = states_of g.S.FrameStore.frames c.args.tracks.now.items in
    let here : c.loop-i.i < length ts = rw length-map (omega (arith, c.len-i-end.ensures)) in
    position_here (has_number c.args.id) ts c.loop-i.i c.has_number_at.result here c.loop-i.invariant c.has_number_at.ensures c.if-has_number_at.true

pub loop-i-preserved : goal.loop-i-preserved
loop-i-preserved g c =
    let ts = states_of g.S.FrameStore.frames c.args.tracks.now.items in
    let here : c.loop-i.i < length ts = rw length-map (omega (arith, c.len-i-end.ensures)) in
    position_more (has_number c.args.id) ts c.loop-i.i c.has_number_at.result here c.loop-i.invariant c.has_number_at.ensures c.if-has_number_at.false

pub returns-clause-place : goal.returns-clause-place
returns-clause-place g c =
    let ts = states_of g.S.FrameStore.frames c.args.tracks.now.items in
    let past : length ts ≤ c.loop-i.i = rw length-map (omega (arith, c.len-i-end.ensures)) in
    position_none (has_number c.args.id) ts c.loop-i.i past c.loop-i.invariant
