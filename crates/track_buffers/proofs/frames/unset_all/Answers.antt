use Rattle.std.proofs.Common.{◌∙◌, ◌<◌, ◌≤◌, sym, subst, length, arith}
use Rattle.std.proofs.lemmas.List.{length-map}
use Rattle.range_removal.proofs.Loops.{written_more, all_written}
use Rattle.range_removal.proofs.Rooms.{keeps_both, room_kept, same_length}
use Rattle.track_store.specs.Kept.{AreSoundAndCountable}
use Rattle.track_store.specs.State.{states_of}
use Rattle.track_buffers.specs.Frames.{unset_track}
use Rattle.track_buffers.proofs.KeptTracks.{kept_unset}
use Rattle.track_buffers.proofs.frames.unset_all.Goals as goal

pub loop-i-preserved : goal.loop-i-preserved
loop-i-preserved g c =
    let F = g.S.FrameStore.frames in
    let old = c.args.tracks.now.items in
    let here : c.loop-i.i < length (states_of F old) = rw length-map (omega (arith, c.loop-i.invariant.end, c.loop-i-test.true)) in
    record {
      states = written_more unset_track (states_of F old) (states_of F c.loop-i.tracks.items) (states_of F c.unset_at.new.tracks.items) c.loop-i.i here c.loop-i.invariant.states c.unset_at.ensures.states;
      spare = keeps_both g.S.FrameStore.spare g.S.FrameStore.gap old c.loop-i.tracks.items c.unset_at.new.tracks.items c.unset_at.ensures.gaps c.loop-i.invariant.spare c.unset_at.ensures.no_room_lost;
      gaps = c.unset_at.ensures.gaps ∙ c.loop-i.invariant.gaps;
      places = c.unset_at.ensures.places ∙ c.loop-i.invariant.places;
      end = c.loop-i.invariant.end;
    }

pub returns-clause-states : goal.returns-clause-states
returns-clause-states g c =
    let F = g.S.FrameStore.frames in
    let old = states_of F c.args.tracks.now.items in
    let past : length old ≤ c.loop-i.i = rw length-map (omega (arith, c.loop-i.invariant.end, c.loop-i-test.false)) in
    all_written unset_track old (states_of F c.loop-i.tracks.items) c.loop-i.i past c.loop-i.invariant.states

pub returns-clause-sound_and_countable : goal.returns-clause-sound_and_countable
returns-clause-sound_and_countable g c =
    let old = states_of g.S.FrameStore.frames c.args.tracks.now.items in
    λ h. subst AreSoundAndCountable (sym (returns-clause-states g c)) (kept_unset old h)

pub returns-clause-room : goal.returns-clause-room
returns-clause-room g c = λ n h.
    room_kept g.S.FrameStore.spare n c.args.tracks.now.items c.loop-i.tracks.items (same_length g.S.FrameStore.gap c.args.tracks.now.items c.loop-i.tracks.items c.loop-i.invariant.gaps) c.loop-i.invariant.spare h
