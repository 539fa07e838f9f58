use Rattle.std.proofs.Common.{◌∙◌, ◌<◌, ◌≤◌, List, sym, subst, length, arith}
use Rattle.std.proofs.lemmas.List.{length-map}
use Rattle.track_store.specs.Kept.{AreSoundAndCountable, AreEndedBy, AreStillSound}
use Rattle.track_store.specs.State.{TrackState, states_of}
use Rattle.range_removal.specs.Removal.{track_after_removal}
use Rattle.range_removal.proofs.Loops.{written_more, all_written}
use Rattle.range_removal.proofs.Removals.{kept_removed, ends_removed, still_removed}
use Rattle.range_removal.proofs.Rooms.{keeps_both, room_kept, same_length}
use Rattle.range_removal.proofs.removal.remove_frames.Goals as goal

pub loop-i-preserved : goal.loop-i-preserved
loop-i-preserved g c =
    let F = g.S.FrameStore.frames in
    let old = c.args.tracks.now.items in
    let here : c.loop-i.i < length (states_of F old) = rw length-map (omega (arith, c.loop-i.invariant.end, c.loop-i-test.true)) in
    record {
      states = written_more (track_after_removal c.args.start c.args.end c.args.duration) (states_of F old) (states_of F c.loop-i.tracks.items) (states_of F c.remove_at.new.tracks.items) c.loop-i.i here c.loop-i.invariant.states c.remove_at.ensures.states;
      spare = keeps_both g.S.FrameStore.spare g.S.FrameStore.gap old c.loop-i.tracks.items c.remove_at.new.tracks.items c.remove_at.ensures.gaps c.loop-i.invariant.spare c.remove_at.ensures.no_room_lost;
      gaps = c.remove_at.ensures.gaps ∙ c.loop-i.invariant.gaps;
      places = c.remove_at.ensures.places ∙ c.loop-i.invariant.places;
      end = c.loop-i.invariant.end;
    }

pub returns-clause-sound_and_countable : goal.returns-clause-sound_and_countable
returns-clause-sound_and_countable g c =
    let F = g.S.FrameStore.frames in
    let old = states_of F c.args.tracks.now.items in
    let past : length old ≤ c.loop-i.i = rw length-map (omega (arith, c.loop-i.invariant.end, c.loop-i-test.false)) in
    let is = all_written (track_after_removal c.args.start c.args.end c.args.duration) old (states_of F c.loop-i.tracks.items) c.loop-i.i past c.loop-i.invariant.states in
    λ h. subst AreSoundAndCountable (sym is) (kept_removed c.args.start c.args.end c.args.duration old h)

pub returns-clause-sound : goal.returns-clause-sound
returns-clause-sound g c =
    let F = g.S.FrameStore.frames in
    let old = states_of F c.args.tracks.now.items in
    let past : length old ≤ c.loop-i.i = rw length-map (omega (arith, c.loop-i.invariant.end, c.loop-i-test.false)) in
    let is = all_written (track_after_removal c.args.start c.args.end c.args.duration) old (states_of F c.loop-i.tracks.items) c.loop-i.i past c.loop-i.invariant.states in
    subst (λ (us : List TrackState). AreStillSound old us) (sym is) (still_removed c.args.start c.args.end c.args.duration old)

pub returns-clause-ends : goal.returns-clause-ends
returns-clause-ends g c =
    let F = g.S.FrameStore.frames in
    let old = states_of F c.args.tracks.now.items in
    let past : length old ≤ c.loop-i.i = rw length-map (omega (arith, c.loop-i.invariant.end, c.loop-i-test.false)) in
    let is = all_written (track_after_removal c.args.start c.args.end c.args.duration) old (states_of F c.loop-i.tracks.items) c.loop-i.i past c.loop-i.invariant.states in
    λ limit h. subst (AreEndedBy limit) (sym is) (ends_removed c.args.start c.args.end c.args.duration limit old h)

pub returns-clause-room : goal.returns-clause-room
returns-clause-room g c = λ n h.
    room_kept g.S.FrameStore.spare n c.args.tracks.now.items c.loop-i.tracks.items (same_length g.S.FrameStore.gap c.args.tracks.now.items c.loop-i.tracks.items c.loop-i.invariant.gaps) c.loop-i.invariant.spare h
