use Rattle.std.proofs.Common.{refl, subst, sym, List}
use Rattle.track_store.specs.State.{TrackState, states_of}
use Rattle.track_buffers.specs.Media.{AreEndedWithin}
use Rattle.track_buffers.proofs.KeptTracks.{ends_unset, room_kept_by}
use Rattle.track_store.specs.Kept.{gaps_of}
use Rattle.track_buffers.proofs.Ahead.{ahead_none}
use Rattle.track_buffers.proofs.Steady.{steady_by}
use Rattle.track_buffers.proofs.buffers.TrackBuffers.reset_parser.Goals as goal

pub returns-then-self-clause-within_duration : goal.returns-then-self-clause-within_duration
returns-then-self-clause-within_duration g c = λ d.
    let F = g.S.FrameStore.frames in
    rw (← c.self.view_is) (λ h. subst (λ (ts : List TrackState). AreEndedWithin d ts) (sym c.unset_all.ensures.states) (ends_unset d (states_of F c.self.inside.tracks.items) h))

pub returns-else-self-clause-within_duration : goal.returns-else-self-clause-within_duration
returns-else-self-clause-within_duration g c = λ d.
    let F = g.S.FrameStore.frames in
    rw (← c.self.view_is) (λ h. subst (λ (ts : List TrackState). AreEndedWithin d ts) (sym c.unset_all.ensures.states) (ends_unset d (states_of F c.self.inside.tracks.items) h))

pub returns-then-self-clause-no_room_lost : goal.returns-then-self-clause-no_room_lost
returns-then-self-clause-no_room_lost g c = rw (← c.self.view_is) (room_kept_by g.S.FrameStore.spare c.self.inside.tracks.items c.unset_all.new.tracks.items c.unset_all.ensures.room)

pub returns-else-self-clause-no_room_lost : goal.returns-else-self-clause-no_room_lost
returns-else-self-clause-no_room_lost g c = rw (← c.self.view_is) (room_kept_by g.S.FrameStore.spare c.self.inside.tracks.items c.unset_all.new.tracks.items c.unset_all.ensures.room)

pub invariant_of-self : goal.invariant_of-self
invariant_of-self g c =
    let F = g.S.FrameStore.frames in
    let G = g.S.FrameStore.gap in
    let b = c.self.inside in
    let ts = b.tracks.items in
    let us = c.unset_all.new.tracks.items in
    rw c.after_change-self-inside.ensures (steady_by (states_of F ts) (states_of F us) (gaps_of G ts) (gaps_of G us) b.settings _ b.gap c.self.invariant.0 (c.unset_all.ensures.sound_and_countable c.self.invariant.0.sound) c.unset_all.ensures.gaps c.self.invariant.0.window_start refl, ahead_none g.S.FrameStore.spare us, tt, tt, c.used.ensures)

pub invariant_of-self-else-self : goal.invariant_of-self-else-self
invariant_of-self-else-self g c =
    let F = g.S.FrameStore.frames in
    let G = g.S.FrameStore.gap in
    let b = c.self.inside in
    let ts = b.tracks.items in
    let us = c.unset_all.new.tracks.items in
    rw c.after_change-self-inside.ensures (steady_by (states_of F ts) (states_of F us) (gaps_of G ts) (gaps_of G us) b.settings _ b.gap c.self.invariant.0 (c.unset_all.ensures.sound_and_countable c.self.invariant.0.sound) c.unset_all.ensures.gaps c.self.invariant.0.window_start refl, ahead_none g.S.FrameStore.spare us, tt, tt, c.used.ensures)
