use Rattle.track_store.specs.State.{states_of}
use Rattle.track_buffers.proofs.KeptTracks.{ends_kept, room_kept_by}
use Rattle.std.proofs.Common.{refl}
use Rattle.track_store.specs.Kept.{gaps_of}
use Rattle.track_buffers.proofs.Ahead.{ahead_none}
use Rattle.track_buffers.proofs.Steady.{steady_by}
use Rattle.track_buffers.proofs.buffers.TrackBuffers.evict.Goals as goal

pub returns-clause-within_duration : goal.returns-clause-within_duration
returns-clause-within_duration g c = λ moment.
    let F = g.S.FrameStore.frames in
    rw (← c.self.view_is) (ends_kept (states_of F c.self.inside.tracks.items) (states_of F c.evict.new.tracks.items) c.evict.ensures.ends moment)

pub returns-clause-no_room_lost : goal.returns-clause-no_room_lost
returns-clause-no_room_lost g c = rw (← c.self.view_is) (room_kept_by g.S.FrameStore.spare c.self.inside.tracks.items c.evict.new.tracks.items c.evict.ensures.room)

pub invariant_of-self : goal.invariant_of-self
invariant_of-self g c =
    let F = g.S.FrameStore.frames in
    let G = g.S.FrameStore.gap in
    let b = c.self.inside in
    let ts = b.tracks.items in
    let us = c.evict.new.tracks.items in
    rw c.after_change-self-inside.ensures (steady_by (states_of F ts) (states_of F us) (gaps_of G ts) (gaps_of G us) b.settings _ b.gap c.self.invariant.0 (c.evict.ensures.sound_and_countable c.self.invariant.0.sound) c.evict.ensures.gaps c.self.invariant.0.window_start refl, ahead_none g.S.FrameStore.spare us, tt, tt, c.used.ensures)
