use Rattle.std.proofs.Common.{◌∙◌, sym, subst, List}
use Rattle.track_store.specs.Kept.{AreSoundAndCountable, AreEndedBy, AreStillSound}
use Rattle.track_store.specs.State.{TrackState, states_of}
use Rattle.range_removal.proofs.Rooms.{keeps_both, room_kept, same_length}
use Rattle.track_store.proofs.StillSound.{still_same}
use Rattle.eviction.proofs.Evictions.{still_evicted, evicted_is, kept_evicted, ends_evicted}
use Rattle.eviction.proofs.eviction.evict.Goals as goal

pub returns-clause-states : goal.returns-clause-states
returns-clause-states g c =
    let F = g.S.FrameStore.frames in
    let ts = states_of F c.args.tracks.now.items in
    let full = sym c.if-is_below_quota.false ∙ c.is_below_quota.ensures in
    evicted_is c.args.position c.args.new_bytes c.args.quota c.lead_of-lead.result c.args.duration ts (states_of F c.evict_before.new.tracks.items) (states_of F c.evict_after.new.tracks.items) full c.lead_of-lead.ensures c.evict_before.ensures.states c.evict_before.ensures.later c.evict_after.ensures.states

pub returns-then-is_below_quota-clause-sound : goal.returns-then-is_below_quota-clause-sound
returns-then-is_below_quota-clause-sound g c = still_same (states_of g.S.FrameStore.frames c.args.tracks.now.items)

pub returns-clause-sound : goal.returns-clause-sound
returns-clause-sound g c = subst (λ (us : List TrackState). AreStillSound (states_of g.S.FrameStore.frames c.args.tracks.now.items) us) (sym (returns-clause-states g c)) (still_evicted c.args.position c.args.new_bytes c.args.quota c.args.duration (states_of g.S.FrameStore.frames c.args.tracks.now.items))

pub returns-clause-sound_and_countable : goal.returns-clause-sound_and_countable
returns-clause-sound_and_countable g c = λ h. subst AreSoundAndCountable (sym (returns-clause-states g c)) (kept_evicted c.args.position c.args.new_bytes c.args.quota c.args.duration (states_of g.S.FrameStore.frames c.args.tracks.now.items) h)

pub returns-clause-ends : goal.returns-clause-ends
returns-clause-ends g c = λ limit h. subst (AreEndedBy limit) (sym (returns-clause-states g c)) (ends_evicted c.args.position c.args.new_bytes c.args.quota c.args.duration limit (states_of g.S.FrameStore.frames c.args.tracks.now.items) h)

pub returns-clause-no_room_lost : goal.returns-clause-no_room_lost
returns-clause-no_room_lost g c = keeps_both g.S.FrameStore.spare g.S.FrameStore.gap c.args.tracks.now.items c.evict_before.new.tracks.items c.evict_after.new.tracks.items c.evict_after.ensures.gaps c.evict_before.ensures.no_room_lost c.evict_after.ensures.no_room_lost

pub returns-clause-room : goal.returns-clause-room
returns-clause-room g c = λ n h.
    room_kept g.S.FrameStore.spare n c.args.tracks.now.items c.evict_after.new.tracks.items
    (same_length g.S.FrameStore.gap c.args.tracks.now.items c.evict_after.new.tracks.items (c.evict_after.ensures.gaps ∙ c.evict_before.ensures.gaps))
    (keeps_both g.S.FrameStore.spare g.S.FrameStore.gap c.args.tracks.now.items c.evict_before.new.tracks.items c.evict_after.new.tracks.items c.evict_after.ensures.gaps c.evict_before.ensures.no_room_lost c.evict_after.ensures.no_room_lost) h
