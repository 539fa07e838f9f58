use Rattle.std.proofs.Common.{◌≡◌, None, length}
use Rattle.track_store.specs.Kept.{gaps_of}
use Rattle.track_store.specs.State.{states_of}
use Rattle.range_removal.specs.Rooms.{IsRoomKept}
use Rattle.eviction.specs.Steps.{left_after, tracks_without_left, times_at, times_between}
use Rattle.eviction.proofs.eviction.evict_after.Given as goal

abbrev pub invariant-loop-start : goal.invariant-loop-start
invariant-loop-start g l = record {
  states : tracks_without_left l.need l.duration (left_after l.position l.lead l.duration l.next) (states_of g.S.FrameStore.frames l.tracks.items)
      ≡ tracks_without_left l.need l.duration (left_after l.position l.lead l.duration None) (states_of g.S.FrameStore.frames l.initial.tracks.items);
  spare : IsRoomKept g.S.FrameStore.spare l.initial.tracks.items l.tracks.items;
  gaps : gaps_of g.S.FrameStore.gap l.tracks.items ≡ gaps_of g.S.FrameStore.gap l.initial.tracks.items;
  places : l.tracks.spare ≡ l.initial.tracks.spare;
}

abbrev pub decreases-loop-start : goal.decreases-loop-start
decreases-loop-start g l = length (times_between l.position l.next (times_at l.lead (states_of g.S.FrameStore.frames l.tracks.items)))
