use Rattle.std.proofs.Common.{◌≡◌, length, filter, int_lt}
use Rattle.track_store.specs.Kept.{gaps_of}
use Rattle.track_store.specs.State.{states_of}
use Rattle.range_removal.specs.Rooms.{IsRoomKept}
use Rattle.eviction.specs.Evicting.{first_of, is_up_to_position, removal_ranges, tracks_while_full}
use Rattle.eviction.specs.Steps.{left_before, tracks_without_left, times_at, times_from}
use Rattle.eviction.proofs.eviction.evict_before.Given as goal

abbrev pub invariant-loop-next : goal.invariant-loop-next
invariant-loop-next g l = record {
  states : tracks_without_left l.need l.duration (left_before l.position l.lead l.duration l.next) (states_of g.S.FrameStore.frames l.tracks.items)
      ≡ tracks_while_full l.need.new_bytes l.need.quota l.duration (filter (is_up_to_position l.position) (removal_ranges l.duration (times_at l.lead (states_of g.S.FrameStore.frames l.initial.tracks.items)))) (states_of g.S.FrameStore.frames l.initial.tracks.items);
  first : first_of (times_from l.next (times_at l.lead (states_of g.S.FrameStore.frames l.tracks.items))) ≡ l.next;
  later : filter (int_lt l.position) (times_at l.lead (states_of g.S.FrameStore.frames l.tracks.items)) ≡ filter (int_lt l.position) (times_at l.lead (states_of g.S.FrameStore.frames l.initial.tracks.items));
  spare : IsRoomKept g.S.FrameStore.spare l.initial.tracks.items l.tracks.items;
  gaps : gaps_of g.S.FrameStore.gap l.tracks.items ≡ gaps_of g.S.FrameStore.gap l.initial.tracks.items;
  places : l.tracks.spare ≡ l.initial.tracks.spare;
}

abbrev pub decreases-loop-next : goal.decreases-loop-next
decreases-loop-next g l = length (times_from l.next (times_at l.lead (states_of g.S.FrameStore.frames l.tracks.items)))
