use Rattle.std.proofs.Common.{◌≡◌, ◌++◌, length, map, take, drop}
use Rattle.range_removal.specs.Rooms.{IsRoomKept}
use Rattle.track_store.specs.Kept.{gaps_of}
use Rattle.track_store.specs.State.{states_of}
use Rattle.track_buffers.specs.Frames.{unset_track}
use Rattle.track_buffers.proofs.frames.unset_all.Given as goal

abbrev pub invariant-loop-i : goal.invariant-loop-i
invariant-loop-i g l = record {
  states : states_of g.S.FrameStore.frames l.tracks.items ≡ map unset_track (take l.i (states_of g.S.FrameStore.frames l.initial.tracks.items)) ++ drop l.i (states_of g.S.FrameStore.frames l.initial.tracks.items);
  spare : IsRoomKept g.S.FrameStore.spare l.initial.tracks.items l.tracks.items;
  gaps : gaps_of g.S.FrameStore.gap l.tracks.items ≡ gaps_of g.S.FrameStore.gap l.initial.tracks.items;
  places : l.tracks.spare ≡ l.initial.tracks.spare;
  end : l.i-end ≡ length l.initial.tracks.items;
}
