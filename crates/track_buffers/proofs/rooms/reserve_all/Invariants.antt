use Rattle.std.proofs.Common.{◌≡◌, length, take}
use Rattle.range_removal.specs.Rooms.{IsRoomKept}
use Rattle.track_store.specs.Kept.{HasSpareRoom, gaps_of}
use Rattle.track_store.specs.State.{states_of}
use Rattle.track_buffers.proofs.rooms.reserve_all.Given as goal

abbrev pub invariant-loop-i : goal.invariant-loop-i
invariant-loop-i g l = record {
  states : states_of g.S.FrameStore.frames l.tracks.items ≡ states_of g.S.FrameStore.frames l.initial.tracks.items;
  roomy : HasSpareRoom g.S.FrameStore.spare l.n (take l.i l.tracks.items);
  spare : IsRoomKept g.S.FrameStore.spare l.initial.tracks.items l.tracks.items;
  gaps : gaps_of g.S.FrameStore.gap l.tracks.items ≡ gaps_of g.S.FrameStore.gap l.initial.tracks.items;
  places : l.tracks.spare ≡ l.initial.tracks.spare;
  end : l.i-end ≡ length l.initial.tracks.items;
}
