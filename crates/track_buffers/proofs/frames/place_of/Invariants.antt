use Rattle.std.proofs.Common.{◌≤◌}
use Rattle.std.specs.List.{position_or_len}
use Rattle.track_store.specs.State.{states_of}
use Rattle.track_buffers.specs.Frames.{has_number}
use Rattle.track_buffers.proofs.frames.place_of.Given as goal

abbrev pub invariant-loop-i : goal.invariant-loop-i
invariant-loop-i g l = l.i ≤ position_or_len (has_number l.id) (states_of g.S.FrameStore.frames l.tracks.items)
