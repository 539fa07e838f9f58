use Rattle.buffer_state.proofs.TrackNumbers.{made, call_keeps, end_keeps, turn_keeps}
use Rattle.buffer_state.proofs.FrameTracks.{frame_finds}
use Rattle.buffer_state.proofs.laws.frames_find_their_buffers.Goals as goal

pub returns : goal.returns
returns c = record {
  made = made;
  call = call_keeps;
  end_work = end_keeps;
  turn = turn_keeps;
  found = frame_finds;
}
