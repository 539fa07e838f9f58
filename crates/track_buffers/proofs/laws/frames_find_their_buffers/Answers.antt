use Rattle.track_buffers.proofs.InitTracks.{buffers_found, buffers_kept, numbers_apart, frame_found}
use Rattle.track_buffers.proofs.laws.frames_find_their_buffers.Goals as goal

pub returns-clause-found : goal.returns-clause-found
returns-clause-found c = buffers_found

pub returns-clause-apart : goal.returns-clause-apart
returns-clause-apart c = numbers_apart

pub returns-clause-kept : goal.returns-clause-kept
returns-clause-kept c = buffers_kept

pub returns-clause-frame : goal.returns-clause-frame
returns-clause-frame c = frame_found
