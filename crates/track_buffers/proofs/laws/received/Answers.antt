use Rattle.track_buffers.proofs.Received.{init_leaves, done_received, fault_not_received, frame_not_received}
use Rattle.track_buffers.proofs.laws.received.Goals as goal

pub returns-clause-leaves : goal.returns-clause-leaves
returns-clause-leaves c = init_leaves

pub returns-clause-done : goal.returns-clause-done
returns-clause-done c = done_received

pub returns-clause-refused : goal.returns-clause-refused
returns-clause-refused c = fault_not_received

pub returns-clause-frame : goal.returns-clause-frame
returns-clause-frame c = frame_not_received
