use Rattle.live_session.proofs.MoreSteps.{later_lines, later_state}
use Rattle.live_session.proofs.laws.later_bytes.Goals as goal

pub returns-clause-lines : goal.returns-clause-lines
returns-clause-lines c = λ script blobs more all. later_lines script blobs more all

pub returns-clause-state : goal.returns-clause-state
returns-clause-state c = λ script blobs more all. later_state script blobs more all
