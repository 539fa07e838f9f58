use Rattle.live_session.proofs.DrainLines.{drain_lines}
use Rattle.live_session.proofs.NextLines.{behind_drain, next_lines_drain}
use Rattle.live_session.proofs.laws.steps_of_a_drain.Goals as goal

pub returns-clause-ends : goal.returns-clause-ends
returns-clause-ends c = λ blobs st.
    let d = drain_lines blobs st in
    (d.lines, d.next)

pub returns-clause-entries : goal.returns-clause-entries
returns-clause-entries c = λ blobs st lines all. next_lines_drain blobs st lines all

pub returns-clause-state : goal.returns-clause-state
returns-clause-state c = λ blobs st lines all. behind_drain blobs st lines all
