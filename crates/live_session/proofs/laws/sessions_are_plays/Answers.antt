use Rattle.live_session.proofs.PlayedSessions.{session_closed, session_forgotten, session_given, session_opened, session_stepped}
use Rattle.live_session.proofs.laws.sessions_are_plays.Goals as goal

pub returns-clause-opened : goal.returns-clause-opened
returns-clause-opened c = λ script s none stands blobs. session_opened script s none stands blobs

pub returns-clause-given : goal.returns-clause-given
returns-clause-given c = λ script blobs lines bytes s p. session_given script blobs lines bytes s p

pub returns-clause-forgotten : goal.returns-clause-forgotten
returns-clause-forgotten c = λ script blobs lines n s p. session_forgotten script blobs lines n s p

pub returns-clause-stepped : goal.returns-clause-stepped
returns-clause-stepped c = λ script blobs lines line refused old new before now p has d.
    session_stepped script blobs lines line refused old new before now p has d

pub returns-clause-closed : goal.returns-clause-closed
returns-clause-closed c = λ n files words script blobs lines s p is none.
    session_closed n files words script blobs lines s p is none
