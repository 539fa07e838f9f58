use Rattle.std.proofs.Common.{sym}
use Rattle.live_session.proofs.OwnBytes.{line_refusal_same, line_state_same, line_texts_same}
use Rattle.live_session.proofs.laws.own_bytes.Goals as goal

pub returns-clause-lines : goal.returns-clause-lines
returns-clause-lines c = λ blobs others line st same. sym (line_texts_same blobs others line st same)

pub returns-clause-state : goal.returns-clause-state
returns-clause-state c = λ blobs others line st same. sym (line_state_same blobs others line st same)

pub returns-clause-refusal : goal.returns-clause-refusal
returns-clause-refusal c = λ blobs others line st same. sym (line_refusal_same blobs others line st same)
