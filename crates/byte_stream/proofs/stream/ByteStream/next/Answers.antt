use Rattle.byte_stream.specs.Streams.{stream_view}
use Rattle.byte_stream.proofs.Lasting.{shows-lasting}
use Rattle.byte_stream.proofs.Timed.{timed-answer}
use Rattle.byte_stream.proofs.stream.ByteStream.next.Goals as goal

pub returns-clause-dur_not_negative : goal.returns-clause-dur_not_negative
returns-clause-dur_not_negative c = shows-lasting c.next.result (stream_view c.self.inside.parser) (λ n. n) c.self.invariant.stands c.next.ensures.item

pub returns-clause-timed : goal.returns-clause-timed
returns-clause-timed c = timed-answer c.next.result (stream_view c.self.inside.parser) (λ n. n) c.self.invariant.stands c.next.ensures.item
