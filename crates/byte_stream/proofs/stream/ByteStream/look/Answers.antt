use Rattle.std.proofs.Common.{◌+◌}
use Rattle.byte_stream.specs.Streams.{stream_view}
use Rattle.byte_stream.proofs.Lasting.{shows-lasting}
use Rattle.byte_stream.proofs.Timed.{timed-answer}
use Rattle.byte_stream.proofs.stream.ByteStream.look.Goals as goal

pub returns-clause-dur_not_negative : goal.returns-clause-dur_not_negative
returns-clause-dur_not_negative c = shows-lasting c.look.result (stream_view c.self.inside.parser) (λ n. n + c.args.i) c.self.invariant.stands c.look.ensures

pub returns-clause-timed : goal.returns-clause-timed
returns-clause-timed c = timed-answer c.look.result (stream_view c.self.inside.parser) (λ n. n + c.args.i) c.self.invariant.stands c.look.ensures
