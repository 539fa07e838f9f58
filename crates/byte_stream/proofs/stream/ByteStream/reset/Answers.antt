use Rattle.byte_stream.specs.Streams.{stream_view}
use Rattle.byte_stream.proofs.Resets.{from-latest}
use Rattle.byte_stream.proofs.stream.ByteStream.reset.Goals as goal

pub returns-clause-stands_from : goal.returns-clause-stands_from
returns-clause-stands_from c = rw (← c.self.view_is) (λ r h. from-latest (stream_view c.self.inside.parser) (stream_view c.reset.new.self) c.reset.ensures.stands r h)
