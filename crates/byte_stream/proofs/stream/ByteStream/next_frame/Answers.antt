use Rattle.byte_stream.specs.Streams.{stream_view}
use Rattle.byte_stream.proofs.ReadyFrames.{frame-lasts}
use Rattle.byte_stream.proofs.stream.ByteStream.next_frame.Goals as goal

pub returns-clause-dur_not_negative : goal.returns-clause-dur_not_negative
returns-clause-dur_not_negative c = frame-lasts c.next_frame.result (stream_view c.self.inside.parser) c.self.invariant.stands c.next_frame.ensures.item
