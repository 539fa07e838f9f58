use Rattle.byte_stream.proofs.ParserCalls.{accept-segments, accept-frames}
use Rattle.byte_stream.proofs.parser.Parser.accept.Goals as goal

pub returns-in-Segments-clause-stands : goal.returns-in-Segments-clause-stands
returns-in-Segments-clause-stands c = rw c.in-Segments.is (accept-segments c.in-Segments.stream c.accept.new.self c.accept.ensures.stands c.accept.ensures.fed)

pub returns-in-Frames-clause-stands : goal.returns-in-Frames-clause-stands
returns-in-Frames-clause-stands c = rw c.in-Frames.is (accept-frames c.in-Frames.stream c.accept-in-Frames.new.self c.accept-in-Frames.ensures.stands c.accept-in-Frames.ensures.fed)
