use Rattle.byte_stream.proofs.ParserCalls.{reset-segments, reset-frames}
use Rattle.byte_stream.proofs.parser.Parser.reset.Goals as goal

pub returns-in-Segments-clause-stands : goal.returns-in-Segments-clause-stands
returns-in-Segments-clause-stands c = rw c.in-Segments.is (reset-segments c.in-Segments.stream c.reset.new.self c.reset.ensures.latest c.reset.ensures.fed)

pub returns-in-Frames-clause-stands : goal.returns-in-Frames-clause-stands
returns-in-Frames-clause-stands c = rw c.in-Frames.is (reset-frames c.in-Frames.stream c.reset-in-Frames.new.self c.reset-in-Frames.ensures.latest c.reset-in-Frames.ensures.fed)
