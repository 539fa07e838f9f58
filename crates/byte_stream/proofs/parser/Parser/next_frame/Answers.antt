use Rattle.std.proofs.Common.{Some, refl}
use Rattle.std.specs.Option.{option_map}
use Rattle.parser_loop.specs.Items.{FrameItem, answer_item}
use Rattle.byte_stream.specs.declared.parser.Parser.TheVariants as parser
use Rattle.byte_stream.specs.Readings.{of_frames}
use Rattle.byte_stream.specs.Streams.{stream_view}
use Rattle.byte_stream.proofs.ParserCalls.{frame-in-segments, frame-behind-segments, seen-frames, behind-frames, latest-frames-next}
use Rattle.byte_stream.proofs.ReadyFrames.{next-frame, no-frame}
use Rattle.byte_stream.proofs.parser.Parser.next_frame.Goals as goal

pub returns-in-Segments-clause-item : goal.returns-in-Segments-clause-item
returns-in-Segments-clause-item c = rw c.in-Segments.is (frame-in-segments c.next_frame.result c.in-Segments.stream c.next_frame.ensures.item)

pub returns-in-Segments-clause-stands : goal.returns-in-Segments-clause-stands
returns-in-Segments-clause-stands c = rw c.in-Segments.is (frame-behind-segments c.next_frame.result c.in-Segments.stream c.next_frame.new.self c.next_frame.ensures.fed c.next_frame.ensures.stands)

pub returns-in-Frame-clause-item : goal.returns-in-Frame-clause-item
returns-in-Frame-clause-item c =
    let next = c.in_ok-frame-in-Frames in
    rw c.in-Frames.is (seen-frames c.in-Frames.stream (answer_item next.field-0) (Some (FrameItem c.in-Frame.frame c.in-Frame.offset)) (λ n. n) (rw c.in-Frame.is refl) next.ensures.item)

pub returns-in-Frame-clause-stands : goal.returns-in-Frame-clause-stands
returns-in-Frame-clause-stands c =
    let next = c.in_ok-frame-in-Frames in
    rw c.in-Frames.is (behind-frames c.in-Frames.stream c.next.new.self (answer_item next.field-0) (Some (FrameItem c.in-Frame.frame c.in-Frame.offset)) (rw c.in-Frame.is refl) next.ensures.fed next.ensures.stands)

pub returns-in-Frame-clause-latest : goal.returns-in-Frame-clause-latest
returns-in-Frame-clause-latest c =
    let next = c.in_ok-frame-in-Frames in
    rw c.in-Frames.is (latest-frames-next c.in-Frames.stream c.next.new.self (answer_item next.field-0) (Some (FrameItem c.in-Frame.frame c.in-Frame.offset)) (rw c.in-Frame.is refl) next.ensures.last)

-- a frame is ready, so the stream gives one
pub unreachable-requires : goal.unreachable-requires
unreachable-requires c =
    let next = c.in_ok-frame-in-Frames in
    let s = c.in-Frames.stream in
    let ready = rw c.in-Frames.is at c.requires.ready in
    let stands = rw c.in-Frames.is at c.requires.stands in
    no-frame next.field-0 c.in_default.not-Frame (next-frame (stream_view (parser.Frames s)) (option_map of_frames (answer_item next.field-0)) ready stands (seen-frames s (answer_item next.field-0) (option_map of_frames (answer_item next.field-0)) (λ n. n) refl next.ensures.item))
