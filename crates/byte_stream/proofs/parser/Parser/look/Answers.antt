use Rattle.std.proofs.Common.{◌+◌}
use Rattle.parser_loop.specs.Items.{answer_item}
use Rattle.byte_stream.specs.declared.next.ByteFault.TheVariants.{Segments, Frames}
use Rattle.byte_stream.proofs.ParserCalls.{seen-segments, seen-frames}
use Rattle.byte_stream.proofs.parser.Parser.look.Goals as goal

pub returns-in_ok-look-in-Segments : goal.returns-in_ok-look-in-Segments
returns-in_ok-look-in-Segments c =
    let next = c.in_ok-look-in-Segments in
    rw c.in-Segments.is (seen-segments c.in-Segments.stream (answer_item next.field-0) (answer_item c.with_fault.result) (λ n. n + c.args.i) (c.with_fault.ensures (λ f. Segments f) (λ f y p. p)) next.ensures.item)

pub returns-in_ok-look-in-Frames : goal.returns-in_ok-look-in-Frames
returns-in_ok-look-in-Frames c =
    let next = c.in_ok-look-in-Frames in
    rw c.in-Frames.is (seen-frames c.in-Frames.stream (answer_item next.field-0) (answer_item c.with_fault-in-Frames.result) (λ n. n + c.args.i) (c.with_fault-in-Frames.ensures (λ f. Frames f) (λ f y p. p)) next.ensures.item)
