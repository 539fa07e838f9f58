use Rattle.parser_loop.specs.Items.{answer_item}
use Rattle.byte_stream.specs.declared.next.ByteFault.TheVariants.{Segments, Frames}
use Rattle.byte_stream.proofs.ParserCalls.{seen-segments, seen-frames, behind-segments, behind-frames, dry-segments, dry-frames, latest-segments-next, latest-frames-next}
use Rattle.byte_stream.proofs.parser.Parser.next.Goals as goal

pub returns-in_ok-next-in-Segments-clause-item : goal.returns-in_ok-next-in-Segments-clause-item
returns-in_ok-next-in-Segments-clause-item c =
    let next = c.in_ok-next-in-Segments in
    rw c.in-Segments.is (seen-segments c.in-Segments.stream (answer_item next.field-0) (answer_item c.with_fault.result) (λ n. n) (c.with_fault.ensures (λ f. Segments f) (λ f y p. p)) next.ensures.item)

pub returns-in_ok-next-in-Segments-clause-stands : goal.returns-in_ok-next-in-Segments-clause-stands
returns-in_ok-next-in-Segments-clause-stands c =
    let next = c.in_ok-next-in-Segments in
    rw c.in-Segments.is (behind-segments c.in-Segments.stream c.next.new.self (answer_item next.field-0) (answer_item c.with_fault.result) (c.with_fault.ensures (λ f. Segments f) (λ f y p. p)) next.ensures.fed next.ensures.stands)

pub returns-in_ok-next-in-Frames-clause-item : goal.returns-in_ok-next-in-Frames-clause-item
returns-in_ok-next-in-Frames-clause-item c =
    let next = c.in_ok-next-in-Frames in
    rw c.in-Frames.is (seen-frames c.in-Frames.stream (answer_item next.field-0) (answer_item c.with_fault-in-Frames.result) (λ n. n) (c.with_fault-in-Frames.ensures (λ f. Frames f) (λ f y p. p)) next.ensures.item)

pub returns-in_ok-next-in-Frames-clause-stands : goal.returns-in_ok-next-in-Frames-clause-stands
returns-in_ok-next-in-Frames-clause-stands c =
    let next = c.in_ok-next-in-Frames in
    rw c.in-Frames.is (behind-frames c.in-Frames.stream c.next-in-Frames.new.self (answer_item next.field-0) (answer_item c.with_fault-in-Frames.result) (c.with_fault-in-Frames.ensures (λ f. Frames f) (λ f y p. p)) next.ensures.fed next.ensures.stands)

pub returns-in_ok-next-in-Segments-clause-latest : goal.returns-in_ok-next-in-Segments-clause-latest
returns-in_ok-next-in-Segments-clause-latest c =
    let next = c.in_ok-next-in-Segments in
    rw c.in-Segments.is (latest-segments-next c.in-Segments.stream c.next.new.self (answer_item next.field-0) (answer_item c.with_fault.result) (c.with_fault.ensures (λ f. Segments f) (λ f y p. p)) next.ensures.last)

pub returns-in_ok-next-in-Segments-clause-dry : goal.returns-in_ok-next-in-Segments-clause-dry
returns-in_ok-next-in-Segments-clause-dry c =
    let next = c.in_ok-next-in-Segments in
    rw c.in-Segments.is (dry-segments c.in-Segments.stream c.next.new.self (answer_item next.field-0) (answer_item c.with_fault.result) (c.with_fault.ensures (λ f. Segments f) (λ f y p. p)) next.ensures.dry)

pub returns-in_ok-next-in-Frames-clause-latest : goal.returns-in_ok-next-in-Frames-clause-latest
returns-in_ok-next-in-Frames-clause-latest c =
    let next = c.in_ok-next-in-Frames in
    rw c.in-Frames.is (latest-frames-next c.in-Frames.stream c.next-in-Frames.new.self (answer_item next.field-0) (answer_item c.with_fault-in-Frames.result) (c.with_fault-in-Frames.ensures (λ f. Frames f) (λ f y p. p)) next.ensures.last)

pub returns-in_ok-next-in-Frames-clause-dry : goal.returns-in_ok-next-in-Frames-clause-dry
returns-in_ok-next-in-Frames-clause-dry c =
    let next = c.in_ok-next-in-Frames in
    rw c.in-Frames.is (dry-frames c.in-Frames.stream c.next-in-Frames.new.self (answer_item next.field-0) (answer_item c.with_fault-in-Frames.result) (c.with_fault-in-Frames.ensures (λ f. Frames f) (λ f y p. p)) next.ensures.dry)
