use Rattle.std.proofs.Common.{◌∙◌, ◌<ℤ◌, ◌≤ℤ◌, sym, arith, true}
use Rattle.std.proofs.lemmas.Int.{ints}
use Rattle.track_buffers.specs.Buffered.{buffered_of}
use Rattle.track_buffers.proofs.SharedRanges.{buffered_is}
use Rattle.track_buffers.proofs.Lookups.{found_before, last_holds, last_misses, none_holds}
use Rattle.source_buffers.proofs.element.ended_span_holding.Goals as goal

pub returns-then-lt : goal.returns-then-lt
returns-then-lt g c =
    let ss = buffered_of true c.args.buffer.now.media in
    let before : c.args.t <ℤ c.in-Some.last.start = grind (arith, ints, c.lt.ensures, c.if-lt.true) in
    c.span_holding.ensures ∙ found_before c.args.t c.args.end c.in-Some.last ss (sym c.last_span.ensures ∙ c.in-Some.is) before

pub returns-then-lt-2 : goal.returns-then-lt-2
returns-then-lt-2 g c =
    let m = c.args.buffer.now.media in
    let from : c.in-Some.last.start ≤ℤ c.args.t = grind (arith, ints, c.lt.ensures, c.if-lt.false) in
    let past : c.span_up_to-span.result.end <ℤ c.args.t = grind (arith, ints, c.lt-in-Some.ensures, c.if-lt-2.true) in
    last_misses c.args.t c.args.end c.in-Some.last c.span_up_to-span.result (buffered_of true m) (buffered_is true m c.sound.ensures.gap_from_zero).normalized (sym c.last_span.ensures ∙ c.in-Some.is) from c.span_up_to-span.ensures past

pub returns-else-lt-2 : goal.returns-else-lt-2
returns-else-lt-2 g c =
    let m = c.args.buffer.now.media in
    let from : c.in-Some.last.start ≤ℤ c.args.t = grind (arith, ints, c.lt.ensures, c.if-lt.false) in
    let within : c.args.t ≤ℤ c.span_up_to-span.result.end = grind (arith, ints, c.lt-in-Some.ensures, c.if-lt-2.false) in
    last_holds c.args.t c.args.end c.in-Some.last c.span_up_to-span.result (buffered_of true m) (buffered_is true m c.sound.ensures.gap_from_zero).normalized (sym c.last_span.ensures ∙ c.in-Some.is) from c.span_up_to-span.ensures within

pub returns-in-None : goal.returns-in-None
returns-in-None g c = none_holds c.args.t c.args.end (buffered_of true c.args.buffer.now.media) (sym c.last_span.ensures ∙ c.in-None.is)
