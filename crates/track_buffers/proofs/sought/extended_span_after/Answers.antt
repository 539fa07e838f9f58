use Rattle.std.proofs.Common.{◌≡◌, ◌∙◌, ◌<ℤ◌, ◌≤ℤ◌, true, false, Some, sym, ap, subst, arith}
use Rattle.std.proofs.lemmas.Int.{ints}
use Rattle.mse_base.specs.declared.span.Span.{Span}
use Rattle.mse_base.specs.Spans.{has_end_after}
use Rattle.track_store.specs.Frames.{ranges_of}
use Rattle.track_buffers.proofs.SharedRanges.{track_normalized}
use Rattle.track_buffers.proofs.FirstAndLastRange.{IsNotBefore, found_early, found_or_last, late_found, none_extended, not_before_last}
use Rattle.track_buffers.proofs.sought.extended_span_after.Goals as goal

pub returns-then-lt : goal.returns-then-lt
returns-then-lt g c =
    let ss = ranges_of (g.S.FrameStore.gap c.args.track.now.store) (g.S.FrameStore.frames c.args.track.now.store) in
    let early : c.unwrap_or-span.result.start <ℤ c.in-Some.last.start = grind (arith, ints, c.lt.ensures, c.if-lt.true) in
    let found = found_or_last c.first_span_after.result c.unwrap_or-span.result c.in-Some.last c.unwrap_or-span.ensures early in
    sym (found_early c.args.t c.args.end c.unwrap_or-span.result c.in-Some.last ss (sym c.in-Some.ensures) (sym c.first_span_after.ensures ∙ found) early)

pub returns-then-lt-2 : goal.returns-then-lt-2
returns-then-lt-2 g c =
    let ss = ranges_of (g.S.FrameStore.gap c.args.track.now.store) (g.S.FrameStore.frames c.args.track.now.store) in
    let late : c.in-Some.last.start ≤ℤ c.unwrap_or-span.result.start = grind (arith, ints, c.lt.ensures, c.if-lt.false) in
    let ends : has_end_after c.args.t c.span_up_to-span.result ≡ true = grind (arith, ints, c.lt-2.ensures, c.if-lt-2.true) in
    let not_before = subst (IsNotBefore c.in-Some.last.start) c.first_span_after.ensures (not_before_last c.first_span_after.result c.unwrap_or-span.result c.in-Some.last c.unwrap_or-span.ensures late) in
    ap Some c.span_up_to-span.ensures ∙ late_found c.args.t c.args.end c.in-Some.last ss true (track_normalized (g.S.FrameStore.gap c.args.track.now.store) (g.S.FrameStore.frames c.args.track.now.store) c.requires) (sym c.in-Some.ensures) not_before (subst (λ (s : Span). has_end_after c.args.t s ≡ true) c.span_up_to-span.ensures ends)

pub returns-else-lt-2 : goal.returns-else-lt-2
returns-else-lt-2 g c =
    let ss = ranges_of (g.S.FrameStore.gap c.args.track.now.store) (g.S.FrameStore.frames c.args.track.now.store) in
    let late : c.in-Some.last.start ≤ℤ c.unwrap_or-span.result.start = grind (arith, ints, c.lt.ensures, c.if-lt.false) in
    let ends : has_end_after c.args.t c.span_up_to-span.result ≡ false = grind (arith, ints, c.lt-2.ensures, c.if-lt-2.false) in
    let not_before = subst (IsNotBefore c.in-Some.last.start) c.first_span_after.ensures (not_before_last c.first_span_after.result c.unwrap_or-span.result c.in-Some.last c.unwrap_or-span.ensures late) in
    late_found c.args.t c.args.end c.in-Some.last ss false (track_normalized (g.S.FrameStore.gap c.args.track.now.store) (g.S.FrameStore.frames c.args.track.now.store) c.requires) (sym c.in-Some.ensures) not_before (subst (λ (s : Span). has_end_after c.args.t s ≡ false) c.span_up_to-span.ensures ends)

pub returns-in_default : goal.returns-in_default
returns-in_default g c =
    none_extended c.args.t c.args.end (ranges_of (g.S.FrameStore.gap c.args.track.now.store) (g.S.FrameStore.frames c.args.track.now.store)) (sym c.in_default.ensures)
