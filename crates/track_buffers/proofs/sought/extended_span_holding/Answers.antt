use Rattle.std.proofs.Common.{◌∙◌, ◌<ℤ◌, ◌≤ℤ◌, sym, arith}
use Rattle.std.proofs.lemmas.Int.{ints}
use Rattle.track_store.specs.Frames.{ranges_of}
use Rattle.track_buffers.proofs.SharedRanges.{track_normalized}
use Rattle.track_buffers.proofs.Lookups.{found_before, last_holds, last_misses, none_holds}
use Rattle.track_buffers.proofs.sought.extended_span_holding.Goals as goal

pub returns-then-lt : goal.returns-then-lt
returns-then-lt g c =
    let ss = ranges_of (g.S.FrameStore.gap c.args.track.now.store) (g.S.FrameStore.frames c.args.track.now.store) in
    let before : c.args.t <ℤ c.in-Some.last.start = grind (arith, ints, c.lt.ensures, c.if-lt.true) in
    c.span_holding.ensures ∙ found_before c.args.t c.args.end c.in-Some.last ss (sym c.in-Some.ensures) before

pub returns-then-lt-2 : goal.returns-then-lt-2
returns-then-lt-2 g c =
    let ss = ranges_of (g.S.FrameStore.gap c.args.track.now.store) (g.S.FrameStore.frames c.args.track.now.store) in
    let from : c.in-Some.last.start ≤ℤ c.args.t = grind (arith, ints, c.lt.ensures, c.if-lt.false) in
    let past : c.span_up_to-extended.result.end <ℤ c.args.t = grind (arith, ints, c.lt-2.ensures, c.if-lt-2.true) in
    last_misses c.args.t c.args.end c.in-Some.last c.span_up_to-extended.result ss (track_normalized (g.S.FrameStore.gap c.args.track.now.store) (g.S.FrameStore.frames c.args.track.now.store) c.requires) (sym c.in-Some.ensures) from c.span_up_to-extended.ensures past

pub returns-else-lt-2 : goal.returns-else-lt-2
returns-else-lt-2 g c =
    let ss = ranges_of (g.S.FrameStore.gap c.args.track.now.store) (g.S.FrameStore.frames c.args.track.now.store) in
    let from : c.in-Some.last.start ≤ℤ c.args.t = grind (arith, ints, c.lt.ensures, c.if-lt.false) in
    let within : c.args.t ≤ℤ c.span_up_to-extended.result.end = grind (arith, ints, c.lt-2.ensures, c.if-lt-2.false) in
    last_holds c.args.t c.args.end c.in-Some.last c.span_up_to-extended.result ss (track_normalized (g.S.FrameStore.gap c.args.track.now.store) (g.S.FrameStore.frames c.args.track.now.store) c.requires) (sym c.in-Some.ensures) from c.span_up_to-extended.ensures within

pub returns-in_default : goal.returns-in_default
returns-in_default g c =
    none_holds c.args.t c.args.end (ranges_of (g.S.FrameStore.gap c.args.track.now.store) (g.S.FrameStore.frames c.args.track.now.store)) (sym c.in_default.ensures)
