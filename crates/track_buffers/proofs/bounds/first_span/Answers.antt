use Rattle.std.proofs.Common.{◌∙◌, ℤ, ◌<ℤ◌, ◌≤ℤ◌, ◌^◌, pos, List, map, Some, None, sym, ap, subst, arith}
use Rattle.std.proofs.lemmas.Int.{ints}
use Rattle.mse_base.specs.declared.span.Span.{Span}
use Rattle.mse_base.specs.Meets.{meet_of_all}
use Rattle.mse_base.specs.Spans.{first_of}
use Rattle.mse_base.proofs.SharedTicks.{all_normalized}
use Rattle.mse_base.proofs.Firsts.{HasNoneBefore, first_is, first_none, none_before_it}
use Rattle.track_buffers.specs.Buffered.{with_end, ranges_in}
use Rattle.track_buffers.proofs.FirstAndLastRange.{first_round, gap_falls_up, none_before_zero}
use Rattle.track_buffers.proofs.SharedRanges.{grown_all, ranges_all}
use Rattle.track_buffers.proofs.bounds.first_span.Goals as goal

pub loop-span-init : goal.loop-span-init
loop-span-init g c =
    let none = none_before_zero g.S.FrameStore.frames g.S.FrameStore.gap c.args.ended c.args.tracks.now.items c.requires.sound_and_countable in
    subst (λ (t : ℤ). HasNoneBefore t (meet_of_all (map (with_end c.common_end-end.result) (ranges_in {S = g.row.S.Denot} g.S.FrameStore.frames g.S.FrameStore.gap c.args.tracks.now.items)))) (sym c.zero-t.ensures)
    (subst (λ (rs : List (List Span)). HasNoneBefore (pos 0) (meet_of_all rs)) (sym c.common_end-end.ensures) none)

pub returns-then-lt : goal.returns-then-lt
returns-then-lt g c =
    let qs = ranges_in {S = g.row.S.Denot} g.S.FrameStore.frames g.S.FrameStore.gap c.args.tracks.now.items in
    let rs = map (with_end c.common_end-end.result) qs in
    let all = grown_all c.common_end-end.result qs (ranges_all g.S.FrameStore.frames g.S.FrameStore.gap c.args.tracks.now.items c.requires.gaps_from_zero) in
    let span = c.in-Some.span in
    let found = first_round c.loop-span.t rs c.narrowed_after.result (Some span) all c.narrowed_after.ensures c.in-Some.is in
    let some : span.start <ℤ span.end = grind (arith, ints, c.lt.ensures, c.if-lt.true) in
    first_is c.loop-span.t span (meet_of_all rs) (all_normalized rs all) c.loop-span.invariant found some
    ∙ ap (λ (xs : List (List Span)). first_of (meet_of_all xs)) c.common_end-end.ensures

pub loop-span-smaller : goal.loop-span-smaller
loop-span-smaller g c =
    let qs = ranges_in {S = g.row.S.Denot} g.S.FrameStore.frames g.S.FrameStore.gap c.args.tracks.now.items in
    let rs = map (with_end c.common_end-end.result) qs in
    let all = grown_all c.common_end-end.result qs (ranges_all g.S.FrameStore.frames g.S.FrameStore.gap c.args.tracks.now.items c.requires.gaps_from_zero) in
    let span = c.in-Some.span in
    let found = first_round c.loop-span.t rs c.narrowed_after.result (Some span) all c.narrowed_after.ensures c.in-Some.is in
    let past : span.end ≤ℤ span.start = grind (arith, ints, c.lt.ensures, c.if-lt.false) in
    let late = found.late in
    let high : span.start ≤ℤ pos (2 ^ 110) = (let told = rw c.in-Some.is at c.narrowed_after.type_inv in omega (arith, ints, told)) in
    gap_falls_up c.loop-span.t span.start (pos (2 ^ 110)) (omega (arith, ints)) high

pub loop-span-preserved : goal.loop-span-preserved
loop-span-preserved g c =
    let qs = ranges_in {S = g.row.S.Denot} g.S.FrameStore.frames g.S.FrameStore.gap c.args.tracks.now.items in
    let rs = map (with_end c.common_end-end.result) qs in
    let all = grown_all c.common_end-end.result qs (ranges_all g.S.FrameStore.frames g.S.FrameStore.gap c.args.tracks.now.items c.requires.gaps_from_zero) in
    let span = c.in-Some.span in
    let found = first_round c.loop-span.t rs c.narrowed_after.result (Some span) all c.narrowed_after.ensures c.in-Some.is in
    none_before_it c.loop-span.t span (meet_of_all rs) c.loop-span.invariant found

pub returns : goal.returns
returns g c =
    let qs = ranges_in {S = g.row.S.Denot} g.S.FrameStore.frames g.S.FrameStore.gap c.args.tracks.now.items in
    let rs = map (with_end c.common_end-end.result) qs in
    let all = grown_all c.common_end-end.result qs (ranges_all g.S.FrameStore.frames g.S.FrameStore.gap c.args.tracks.now.items c.requires.gaps_from_zero) in
    let none = first_round c.loop-span.t rs c.narrowed_after.result None all c.narrowed_after.ensures c.in_default.is in
    first_none c.loop-span.t (meet_of_all rs) (all_normalized rs all) c.loop-span.invariant none
    ∙ ap (λ (xs : List (List Span)). first_of (meet_of_all xs)) c.common_end-end.ensures
