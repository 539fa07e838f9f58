use Rattle.std.proofs.Common.{◌∙◌, ◌<ℤ◌, ◌≤ℤ◌, ◌^◌, pos, neg_ℤ, Some, None, sym, arith}
use Rattle.std.proofs.lemmas.Int.{ints}
use Rattle.mse_base.specs.Meets.{meet_of_all}
use Rattle.mse_base.proofs.SharedTicks.{all_normalized}
use Rattle.mse_base.proofs.Lasts.{last_is, last_none, none_from_it}
use Rattle.track_buffers.specs.Buffered.{ranges_in}
use Rattle.track_buffers.proofs.FirstAndLastRange.{gap_falls_down, last_round, no_last, none_from_highest}
use Rattle.track_buffers.proofs.SharedRanges.{ranges_all}
use Rattle.track_buffers.proofs.bounds.open_last_span.Goals as goal

pub returns-in-None : goal.returns-in-None
returns-in-None g c =
    let rs = ranges_in {S = g.row.S.Denot} g.S.FrameStore.frames g.S.FrameStore.gap c.args.tracks.now.items in
    no_last rs (sym c.highest_range_end.ensures ∙ c.in-None.is)

pub loop-span-init : goal.loop-span-init
loop-span-init g c =
    let rs = ranges_in {S = g.row.S.Denot} g.S.FrameStore.frames g.S.FrameStore.gap c.args.tracks.now.items in
    let all = ranges_all g.S.FrameStore.frames g.S.FrameStore.gap c.args.tracks.now.items c.requires in
    none_from_highest c.in-Some.end rs all (sym c.highest_range_end.ensures ∙ c.in-Some.is)

pub returns-then-lt : goal.returns-then-lt
returns-then-lt g c =
    let rs = ranges_in {S = g.row.S.Denot} g.S.FrameStore.frames g.S.FrameStore.gap c.args.tracks.now.items in
    let all = ranges_all g.S.FrameStore.frames g.S.FrameStore.gap c.args.tracks.now.items c.requires in
    let span = c.in-Some-narrowed_before.span in
    let found = last_round c.loop-span.t rs c.narrowed_before.result (Some span) all c.narrowed_before.ensures c.in-Some-narrowed_before.is in
    let some : span.start <ℤ span.end = grind (arith, ints, c.lt.ensures, c.if-lt.true) in
    last_is c.loop-span.t span (meet_of_all rs) (all_normalized rs all) c.loop-span.invariant found some

pub loop-span-smaller : goal.loop-span-smaller
loop-span-smaller g c =
    let rs = ranges_in {S = g.row.S.Denot} g.S.FrameStore.frames g.S.FrameStore.gap c.args.tracks.now.items in
    let all = ranges_all g.S.FrameStore.frames g.S.FrameStore.gap c.args.tracks.now.items c.requires in
    let span = c.in-Some-narrowed_before.span in
    let found = last_round c.loop-span.t rs c.narrowed_before.result (Some span) all c.narrowed_before.ensures c.in-Some-narrowed_before.is in
    let past : span.end ≤ℤ span.start = grind (arith, ints, c.lt.ensures, c.if-lt.false) in
    let early = found.early in
    let low : neg_ℤ (pos (2 ^ 110)) ≤ℤ span.end = (let told = rw c.in-Some-narrowed_before.is at c.narrowed_before.type_inv in omega (arith, ints, told)) in
    gap_falls_down c.loop-span.t span.end (neg_ℤ (pos (2 ^ 110))) (omega (arith, ints)) low

pub loop-span-preserved : goal.loop-span-preserved
loop-span-preserved g c =
    let rs = ranges_in {S = g.row.S.Denot} g.S.FrameStore.frames g.S.FrameStore.gap c.args.tracks.now.items in
    let all = ranges_all g.S.FrameStore.frames g.S.FrameStore.gap c.args.tracks.now.items c.requires in
    let span = c.in-Some-narrowed_before.span in
    let found = last_round c.loop-span.t rs c.narrowed_before.result (Some span) all c.narrowed_before.ensures c.in-Some-narrowed_before.is in
    none_from_it c.loop-span.t span (meet_of_all rs) c.loop-span.invariant found

pub returns : goal.returns
returns g c =
    let rs = ranges_in {S = g.row.S.Denot} g.S.FrameStore.frames g.S.FrameStore.gap c.args.tracks.now.items in
    let all = ranges_all g.S.FrameStore.frames g.S.FrameStore.gap c.args.tracks.now.items c.requires in
    let none = last_round c.loop-span.t rs c.narrowed_before.result None all c.narrowed_before.ensures c.in_default.is in
    last_none c.loop-span.t (meet_of_all rs) (all_normalized rs all) c.loop-span.invariant none
