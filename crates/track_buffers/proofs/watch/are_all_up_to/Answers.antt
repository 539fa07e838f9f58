use Rattle.std.proofs.Common.{◌∙◌, ◌<◌, ◌≤◌, ap, sym, length, arith}
use Rattle.std.specs.List.{list_all}
use Rattle.std.proofs.lemmas.List.{length-map, take_all}
use Rattle.track_buffers.specs.Buffered.{is_buffered_up_to, ranges_in}
use Rattle.track_buffers.proofs.Loops.{all_more, all_stops}
use Rattle.track_buffers.proofs.watch.are_all_up_to.Goals as goal

pub returns-then-not-is_own_up_to : goal.returns-then-not-is_own_up_to
returns-then-not-is_own_up_to g c =
    let rs = ranges_in {S = g.row.S.Denot} g.S.FrameStore.frames g.S.FrameStore.gap c.args.tracks.now.items in
    let here : c.loop-i.i < length rs = rw length-map (omega (arith, c.len-i-end.ensures)) in
    sym (all_stops (is_buffered_up_to c.args.t c.args.until) rs c.loop-i.i c.is_own_up_to.result c.is_own_up_to.ensures here c.if-not-is_own_up_to.true)

pub loop-i-preserved : goal.loop-i-preserved
loop-i-preserved g c =
    let rs = ranges_in {S = g.row.S.Denot} g.S.FrameStore.frames g.S.FrameStore.gap c.args.tracks.now.items in
    let here : c.loop-i.i < length rs = rw length-map (omega (arith, c.len-i-end.ensures)) in
    all_more (is_buffered_up_to c.args.t c.args.until) rs c.loop-i.i c.is_own_up_to.result here c.loop-i.invariant c.is_own_up_to.ensures c.if-not-is_own_up_to.false

pub returns : goal.returns
returns g c =
    let rs = ranges_in {S = g.row.S.Denot} g.S.FrameStore.frames g.S.FrameStore.gap c.args.tracks.now.items in
    let past : length rs ≤ c.loop-i.i = rw length-map (omega (arith, c.len-i-end.ensures)) in
    sym (ap (list_all (is_buffered_up_to c.args.t c.args.until)) (sym (take_all c.loop-i.i rs past)) ∙ c.loop-i.invariant)
