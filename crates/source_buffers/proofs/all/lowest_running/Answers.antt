use Rattle.std.proofs.Common.{◌<◌, ◌≤◌, length, slice_get, arith}
use Rattle.std.proofs.lemmas.List.{length-map}
use Rattle.track_buffers.proofs.Loops.{position_more, position_here, position_none}
use Rattle.source_buffers.specs.State.{all_kept_running}
use Rattle.source_buffers.specs.All.{is_updating_slot}
use Rattle.source_buffers.proofs.SlotLookUps.{running_at}
use Rattle.source_buffers.proofs.all.lowest_running.Goals as goal

pub returns-then-is_updating_at : goal.returns-then-is_updating_at
returns-then-is_updating_at g c =
    let rs = all_kept_running c.args.slots.now.items in
    let here : c.loop-k.k < length rs = rw length-map (omega (arith, c.len-k-end.ensures)) in
    position_here is_updating_slot rs c.loop-k.k c.is_updating_at.result here c.loop-k.invariant (running_at c.is_updating_at.result (slice_get rs c.loop-k.k) c.is_updating_at.ensures) c.if-is_updating_at.true

pub loop-k-preserved : goal.loop-k-preserved
loop-k-preserved g c =
    let rs = all_kept_running c.args.slots.now.items in
    let here : c.loop-k.k < length rs = rw length-map (omega (arith, c.len-k-end.ensures)) in
    position_more is_updating_slot rs c.loop-k.k c.is_updating_at.result here c.loop-k.invariant (running_at c.is_updating_at.result (slice_get rs c.loop-k.k) c.is_updating_at.ensures) c.if-is_updating_at.false

pub returns : goal.returns
returns g c =
    let rs = all_kept_running c.args.slots.now.items in
    let past : length rs ≤ c.loop-k.k = rw length-map (omega (arith, c.len-k-end.ensures)) in
    position_none is_updating_slot rs c.loop-k.k past c.loop-k.invariant
