use Rattle.std.proofs.Common.{◌<◌, ◌≤◌, length, arith}
use Rattle.source_buffers.proofs.BufferViews.{loop_more, loop_end}
use Rattle.source_buffers.proofs.views.buffer_views.Goals as goal

pub loop-k-preserved : goal.loop-k-preserved
loop-k-preserved g c =
    let ks = c.args.slots.now.items in
    let here : c.loop-k.k < length ks = omega (arith, c.len-k-end.ensures) in
    loop_more ks c.loop-k.k c.args.ended c.loop-k.views.items c.push_at.new.views.items here c.in_ok-push_at.ensures c.loop-k.invariant

pub returns : goal.returns
returns g c =
    let ks = c.args.slots.now.items in
    let past : length ks ≤ c.loop-k.k = omega (arith, c.len-k-end.ensures) in
    loop_end ks c.loop-k.k c.args.ended c.loop-k.views.items past c.loop-k.invariant
