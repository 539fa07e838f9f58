use Rattle.std.proofs.Common.{◌<◌, ◌≤◌, ◌∙◌, length, arith, ap}
use Rattle.std.proofs.lemmas.List.{length-map, take_all}
use Rattle.track_buffers.specs.Frames.{highest_start_in}
use Rattle.track_buffers.proofs.Loops.{highest_more}
use Rattle.source_buffers.specs.State.{all_kept_media}
use Rattle.source_buffers.specs.All.{greatest_of_all, slot_times}
use Rattle.source_buffers.proofs.all.highest_start.Goals as goal

pub loop-i-preserved : goal.loop-i-preserved
loop-i-preserved g c =
    let ms = all_kept_media c.args.slots.now.items in
    let here : c.loop-i.i < length ms = rw length-map (omega (arith, c.len-i-end.ensures)) in
    c.max-best.ensures ∙ highest_more (slot_times highest_start_in) ms c.loop-i.i c.loop-i.best c.start_at.result here c.loop-i.invariant c.start_at.ensures

pub returns : goal.returns
returns g c =
    let ms = all_kept_media c.args.slots.now.items in
    let past : length ms ≤ c.loop-i.i = rw length-map (omega (arith, c.len-i-end.ensures)) in
    c.loop-i.invariant ∙ ap (greatest_of_all highest_start_in) (take_all c.loop-i.i ms past)
