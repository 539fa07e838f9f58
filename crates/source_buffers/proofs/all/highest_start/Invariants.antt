use Rattle.std.proofs.Common.{◌≡◌, take}
use Rattle.track_buffers.specs.Frames.{highest_start_in}
use Rattle.source_buffers.specs.State.{all_kept_media}
use Rattle.source_buffers.specs.All.{greatest_of_all}
use Rattle.source_buffers.proofs.all.highest_start.Given as goal

abbrev pub invariant-loop-i : goal.invariant-loop-i
invariant-loop-i g l = l.best ≡ greatest_of_all highest_start_in (take l.i (all_kept_media l.slots.items))
