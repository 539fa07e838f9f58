use Rattle.std.proofs.Common.{◌≡◌, false, true, take}
use Rattle.std.specs.List.{list_all}
use Rattle.track_buffers.specs.Buffered.{is_buffered_up_to}
use Rattle.source_buffers.specs.State.{all_kept_media}
use Rattle.source_buffers.specs.Buffered.{active_ranges}
use Rattle.source_buffers.proofs.element.are_all_up_to.Given as goal

abbrev pub invariant-loop-i : goal.invariant-loop-i
invariant-loop-i g l = list_all (is_buffered_up_to l.t l.until) (take l.i (active_ranges false l.active (all_kept_media l.slots.items))) ≡ true
