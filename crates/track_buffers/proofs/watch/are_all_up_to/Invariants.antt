use Rattle.std.proofs.Common.{◌≡◌, true, take}
use Rattle.std.specs.List.{list_all}
use Rattle.track_buffers.specs.Buffered.{is_buffered_up_to, ranges_in}
use Rattle.track_buffers.proofs.watch.are_all_up_to.Given as goal

abbrev pub invariant-loop-i : goal.invariant-loop-i
invariant-loop-i g l = list_all (is_buffered_up_to l.t l.until) (take l.i (ranges_in g.S.FrameStore.frames g.S.FrameStore.gap l.tracks.items)) ≡ true
