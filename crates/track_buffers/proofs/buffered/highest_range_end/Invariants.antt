use Rattle.std.proofs.Common.{◌≡◌, take}
use Rattle.mse_base.specs.Moments.{greatest}
use Rattle.track_buffers.specs.Buffered.{last_ends, ranges_in}
use Rattle.track_buffers.proofs.buffered.highest_range_end.Given as goal

abbrev pub invariant-loop-i : goal.invariant-loop-i
invariant-loop-i g l = l.best ≡ greatest (last_ends (take l.i (ranges_in g.S.FrameStore.frames g.S.FrameStore.gap l.tracks.items)))
