use Rattle.std.proofs.Common.{pos, ◌^◌, map}
use Rattle.std.specs.Int.{int_gap}
use Rattle.mse_base.specs.Meets.{meet_of_all}
use Rattle.mse_base.proofs.Firsts.{HasNoneBefore}
use Rattle.track_buffers.specs.Buffered.{with_end, ranges_in}
use Rattle.track_buffers.proofs.bounds.first_span.Given as goal

abbrev pub invariant-loop-span : goal.invariant-loop-span
invariant-loop-span g l = HasNoneBefore l.t (meet_of_all (map (with_end l.end) (ranges_in g.S.FrameStore.frames g.S.FrameStore.gap l.tracks.items)))

abbrev pub decreases-loop-span : goal.decreases-loop-span
decreases-loop-span g l = int_gap l.t (pos (2 ^ 110))
