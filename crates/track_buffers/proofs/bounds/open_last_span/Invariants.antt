use Rattle.std.proofs.Common.{pos, neg_ℤ, ◌^◌}
use Rattle.std.specs.Int.{int_gap}
use Rattle.mse_base.specs.Meets.{meet_of_all}
use Rattle.mse_base.proofs.Firsts.{HasNoneFrom}
use Rattle.track_buffers.specs.Buffered.{ranges_in}
use Rattle.track_buffers.proofs.bounds.open_last_span.Given as goal

abbrev pub invariant-loop-span : goal.invariant-loop-span
invariant-loop-span g l = HasNoneFrom l.t (meet_of_all (ranges_in g.S.FrameStore.frames g.S.FrameStore.gap l.tracks.items))

abbrev pub decreases-loop-span : goal.decreases-loop-span
decreases-loop-span g l = int_gap (neg_ℤ (pos (2 ^ 110))) l.t
