use Rattle.std.proofs.Common.{◌≡◌, ◌≤◌, ◌+◌, length, drop, false}
use Rattle.mse_base.specs.Moments.{IsNotAfter}
use Rattle.track_buffers.specs.Media.{AreEndedWithin}
use Rattle.track_buffers.specs.Frames.{flush_result, flush_result_after}
use Rattle.track_buffers.proofs.buffers.TrackBuffers.flush.Given as goal

abbrev pub invariant-loop-frame : goal.invariant-loop-frame
invariant-loop-frame g l = record {
  rest : flush_result_after l.effect (flush_result (drop (length l.yielded) l.fn.frames.items) l.self.media l.effect.duration) ≡ flush_result l.fn.frames.items l.initial.self.media l.fn.duration;
  room : length l.fn.frames.items ≤ l.self.room + length l.yielded;
  places : l.self.places ≡ l.initial.self.places;
  kept_room : l.initial.self.room ≤ l.self.room + length l.yielded;
  changes : l.effect.duration_changes ≤ length l.yielded;
  within : length l.yielded ≤ length l.fn.frames.items;
  no_init : l.effect.received_init ≡ false;
  no_fall : IsNotAfter l.fn.duration l.effect.duration;
  within_duration : AreEndedWithin l.fn.duration l.initial.self.media.tracks → AreEndedWithin l.effect.duration l.self.media.tracks;
}
