use Rattle.std.proofs.Common.{arith}
use Rattle.track_store.proofs.StillSound.{sound_in, counted_in}
use Rattle.frame_tests.proofs.tests.media.feed.Goals as goal

pub place-requires : goal.place-requires
place-requires g c = record {
  in_range = omega (arith, c.requires.in_range, c.reserve_at.ensures.len);
  room = c.reserve_at.ensures.spare;
  sound = rw c.reserve_at.ensures.states (sound_in _ c.args.index c.requires.sound_and_countable.sound);
  count = rw c.reserve_at.ensures.states (counted_in _ c.args.index c.requires.sound_and_countable.counted);
  small = rw c.reserve_at.ensures.states c.requires.sound_and_countable.small;
  window_start = c.requires.window_start;
  dur_not_negative = c.requires.dur_not_negative;
}
