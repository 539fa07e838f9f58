-- The timing of a frame that begins no group and follows no discontinuity: its times, and the settings as they are. A
-- device of the proof.
use Rattle.std.specs.Prelude.{false}
use Rattle.track_store.specs.declared.tracks.Settings.{Settings}
use Rattle.frame_rules.specs.declared.timing.Times.{Times}
use Rattle.frame_rules.specs.declared.timing.Timing.{Timing}

abbrev pub timing_by : Settings → Times → Timing
timing_by s times = record {
  pts = times.pts;
  dts = times.dts;
  end = times.end;
  settings = s;
  starts_group = false;
  discontinuity = false;
}
