use Rattle.std.proofs.Common.{◌≡◌, ◌≤◌, pos, ◌≤ℤ◌, length, take}
use Rattle.std.specs.List.{AllByRecursion}
use Rattle.byte_stream.specs.Readings.{ready_at}
use Rattle.byte_stream.specs.Streams.{ForEachReading}
use Rattle.buffer_state.proofs.resets.ready_frames.Given as goal

abbrev pub invariant-loop-i : goal.invariant-loop-i
invariant-loop-i l = record {
  dur_not_negative : AllByRecursion (λ f. pos 0 ≤ℤ f.dur) l.frames.items;
  few : length l.frames.items ≤ l.i;
  taken : ForEachReading l.stream (λ r. l.frames.items ≡ take l.i (ready_at r));
}
