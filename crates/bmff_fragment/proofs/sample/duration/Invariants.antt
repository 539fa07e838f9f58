use Rattle.std.proofs.Common.{◌≡◌, ◌*◌, ◌≤◌, ◌^◌, take}
use Rattle.bmff_fragment.specs.Times.{duration_of}
use Rattle.bmff_fragment.proofs.sample.duration.Given as goal

abbrev pub invariant-loop-sample : goal.invariant-loop-sample
invariant-loop-sample l = record {
  value : l.time ≡ duration_of (take l.sample-index l.samples);
  bound : l.time ≤ l.sample-index * 2 ^ 32;
}
