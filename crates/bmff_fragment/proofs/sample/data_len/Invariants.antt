use Rattle.std.proofs.Common.{◌≡◌, ◌*◌, ◌≤◌, ◌^◌, take}
use Rattle.bmff_fragment.specs.Times.{data_len}
use Rattle.bmff_fragment.proofs.sample.data_len.Given as goal

abbrev pub invariant-loop-sample : goal.invariant-loop-sample
invariant-loop-sample l = record {
  value : l.len ≡ data_len (take l.sample-index l.samples);
  bound : l.len ≤ l.sample-index * 2 ^ 32;
}
