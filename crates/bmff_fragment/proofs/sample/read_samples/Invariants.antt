use Rattle.std.proofs.Common.{◌≡◌, ◌-◌, map, vec_len}
use Rattle.std.specs.List.{range_with_len}
use Rattle.std.specs.Vec.{vec_capacity}
use Rattle.bmff_fragment.specs.Samples.{run_sample_of, each, run_samples_of}
use Rattle.bmff_fragment.proofs.RunSamples.{all_read}
use Rattle.bmff_fragment.proofs.sample.read_samples.Given as goal

abbrev pub invariant-loop-i : goal.invariant-loop-i
invariant-loop-i l = record {
  same : all_read l.samples.items (each (map (run_sample_of l.defaults l.header l.trun) (range_with_len l.i (l.header.count - l.i)))) ≡ run_samples_of l.defaults l.header l.trun;
  count : vec_len l.samples ≡ l.i;
  room : vec_capacity l.samples ≡ l.header.count;
}
