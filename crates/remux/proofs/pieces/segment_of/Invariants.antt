use Rattle.std.proofs.Common.{◌≡◌, map, take, vec_len, length}
use Rattle.std.specs.Vec.{vec_capacity}
use Rattle.remux.specs.Pieces.{sample_out}
use Rattle.remux.proofs.pieces.segment_of.Given as goal

abbrev pub invariant-loop-sample : goal.invariant-loop-sample
invariant-loop-sample l = record {
  items : l.samples.items ≡ map (sample_out l.file) (take l.sample-index l.run.samples.now);
  len : vec_len l.samples ≡ l.sample-index;
  room : vec_capacity l.samples ≡ length l.run.samples.now;
}
