use Rattle.std.proofs.Common.{◌≡◌, take}
use Rattle.std.specs.List.{sum_by}
use Rattle.std.proofs.Common.{vec_len}
use Rattle.sample_tables.specs.Samples.{durations_of}
use Rattle.sample_tables.proofs.columns.durations_of.Given as goal

abbrev pub invariant-loop-run : goal.invariant-loop-run
invariant-loop-run l = record {
  items : l.each.items ≡ durations_of (take l.run-index l.runs);
  len : vec_len l.each ≡ sum_by (λ r. r.count) (take l.run-index l.runs);
}
