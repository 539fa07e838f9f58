use Rattle.std.proofs.Common.{◌≡◌, ◌*◌, ◌≤◌, length}
use Rattle.bmff_write.specs.Tracks.{payload_len}
use Rattle.stream_tests.proofs.tests.given.samples_of.Given as goal

-- a sample for each row so far, of at most 4 bytes
abbrev pub invariant-loop-row : goal.invariant-loop-row
invariant-loop-row g l = record {
  count : length l.samples.items ≡ l.row-index;
  payload : payload_len l.samples.items ≤ 4 * l.row-index;
}
