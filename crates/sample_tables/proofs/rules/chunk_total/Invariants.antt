use Rattle.std.proofs.Common.{◌≡◌, ◌+◌, ◌*◌, ◌≤◌, ◌^◌, ℕ, sum, length, true}
use Rattle.sample_tables.specs.Samples.{chunk_behind, chunk_counts}
use Rattle.sample_tables.specs.Rules.{are_chunk_runs}
use Rattle.sample_tables.proofs.rules.chunk_total.Given as goal

abbrev pub invariant-runs : goal.invariant-runs
invariant-runs l = record {
  same : l.total + sum (chunk_counts l.chunks l.rest) ≡ sum (chunk_counts l.chunks l.runs);
  order : (before : ℕ) × (are_chunk_runs before l.chunks l.rest ≡ true);
  small : l.total ≤ chunk_behind l.chunks l.rest * 2 ^ 32;
}

abbrev pub decreases-runs : goal.decreases-runs
decreases-runs l = length l.rest
