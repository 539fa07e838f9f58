use Rattle.std.proofs.Common.{◌≡◌, drop}
use Rattle.std.specs.List.{list_all}
use Rattle.sample_tables.specs.Samples.{offsets_by}
use Rattle.sample_tables.specs.Rules.{is_short_offset}
use Rattle.sample_tables.proofs.rules.are_short_runs.Given as goal

abbrev pub invariant-loop-run : goal.invariant-loop-run
invariant-loop-run l = list_all is_short_offset (offsets_by (drop l.run-index l.runs)) ≡ list_all is_short_offset (offsets_by l.runs)
