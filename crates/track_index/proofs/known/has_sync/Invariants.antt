use Rattle.std.proofs.Common.{◌≡◌, drop}
use Rattle.std.specs.List.{list_any}
use Rattle.track_index.specs.Known.{is_sync}
use Rattle.track_index.proofs.known.has_sync.Given as goal

abbrev pub invariant-loop-entry : goal.invariant-loop-entry
invariant-loop-entry l = list_any is_sync (drop l.entry-index l.items) ≡ list_any is_sync l.items
