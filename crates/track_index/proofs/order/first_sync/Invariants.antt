use Rattle.std.proofs.Common.{◌≡◌, drop}
use Rattle.track_index.specs.Order.{first_start, is_sync_from}
use Rattle.track_index.proofs.order.first_sync.Given as goal

abbrev pub invariant-loop-entry : goal.invariant-loop-entry
invariant-loop-entry l = first_start (is_sync_from l.t) (drop l.entry-index l.items) ≡ first_start (is_sync_from l.t) l.items
