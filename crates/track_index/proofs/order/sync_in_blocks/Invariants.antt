use Rattle.std.proofs.Common.{◌≡◌, drop}
use Rattle.mse_base.specs.Rows.{row_items}
use Rattle.track_index.specs.Order.{first_start, is_sync_from}
use Rattle.track_index.proofs.order.sync_in_blocks.Given as goal

abbrev pub invariant-loop-b : goal.invariant-loop-b
invariant-loop-b l = first_start (is_sync_from l.t) (row_items (drop l.b l.list.rows)) ≡ first_start (is_sync_from l.t) (row_items (drop l.from l.list.rows))
