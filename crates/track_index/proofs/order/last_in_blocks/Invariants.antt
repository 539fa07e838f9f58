use Rattle.std.proofs.Common.{◌≡◌, ◌≤◌, ◌≤ℤ◌, length, take}
use Rattle.std.specs.List.{AllByRecursion}
use Rattle.mse_base.specs.Rows.{row_items}
use Rattle.track_index.specs.Order.{is_in_entry, last_that}
use Rattle.track_index.proofs.order.last_in_blocks.Given as goal

abbrev pub invariant-loop-b : goal.invariant-loop-b
invariant-loop-b l = record {
  within : l.b ≤ length l.list.rows;
  last : last_that (is_in_entry l.t) (row_items (take l.b l.list.rows)) ≡ last_that (is_in_entry l.t) (row_items (take l.fn.from l.list.rows));
  begun : AllByRecursion (λ o. o.pts ≤ℤ l.t) (row_items (take l.b l.list.rows));
  same : l.visits ≡ l.fn.visits;
}

abbrev pub decreases-loop-b : goal.decreases-loop-b
decreases-loop-b l = l.b
