use Rattle.std.proofs.Common.{◌≡◌, ◌+◌, ◌<◌, true, take, drop}
use Rattle.std.specs.List.{AllByRecursion}
use Rattle.mse_base.specs.Rows.{row_items}
use Rattle.block_list.specs.BlockPlaces.{rank, IsPlace, IsItemPlace}
use Rattle.track_index.specs.Runs.{is_serial_from}
use Rattle.track_index.proofs.order.Order.last_between.Given as goal

abbrev pub invariant-loop-n : goal.invariant-loop-n
invariant-loop-n l = record {
  place : IsPlace l.self.rows l.place;
  next : rank l.self.rows l.place ≡ rank l.self.rows l.fn.from + l.n;
  last : 0 < l.n → IsItemPlace l.self.rows l.last;
  count : 0 < l.n → rank l.self.rows l.last + 1 ≡ rank l.self.rows l.fn.from + l.n;
  between : AllByRecursion (λ o. is_serial_from l.low l.high o ≡ true) (take l.n (drop (rank l.self.rows l.fn.from) (row_items l.self.rows)));
}
