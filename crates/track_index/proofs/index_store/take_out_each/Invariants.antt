use Rattle.std.proofs.Common.{◌≡◌, ◌+◌, ◌++◌, ◌≤◌, take, drop}
use Rattle.mse_base.specs.Rows.{row_items}
use Rattle.block_list.specs.BlockPlaces.{rank, IsPlace}
use Rattle.track_index.specs.Order.{presentation_order}
use Rattle.track_index.proofs.index_store.take_out_each.Given as goal

abbrev pub invariant-loop-n : goal.invariant-loop-n
invariant-loop-n l = record {
  place : IsPlace l.frames.rows l.place;
  next : rank l.frames.rows l.place ≡ rank l.frames.rows l.run.from + l.n;
  order : row_items l.order.rows ≡ presentation_order (take (rank l.frames.rows l.run.from) (row_items l.frames.rows) ++ drop (rank l.frames.rows l.run.from + l.n) (row_items l.frames.rows));
  spare : l.fn.order.spare ≤ l.order.spare;
}
