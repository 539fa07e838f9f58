use Rattle.std.proofs.Common.{◌≡◌, ◌+◌, ◌-◌, length, drop}
use Rattle.mse_base.specs.Rows.{row_items}
use Rattle.block_list.specs.BlockPlaces.{rank, IsPlace}
use Rattle.track_store.specs.Frames.{from_sync}
use Rattle.track_index.specs.Runs.{IsRun}
use Rattle.track_index.proofs.frames.run_from.Given as goal

abbrev pub invariant-loop-next : goal.invariant-loop-next
invariant-loop-next l = record {
  from : l.run.from ≡ l.fn.from;
  run : IsRun l.frames.rows l.run;
  place : IsPlace l.frames.rows l.next;
  next : rank l.frames.rows l.next ≡ rank l.frames.rows l.fn.from + l.run.count;
  rest : from_sync (drop (rank l.frames.rows l.fn.from + l.run.count) (row_items l.frames.rows)) ≡ from_sync (drop (rank l.frames.rows l.fn.from + 1) (row_items l.frames.rows));
}

abbrev pub decreases-loop-next : goal.decreases-loop-next
decreases-loop-next l = length (row_items l.frames.rows) - rank l.frames.rows l.next
