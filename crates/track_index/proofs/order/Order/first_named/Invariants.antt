use Rattle.std.proofs.Common.{◌≡◌, ◌-◌, false, length, take, drop}
use Rattle.std.specs.List.{AllByRecursion}
use Rattle.mse_base.specs.Rows.{row_items}
use Rattle.block_list.specs.BlockPlaces.{rank, IsPlace}
use Rattle.track_index.specs.Keyed.{is_before_key, is_entry_named}
use Rattle.track_index.proofs.order.Order.first_named.Given as goal

abbrev pub invariant-loop-place : goal.invariant-loop-place
invariant-loop-place l = record {
  place : IsPlace l.self.rows l.place;
  passed : AllByRecursion (λ o. is_before_key l.key o ≡ false → is_entry_named l.to l.below o ≡ false) (take (rank l.self.rows l.place) (row_items l.self.rows));
  rest : AllByRecursion (λ o. is_before_key l.key o ≡ false) (drop (rank l.self.rows l.place) (row_items l.self.rows));
}

abbrev pub decreases-loop-place : goal.decreases-loop-place
decreases-loop-place l = length (row_items l.self.rows) - rank l.self.rows l.place
