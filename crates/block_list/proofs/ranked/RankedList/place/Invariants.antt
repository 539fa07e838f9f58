use Rattle.std.proofs.Common.{◌<◌, ◌≤◌, ◌-◌, length}
use Rattle.mse_base.specs.Rows.{start}
use Rattle.block_list.proofs.ranked.RankedList.place.Given as goal

abbrev pub invariant-search : goal.invariant-search
invariant-search g l = record {
  in_order : l.low < l.high;
  within : l.high ≤ length l.self.rows;
  by : start l.self.rows l.low ≤ l.k;
  next : l.high < length l.self.rows → l.k < start l.self.rows l.high;
}

abbrev pub decreases-search : goal.decreases-search
decreases-search g l = l.high - l.low
