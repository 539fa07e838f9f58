use Rattle.std.proofs.Common.{◌≡◌, ◌≤◌, ◌-◌, length, take, drop, vec_capacity}
use Rattle.mse_base.specs.Rows.{start}
use Rattle.block_list.specs.Starts.{starts_of}
use Rattle.block_list.proofs.ranked.restart.Given as goal

abbrev pub invariant-loop-b : goal.invariant-loop-b
invariant-loop-b g l = record {
  long : length l.starts.items ≡ length l.list.rows;
  within : l.b ≤ l.to;
  count : l.count ≡ start l.list.rows l.b;
  front : take l.b l.starts.items ≡ take l.b (starts_of l.list.rows);
  rest : drop l.to l.starts.items ≡ drop l.to l.fn.starts.items;
  room : vec_capacity l.starts ≡ vec_capacity l.fn.starts;
}

abbrev pub decreases-loop-b : goal.decreases-loop-b
decreases-loop-b g l = l.to - l.b
