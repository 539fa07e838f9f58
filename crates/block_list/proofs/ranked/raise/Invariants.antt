use Rattle.std.proofs.Common.{◌≡◌, ◌≤◌, ◌-◌, length, take, drop, vec_capacity}
use Rattle.block_list.specs.Starts.{starts_of, plus_each}
use Rattle.block_list.proofs.ranked.raise.Given as goal

abbrev pub invariant-loop-b : goal.invariant-loop-b
invariant-loop-b g l = record {
  long : length l.starts.items ≡ length l.list.rows;
  above : l.to ≤ l.b;
  within : l.b ≤ l.from;
  front : take l.b l.starts.items ≡ take l.b (starts_of l.list.rows);
  rest : drop l.b l.starts.items ≡ plus_each l.excess (drop l.b (starts_of l.list.rows));
  room : vec_capacity l.starts ≡ vec_capacity l.fn.starts;
}

abbrev pub decreases-loop-b : goal.decreases-loop-b
decreases-loop-b g l = l.b - l.to
