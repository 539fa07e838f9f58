use Rattle.std.proofs.Common.{◌≡◌, ◌≤◌, ◌+◌, false, length, drop}
use Rattle.std.specs.List.{AllByRecursion}
use Rattle.track_index.specs.Order.{is_in_entry}
use Rattle.track_index.proofs.order.last_in.Given as goal

abbrev pub invariant-loop-i : goal.invariant-loop-i
invariant-loop-i l = record {
  within : l.i ≤ length l.items;
  none : AllByRecursion (λ o. is_in_entry l.t o ≡ false) (drop l.i l.items);
  not_less : l.fn.visits ≤ l.visits;
  at_most : l.visits + l.i ≤ l.fn.visits + length l.items;
}

abbrev pub decreases-loop-i : goal.decreases-loop-i
decreases-loop-i l = l.i
