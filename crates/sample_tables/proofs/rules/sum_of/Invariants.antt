use Rattle.std.proofs.Common.{◌≡◌, ◌*◌, ◌≤◌, ◌^◌, take, sum}
use Rattle.sample_tables.proofs.rules.sum_of.Given as goal

abbrev pub invariant-loop-size : goal.invariant-loop-size
invariant-loop-size l = record {
  total : l.total ≡ sum (take l.size-index l.sizes);
  small : l.total ≤ l.size-index * 2 ^ 32;
}
