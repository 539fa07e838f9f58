use Rattle.std.proofs.Common.{◌≡◌, ◌+◌, ◌-◌, ◌≤◌, length, take}
use Rattle.mse_base.proofs.span_list.in_blocks.Given as goal

abbrev pub invariant-loop-i : goal.invariant-loop-i
invariant-loop-i l = record {
  within : l.i ≤ length l.spans;
  spans : l.blocks.spans ≡ take l.i l.spans;
  spare : length l.spans + l.n ≤ l.blocks.spare + l.i;
}

abbrev pub decreases-loop-i : goal.decreases-loop-i
decreases-loop-i l = length l.spans - l.i
