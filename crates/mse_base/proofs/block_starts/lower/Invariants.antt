use Rattle.std.proofs.Common.{◌≡◌, ◌+◌, ◌-◌, ◌/◌, ◌<◌, ◌≤◌, ℕ, length, slice_index}
use Rattle.mse_base.proofs.block_starts.lower.Given as goal

abbrev pub invariant-loop-group : goal.invariant-loop-group
invariant-loop-group l = record {
  from : l.b / 32 ≤ l.group;
  len : length l.starts.items ≡ length l.fn.starts.items;
  front : (g : ℕ) → g < l.b / 32 → slice_index l.starts.items g ≡ slice_index l.fn.starts.items g;
  done : (g : ℕ) → l.b / 32 ≤ g → g < l.group → g < length l.fn.starts.items → slice_index l.starts.items g + 1 ≡ slice_index l.fn.starts.items g;
  left : (g : ℕ) → l.group ≤ g → slice_index l.starts.items g ≡ slice_index l.fn.starts.items g;
}

abbrev pub decreases-loop-group : goal.decreases-loop-group
decreases-loop-group l = length l.starts.items - l.group
