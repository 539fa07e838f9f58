use Rattle.std.proofs.Common.{◌≡◌, ◌-◌, ◌≤◌, length, take}
use Rattle.mse_base.specs.Rows.{row_items}
use Rattle.mse_base.proofs.span_blocks.SpanBlocks.to_vec.Given as goal

abbrev pub invariant-loop-b : goal.invariant-loop-b
invariant-loop-b l = record {
  within : l.b ≤ length l.self-inside.blocks.items;
  spans : l.all.items ≡ row_items (take l.b l.self-inside.blocks.items);
}

abbrev pub decreases-loop-b : goal.decreases-loop-b
decreases-loop-b l = length l.self-inside.blocks.items - l.b
