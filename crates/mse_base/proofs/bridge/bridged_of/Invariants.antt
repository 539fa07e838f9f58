use Rattle.std.proofs.Common.{◌≡◌, take}
use Rattle.mse_base.specs.Bridging.{bridged_ranges}
use Rattle.mse_base.proofs.bridge.bridged_of.Given as goal

abbrev pub invariant-loop-span : goal.invariant-loop-span
invariant-loop-span l = l.ranges.spans ≡ bridged_ranges l.gap (take l.span-index l.spans)
