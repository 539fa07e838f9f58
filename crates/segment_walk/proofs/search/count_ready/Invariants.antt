use Rattle.std.proofs.Common.{◌≡◌, ◌≤◌, ◌+◌, drop}
use Rattle.std.specs.List.{prefix_len}
use Rattle.segment_walk.specs.Moves.{is_ready}
use Rattle.segment_walk.specs.Ranges.{IsCoveredRange}
use Rattle.segment_walk.proofs.search.count_ready.Given as goal

abbrev pub invariant-loop-slot : goal.invariant-loop-slot
invariant-loop-slot l = record {
  counted : l.count + prefix_len (is_ready l.there l.known) (drop l.slot-index l.slots) ≡ prefix_len (is_ready l.there l.known) l.slots;
  few : l.count ≤ l.slot-index;
  among : IsCoveredRange l.known l.near;
}
