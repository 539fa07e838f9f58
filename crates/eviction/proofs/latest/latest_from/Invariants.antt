use Rattle.std.proofs.Common.{◌≡◌, ◌≤ℤ◌, true}
use Rattle.std.specs.Int.{int_gap}
use Rattle.std.specs.List.{AllByRecursion}
use Rattle.track_store.specs.State.{states_of}
use Rattle.eviction.specs.Steps.{is_below, times_at}
use Rattle.eviction.specs.Times.{IsAmong}
use Rattle.eviction.proofs.latest.latest_from.Given as goal

abbrev pub invariant-loop-high : goal.invariant-loop-high
invariant-loop-high g l = record {
  has : IsAmong l.low (times_at l.lead (states_of g.S.FrameStore.frames l.tracks.items));
  below : is_below l.next l.low ≡ true;
  high : AllByRecursion (λ u. is_below l.next u ≡ true → u ≤ℤ l.high) (times_at l.lead (states_of g.S.FrameStore.frames l.tracks.items));
  later : l.initial.low ≤ℤ l.low;
}

abbrev pub decreases-loop-high : goal.decreases-loop-high
decreases-loop-high g l = int_gap l.low l.high
