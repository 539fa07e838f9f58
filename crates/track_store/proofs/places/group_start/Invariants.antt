use Rattle.std.proofs.Common.{◌≡◌, ◌≤◌, length, take}
use Rattle.track_store.specs.Frames.{group_start_of, last_place}
use Rattle.track_store.proofs.places.group_start.Given as goal

-- no random access point was passed
abbrev pub invariant-loop-place : goal.invariant-loop-place
invariant-loop-place l = record {
  in_range : l.place ≤ length l.frames;
  passed : last_place (λ f. f.frame.sync) (take l.place l.frames) ≡ group_start_of l.i l.frames;
}

abbrev pub decreases-loop-place : goal.decreases-loop-place
decreases-loop-place l = l.place
