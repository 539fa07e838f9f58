use Rattle.std.proofs.Common.{◌≡◌, ◌+◌, ◌≤◌, List, Some, length, map, take, drop, slice_get, vec_capacity, vec_len}
use Rattle.track_store.specs.declared.store.Stored.{Stored}
use Rattle.decoder_feed.proofs.group.places_between.Given as goal

abbrev pub invariant-loop-place : goal.invariant-loop-place
invariant-loop-place l = record {
  names : (fs : List Stored) → l.end ≤ length fs → map (slice_get fs) l.places.items ≡ map Some (drop l.first (take l.place fs));
  room : l.end + vec_len l.places ≤ vec_capacity l.places + l.place;
}
