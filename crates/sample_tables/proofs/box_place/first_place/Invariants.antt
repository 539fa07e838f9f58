use Rattle.std.proofs.Common.{◌≡◌, ◌≤◌, length, IfSome}
use Rattle.sample_tables.specs.BoxPlaces.{first_place}
use Rattle.sample_tables.proofs.PlaceLaws.{first_behind, rest_places}
use Rattle.sample_tables.proofs.box_place.first_place.Given as goal

abbrev pub invariant-boxes : goal.invariant-boxes
invariant-boxes l = record {
  same : first_behind l.first l.kind (rest_places (length l.bytes) l.walk.rest.now) ≡ first_place l.kind l.bytes;
  left : length l.walk.rest.now ≤ length l.bytes;
  order : IfSome l.first (λ place. place.start ≤ place.end);
  within : IfSome l.first (λ place. place.end ≤ length l.bytes);
}

abbrev pub decreases-boxes : goal.decreases-boxes
decreases-boxes l = length l.walk.rest.now
