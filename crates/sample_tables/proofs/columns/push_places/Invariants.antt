use Rattle.std.proofs.Common.{◌≡◌, ◌++◌, drop}
use Rattle.sample_tables.specs.Samples.{places_from}
use Rattle.sample_tables.specs.Rules.{are_inside}
use Rattle.sample_tables.proofs.columns.push_places.Given as goal

abbrev pub invariant-loop-size : goal.invariant-loop-size
invariant-loop-size l = record {
  same : l.places.items ++ places_from l.at (drop l.size-index l.sizes) ≡ l.fn.places.items ++ places_from l.start l.sizes;
  inside : are_inside l.len (places_from l.at (drop l.size-index l.sizes)) (drop l.size-index l.sizes) ≡ are_inside l.len (places_from l.start l.sizes) l.sizes;
}
