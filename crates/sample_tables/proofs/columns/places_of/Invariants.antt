use Rattle.std.proofs.Common.{◌≡◌, ◌++◌, drop, length, sum}
use Rattle.sample_tables.specs.Samples.{places_of}
use Rattle.sample_tables.specs.Rules.{are_inside}
use Rattle.sample_tables.proofs.columns.places_of.Given as goal

abbrev pub invariant-loop-i : goal.invariant-loop-i
invariant-loop-i l = record {
  same : l.places.items ++ places_of (drop l.i l.offsets) (drop l.i l.counts) l.rest ≡ places_of l.offsets l.counts l.sizes;
  inside : are_inside l.len (places_of (drop l.i l.offsets) (drop l.i l.counts) l.rest) l.rest ≡ are_inside l.len (places_of l.offsets l.counts l.sizes) l.sizes;
  total : sum (drop l.i l.counts) ≡ length l.rest;
}
