use Rattle.std.proofs.Common.{◌≡◌, map, take}
use Rattle.std.specs.List.{AllByRecursion}
use Rattle.bmff_write.specs.Tracks.{IsShort}
use Rattle.bmff_write.specs.Movie.{stsd_bytes}
use Rattle.bmff_write.proofs.sample_entry.sample_descriptions.Given as goal

-- the boxes of the tracks so far
abbrev pub invariant-loop-track : goal.invariant-loop-track
invariant-loop-track l = record {
  value : l.boxes.items ≡ map stsd_bytes (take l.track-index l.tracks);
  short : AllByRecursion IsShort l.boxes.items;
}
