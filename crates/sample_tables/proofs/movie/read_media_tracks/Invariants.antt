use Rattle.std.proofs.Common.{◌≡◌, ◌≤◌, ◌^◌, ◌++◌, [], map, length}
use lib.Chars.{codes}
use Rattle.std.specs.List.{AllByRecursion}
use Rattle.mse_base.specs.Presentation.{IsReadable}
use Rattle.bmff_boxes.specs.Rows.{all_of}
use Rattle.sample_tables.specs.Rules.{totals_of}
use Rattle.sample_tables.specs.Facts.{IsFileTrack}
use Rattle.sample_tables.specs.Movies.{media_boxes, media_tracks_of}
use Rattle.sample_tables.proofs.movie.read_media_tracks.Given as goal

abbrev pub invariant-boxes : goal.invariant-boxes
invariant-boxes l = record {
  same : media_tracks_of l.len l.tracks.items (media_boxes l.rest (all_of (codes "trak") l.movie)) ≡ media_tracks_of l.len [] (media_boxes l.infos (all_of (codes "trak") l.initial.movie));
  infos : map (λ t. t.info) l.tracks.items ++ map (λ b. b.0) (media_boxes l.rest (all_of (codes "trak") l.movie)) ≡ map (λ b. b.0) (media_boxes l.infos (all_of (codes "trak") l.initial.movie));
  readable : AllByRecursion IsReadable l.rest;
  totals : l.totals ≡ totals_of l.tracks.items;
  samples : l.totals.samples ≤ 2 ^ 22;
  bytes : l.totals.bytes ≤ 2 ^ 30;
  each : AllByRecursion (IsFileTrack l.len) l.tracks.items;
}

abbrev pub decreases-boxes : goal.decreases-boxes
decreases-boxes l = length l.movie
