use Rattle.std.proofs.Common.{◌≡◌, length}
use lib.Chars.{codes}
use Rattle.bmff_boxes.specs.Rows.{all_of}
use Rattle.sample_tables.specs.Movies.{is_empty, media_boxes}
use Rattle.sample_tables.proofs.movie.has_media.Given as goal

abbrev pub invariant-boxes : goal.invariant-boxes
invariant-boxes l = is_empty (media_boxes l.rest (all_of (codes "trak") l.movie)) ≡ is_empty (media_boxes l.infos (all_of (codes "trak") l.initial.movie))

abbrev pub decreases-boxes : goal.decreases-boxes
decreases-boxes l = length l.movie
