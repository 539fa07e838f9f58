use Rattle.std.proofs.Common.{◌≡◌, length, []}
use lib.Chars.{codes}
use Rattle.bmff_boxes.specs.Rows.{boxes_in, all_of}
use Rattle.bmff_init.specs.Tracks.{tracks_of_traks}
use Rattle.bmff_init.proofs.track.read_tracks.Given as goal

abbrev pub invariant-boxes : goal.invariant-boxes
invariant-boxes l = tracks_of_traks l.form l.movie_scale (all_of (codes "trex") (boxes_in l.mvex)) l.tracks.items (all_of (codes "trak") l.movie) ≡ tracks_of_traks l.form l.movie_scale (all_of (codes "trex") (boxes_in l.mvex)) [] (all_of (codes "trak") l.initial.movie)

abbrev pub decreases-boxes : goal.decreases-boxes
decreases-boxes l = length l.movie
