use Rattle.std.proofs.Common.{◌∷◌, [], sym, subst, append_assoc}
use Rattle.std.specs.List.{flat_map, range_with_len}
use Rattle.bmff_write.specs.declared.track_out.TrackOut.{TrackOut}
use Rattle.bmff_write.specs.Tracks.{AreTracksOut}
use Rattle.bmff_write.specs.Movie.{init_bytes}
use Rattle.bmff_write.specs.Made.{made_track, made_segment}
use Rattle.bmff_write.proofs.MadeLaws.{made_tracks, segments_more}
use Rattle.bmff_write.proofs.made.make.Goals as goal

pub init-requires : goal.init-requires
init-requires c = subst (λ (t : TrackOut). AreTracksOut (t ∷ [])) (sym c.track.ensures) made_tracks

pub loop-j-preserved : goal.loop-j-preserved
loop-j-preserved c =
    let j = c.loop-j.j in
    let more = segments_more made_segment j in
    let joined = append_assoc (init_bytes (made_track ∷ [])) (flat_map made_segment (range_with_len 0 j)) (made_segment j) in
    cc (more, joined, c.in_ok-put_made_segment.ensures, c.loop-j.invariant)
