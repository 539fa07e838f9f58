use Rattle.std.proofs.Common.{ℕ, List, map, ap, sym, ◌∙◌, subst, take_all}
use Rattle.bmff_write.specs.declared.track_out.TrackOut.{TrackOut}
use Rattle.bmff_write.specs.Tracks.{AreTracksOut, AreSampleDescriptions}
use Rattle.sample_tables.specs.declared.media_track.MediaTrack.{MediaTrack}
use Rattle.remux.specs.Pieces.{track_out}
use Rattle.remux.proofs.PieceLaws.{tracks_out_are, descriptions_are}
use Rattle.remux.proofs.pieces.init_segment_of.Goals as goal

pub write_init_with-requires-clause-tracks : goal.write_init_with-requires-clause-tracks
write_init_with-requires-clause-tracks c =
    let all = take_all c.loop-track.track-index c.args.tracks.now c.loop-track-test.false in
    subst AreTracksOut (sym (c.as_slice.ensures.value ∙ (c.loop-track.invariant.tracks ∙ ap (map track_out) all))) (tracks_out_are c.args.len c.args.tracks.now c.requires)

pub write_init_with-requires-clause-descriptions : goal.write_init_with-requires-clause-descriptions
write_init_with-requires-clause-descriptions c =
    let all = take_all c.loop-track.track-index c.args.tracks.now c.loop-track-test.false in
    let stsds = c.as_slice-2.ensures.value ∙ (c.loop-track.invariant.stsds ∙ ap (map (λ (t : MediaTrack). t.stsd)) all) in
    subst (λ (ts : List TrackOut). AreSampleDescriptions ts c.as_slice-2.result.now) (sym (c.as_slice.ensures.value ∙ (c.loop-track.invariant.tracks ∙ ap (map track_out) all)))
    (subst (λ (ss : List (List ℕ)). AreSampleDescriptions (map track_out c.args.tracks.now) ss) (sym stsds) (descriptions_are c.args.len c.args.tracks.now c.requires.each))
