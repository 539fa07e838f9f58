use Rattle.std.proofs.Common.{◌≡◌, ◌+◌, ◌∷◌, [], ◌++◌, map, take, ap, sym, ◌∙◌}
use Rattle.std.proofs.lemmas.List.{map_push, take_more}
use Rattle.bmff_write.specs.declared.track_out.TrackOut.{TrackOut}
use Rattle.bmff_write.specs.Tracks.{IsShort}
use Rattle.bmff_write.specs.Movie.{stsd_bytes}
use Rattle.bmff_write.proofs.MovieLaws.{all_push}
use Rattle.bmff_write.proofs.sample_entry.sample_descriptions.Goals as goal

pub loop-track-preserved : goal.loop-track-preserved
loop-track-preserved c =
    let tracks = c.args.tracks.now in
    let i = c.loop-track.track-index in
    let t = c.track-item.result in
    let taken : take (i + 1) tracks ≡ take i tracks ++ t ∷ [] = take_more tracks i t c.loop-track-test.true ∙ ap (λ (u : TrackOut). take i tracks ++ u ∷ []) (sym c.track-item.is) in
    record {
      value = cc (ap (map stsd_bytes) taken, map_push stsd_bytes (take i tracks) t, c.in_ok-push.ensures.items, c.in_ok-stsd.ensures.value, c.loop-track.invariant.value);
      short = rw c.in_ok-push.ensures.items (all_push IsShort c.loop-track.boxes.items c.in_ok-stsd.stsd c.loop-track.invariant.short c.in_ok-stsd.ensures.stsd_short);
    }
