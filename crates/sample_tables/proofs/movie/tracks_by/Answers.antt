use Rattle.std.proofs.Common.{◌≡◌, not, true, ap, sym, ◌∙◌, subst}
use Rattle.sample_tables.specs.Facts.{AreTracksOf}
use Rattle.sample_tables.specs.Movies.{is_empty, media_boxes, track_boxes}
use Rattle.sample_tables.proofs.FactLaws.{boxes_are, some_there, file_tracks_are}
use Rattle.sample_tables.proofs.MovieLaws.{boxes_none, no-boxes, some-boxes, no-tracks, if-ok-map}
use Rattle.sample_tables.proofs.movie.tracks_by.Goals as goal

pub returns-in_default-clause-value : goal.returns-in_default-clause-value
returns-in_default-clause-value c =
    no-tracks c.args.len _ (boxes_none c.args.infos.now (track_boxes c.args.moov.now) (no-boxes c.args.moov.now (sym c.in_default.ensures)))

pub returns-clause-facts : goal.returns-clause-facts
returns-clause-facts c =
    let infos = c.args.infos.now in
    let boxes = media_boxes infos (track_boxes c.args.moov.now) in
    let there : not (is_empty boxes) ≡ true = ap (λ ts. not (is_empty (media_boxes infos ts))) (some-boxes c.args.moov.now c.in-Some.movie (sym c.in-Some.ensures)) ∙ (sym c.has_media.ensures ∙ c.if-not-has_media.false) in
    let same = ap (media_boxes infos) (some-boxes c.args.moov.now c.in-Some-movie_boxes.movie (sym c.in-Some-movie_boxes.ensures)) in
    let are = boxes_are infos (track_boxes c.args.moov.now) c.requires.readable c.requires.few c.requires.distinct in
    if-ok-map c.read_media_tracks.result _ _ (λ v t. file_tracks_are c.args.len boxes v.items are (some_there boxes there) (subst (λ bs. AreTracksOf c.args.len bs v.items) (sym same) t)) c.read_media_tracks.ensures.facts
