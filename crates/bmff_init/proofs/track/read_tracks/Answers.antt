use Rattle.std.proofs.Common.{◌≡◌, ap, ◌∙◌, sym, List}
use lib.Chars.{codes}
use Rattle.std.proofs.lemmas.Result.{err_from_is_err_and}
use Rattle.bmff_boxes.specs.Rows.{BoxView, boxes_in, all_of}
use Rattle.bmff_init.specs.Tracks.{track_of_trak, tracks_of_traks}
use Rattle.bmff_boxes.proofs.RowLaws.{all-here}
use Rattle.bmff_init.proofs.MovieLaws.{tracks-go, tracks-stop, tracks-done}
use Rattle.bmff_init.proofs.track.read_tracks.Goals as goal

pub returns-in_err-track : goal.returns-in_err-track
returns-in_err-track c =
    let s = c.boxes in
    let f = c.in-Some.child in
    let trexes = all_of (codes "trex") (boxes_in c.args.mvex.now) in
    let h = all-here f.kind (codes "trak") f.payload.now c.next.new.self s.movie (sym c.eq.ensures ∙ c.if-eq.true) c.in-Some.ensures.some in
    let read : c.read_track.result ≡ track_of_trak c.args.form c.args.movie_scale trexes s.tracks.items f.payload.now = c.read_track.ensures ∙ ap (λ before. track_of_trak c.args.form c.args.movie_scale trexes before f.payload.now) c.as_slice.ensures.value in
    let same = sym (ap (λ traks. tracks_of_traks c.args.form c.args.movie_scale trexes s.tracks.items traks) h) ∙ s.invariant in
    let p = err_from_is_err_and c.from_residual.result c.from_residual.ensures.1 in
    rw (p.1, p.2) (tracks-stop c.args.form c.args.movie_scale trexes s.tracks.items f.payload.now _ c.in_err-track.field-0.0 _ (sym read ∙ c.in_err-track.was) same)

pub boxes-preserved-in-Continue-branch-2 : goal.boxes-preserved-in-Continue-branch-2
boxes-preserved-in-Continue-branch-2 c =
    let s = c.boxes in
    let f = c.in-Some.child in
    let trexes = all_of (codes "trex") (boxes_in c.args.mvex.now) in
    let h = all-here f.kind (codes "trak") f.payload.now c.next.new.self s.movie (sym c.eq.ensures ∙ c.if-eq.true) c.in-Some.ensures.some in
    let read : c.read_track.result ≡ track_of_trak c.args.form c.args.movie_scale trexes s.tracks.items f.payload.now = c.read_track.ensures ∙ ap (λ before. track_of_trak c.args.form c.args.movie_scale trexes before f.payload.now) c.as_slice.ensures.value in
    let same = sym (ap (λ traks. tracks_of_traks c.args.form c.args.movie_scale trexes s.tracks.items traks) h) ∙ s.invariant in
    ap (λ before. tracks_of_traks c.args.form c.args.movie_scale trexes before (all_of (codes "trak") c.next.new.self)) c.in_ok-push.ensures.items
    ∙ tracks-go c.args.form c.args.movie_scale trexes s.tracks.items f.payload.now _ c.in_ok-track.track _ (sym read ∙ c.in_ok-track.was) same

pub returns : goal.returns
returns c =
    let s = c.boxes in
    let trexes = all_of (codes "trex") (boxes_in c.args.mvex.now) in
    let e = c.in_default.ensures.none.0 in
    tracks-done c.args.form c.args.movie_scale trexes s.tracks.items _ (sym (ap (λ (row : List BoxView). tracks_of_traks c.args.form c.args.movie_scale trexes s.tracks.items (all_of (codes "trak") row)) e) ∙ s.invariant)
