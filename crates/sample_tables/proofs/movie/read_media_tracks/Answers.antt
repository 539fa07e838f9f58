use Rattle.std.proofs.Common.{ap, sym, ◌∙◌, arith}
use lib.Chars.{codes}
use Rattle.bmff_boxes.specs.Rows.{all_of}
use Rattle.sample_tables.specs.declared.totals.Totals.{Totals}
use Rattle.sample_tables.specs.Movies.{media_tracks_of}
use Rattle.sample_tables.proofs.MovieLaws.{boxes_none, infos_end}
use Rattle.sample_tables.proofs.movie.read_media_tracks.Goals as goal

pub returns-clause-value : goal.returns-clause-value
returns-clause-value c =
    let e = c.in_default.ensures.none.0 in
    sym c.boxes.invariant.same ∙ ap (media_tracks_of c.args.len c.boxes.tracks.items) (boxes_none c.boxes.rest.now (all_of (codes "trak") c.boxes.movie) (ap (all_of (codes "trak")) e))

pub returns-clause-facts : goal.returns-clause-facts
returns-clause-facts c =
    let e = c.in_default.ensures.none.0 in
    let none = boxes_none c.boxes.rest.now (all_of (codes "trak") c.boxes.movie) (ap (all_of (codes "trak")) e) in
    record {
      infos = infos_end c.boxes.tracks.items _ _ none c.boxes.invariant.infos;
      each = c.boxes.invariant.each;
      samples = omega (arith, c.boxes.invariant.samples, ap (λ (t : Totals). t.samples) c.boxes.invariant.totals);
    }
