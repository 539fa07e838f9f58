use Rattle.std.proofs.Common.{not, ap, sym, ◌∙◌}
use lib.Chars.{codes}
use Rattle.bmff_boxes.specs.Rows.{all_of}
use Rattle.sample_tables.specs.Movies.{is_empty}
use Rattle.sample_tables.proofs.MovieLaws.{boxes_none}
use Rattle.sample_tables.proofs.movie.has_media.Goals as goal

pub returns : goal.returns
returns c =
    let e = c.in_default.ensures.none.0 in
    ap not (sym (ap is_empty (boxes_none c.boxes.rest.now (all_of (codes "trak") c.boxes.movie) (ap (all_of (codes "trak")) e))) ∙ c.boxes.invariant)
