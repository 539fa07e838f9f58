use Rattle.std.proofs.Common.{sym, ◌∙◌, ap, is_some}
use Rattle.bmff_boxes.proofs.RowLaws.{row-nil}
use Rattle.bmff_init.specs.Movies.{extends_of}
use Rattle.bmff_init.proofs.MovieLaws.{classic-extends}
use Rattle.bmff_init.proofs.movie.read_extends.Goals as goal

pub returns-in-Classic-clause-value : goal.returns-in-Classic-clause-value
returns-in-Classic-clause-value c = classic-extends c.args.movie.now ∙ sym (ap (λ form. extends_of form c.args.movie.now) c.in-Classic.is)

pub returns-in-Classic-clause-whole_boxes : goal.returns-in-Classic-clause-whole_boxes
returns-in-Classic-clause-whole_boxes c = ap is_some row-nil
