use Rattle.std.proofs.Common.{append_assoc}
use Rattle.bmff_write.proofs.BoxLaws.{on_ok_then}
use Rattle.bmff_write.proofs.MovieSizes.{mvex_is}
use Rattle.bmff_write.proofs.movie.put_mvex.Goals as goal

pub returns : goal.returns
returns c =
    on_ok_then c.put_trexes.result c.put_trexes.ensures (λ put.
    rw (mvex_is c.args.tracks.now)
    (simp append_assoc at (rw (c.in_ok-put_header.ensures, c.mvex_len.ensures.size) at put)))
