use Rattle.std.proofs.Common.{append_assoc}
use Rattle.bmff_write.proofs.BoxLaws.{on_ok_then}
use Rattle.bmff_write.proofs.MovieSizes.{moov_is}
use Rattle.bmff_write.proofs.movie.put_moov.Goals as goal

pub returns : goal.returns
returns c =
    on_ok_then c.put_mvex.result c.put_mvex.ensures (λ put.
    rw (moov_is c.args.tracks.now c.args.stsds.now)
    (simp append_assoc at (rw (c.in_ok-put_traks.ensures, c.in_ok-put_mvhd.ensures, c.greatest.ensures.value, c.in_ok-put_header.ensures, c.moov_len.ensures.size) at put)))
