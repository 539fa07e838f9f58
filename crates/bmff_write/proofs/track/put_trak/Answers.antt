use Rattle.std.proofs.Common.{append_assoc}
use Rattle.bmff_write.proofs.BoxLaws.{on_ok_then}
use Rattle.bmff_write.proofs.MovieSizes.{trak_is}
use Rattle.bmff_write.proofs.track.put_trak.Goals as goal

pub returns : goal.returns
returns c =
    on_ok_then c.put_mdia.result c.put_mdia.ensures (λ put.
    rw (trak_is c.args.track.now c.args.stsd.now)
    (simp append_assoc at (rw (c.in_ok-put_edts.ensures, c.as_slice.ensures, c.in_ok-put_tkhd.ensures, c.in_ok-put_header.ensures, c.trak_len.ensures.size) at put)))
