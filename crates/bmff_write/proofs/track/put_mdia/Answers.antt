use Rattle.std.proofs.Common.{append_assoc}
use Rattle.bmff_write.proofs.BoxLaws.{on_ok_then}
use Rattle.bmff_write.proofs.MovieSizes.{mdia_is}
use Rattle.bmff_write.proofs.track.put_mdia.Goals as goal

pub returns : goal.returns
returns c =
    on_ok_then c.put_minf.result c.put_minf.ensures (λ put.
    rw (mdia_is c.args.track.now c.args.stsd.now)
    (simp append_assoc at (rw (c.in_ok-put_hdlr.ensures, c.in_ok-put_mdhd.ensures, c.in_ok-put_header.ensures, c.mdia_len.ensures.size) at put)))
