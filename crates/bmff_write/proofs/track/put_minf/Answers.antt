use Rattle.std.proofs.Common.{append_assoc}
use Rattle.bmff_write.proofs.BoxLaws.{on_ok_then}
use Rattle.bmff_write.proofs.MovieSizes.{minf_is}
use Rattle.bmff_write.proofs.track.put_minf.Goals as goal

pub returns : goal.returns
returns c =
    on_ok_then c.put_stbl.result c.put_stbl.ensures (λ put.
    rw (minf_is c.args.kind c.args.stsd.now)
    (simp append_assoc at (rw (c.in_ok-put_dinf.ensures, c.in_ok-put_media_header.ensures, c.in_ok-put_header.ensures, c.minf_len.ensures.size) at put)))
