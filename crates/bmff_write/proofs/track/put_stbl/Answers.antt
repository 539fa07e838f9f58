use Rattle.std.proofs.Common.{append_assoc}
use Rattle.bmff_write.proofs.BoxLaws.{on_ok_then}
use Rattle.bmff_write.proofs.MovieSizes.{stbl_is}
use Rattle.bmff_write.proofs.track.put_stbl.Goals as goal

pub returns : goal.returns
returns c =
    on_ok_then c.put_empty_table-3.result c.put_empty_table-3.ensures (λ put.
    rw (stbl_is c.args.stsd.now)
    (simp append_assoc at (rw (c.in_ok-put_stsz.ensures, c.in_ok-put_empty_table-2.ensures, c.in_ok-put_empty_table.ensures, c.in_ok-extend_from_slice.ensures.items, c.in_ok-put_header.ensures, c.stbl_len.ensures.size) at put)))
