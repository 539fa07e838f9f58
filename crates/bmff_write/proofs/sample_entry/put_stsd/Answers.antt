use Rattle.std.proofs.Common.{append_assoc}
use Rattle.bmff_write.proofs.BoxLaws.{on_ok_then}
use Rattle.bmff_write.proofs.MovieSizes.{stsd_is}
use Rattle.bmff_write.proofs.sample_entry.put_stsd.Goals as goal

pub returns : goal.returns
returns c =
    on_ok_then c.put_sample_entry.result c.put_sample_entry.ensures (λ put.
    rw (stsd_is c.args.track.now)
    (simp append_assoc at (rw (c.in_ok-put_fields.ensures, c.in_ok-put_header.ensures, c.sample_entry_len.ensures.size) at put)))
