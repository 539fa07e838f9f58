use Rattle.std.proofs.Common.{append_assoc}
use Rattle.bmff_write.proofs.BoxLaws.{on_ok_then}
use Rattle.bmff_write.proofs.MovieSizes.{dref_is}
use Rattle.bmff_write.proofs.track.put_dref.Goals as goal

pub returns : goal.returns
returns c =
    on_ok_then c.put_url.result c.put_url.ensures (λ put.
    rw dref_is
    (simp append_assoc at (rw (c.in_ok-put_fields.ensures, c.in_ok-put_header.ensures) at put)))
