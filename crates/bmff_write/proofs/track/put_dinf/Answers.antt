use Rattle.std.proofs.Common.{append_assoc}
use Rattle.bmff_write.proofs.BoxLaws.{on_ok_then}
use Rattle.bmff_write.proofs.MovieSizes.{dinf_is}
use Rattle.bmff_write.proofs.track.put_dinf.Goals as goal

pub returns : goal.returns
returns c =
    on_ok_then c.put_dref.result c.put_dref.ensures (λ put.
    rw dinf_is
    (simp append_assoc at (rw c.in_ok-put_header.ensures at put)))
