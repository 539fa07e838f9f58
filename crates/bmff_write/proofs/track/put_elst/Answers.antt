use Rattle.std.proofs.Common.{append_assoc}
use Rattle.bmff_write.proofs.BoxLaws.{on_ok_then}
use Rattle.bmff_write.proofs.MovieSizes.{elst_is}
use Rattle.bmff_write.proofs.track.put_elst.Goals as goal

pub returns : goal.returns
returns c =
    on_ok_then c.put_edits.result c.put_edits.ensures (λ put.
    rw (elst_is c.args.edits.now)
    (simp append_assoc at (rw (c.in_ok-put_fields.ensures, c.in_ok-put_header.ensures) at put)))
