use Rattle.std.proofs.Common.{append_assoc}
use Rattle.bmff_write.proofs.BoxLaws.{on_ok_then}
use Rattle.bmff_write.proofs.FragmentSizes.{mdat_is}
use Rattle.bmff_write.proofs.fragment.put_mdat.Goals as goal

pub returns : goal.returns
returns c =
    on_ok_then c.put_all_payloads.result c.put_all_payloads.ensures (λ put.
    rw (mdat_is c.args.trafs.now)
    (simp append_assoc at (rw (c.in_ok-put_header.ensures, c.payload_size.ensures) at put)))
