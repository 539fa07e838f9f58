use Rattle.std.proofs.Common.{append_assoc}
use Rattle.bmff_write.proofs.BoxLaws.{on_ok_then}
use Rattle.bmff_write.proofs.FragmentSizes.{moof_is}
use Rattle.bmff_write.proofs.fragment.put_moof.Goals as goal

pub returns : goal.returns
returns c =
    on_ok_then c.put_trafs.result c.put_trafs.ensures (λ put.
    rw (moof_is c.args.sequence c.args.trafs.now)
    (simp append_assoc at (rw (c.moof_size-len.ensures.value, c.in_ok-put_mfhd.ensures, c.in_ok-put_header.ensures, c.moof_size-len.ensures.value) at put)))
