use Rattle.std.proofs.Common.{append_assoc}
use Rattle.bmff_write.proofs.BoxLaws.{on_ok_then}
use Rattle.bmff_write.proofs.FragmentSizes.{traf_is}
use Rattle.bmff_write.proofs.fragment.put_traf.Goals as goal

pub returns : goal.returns
returns c =
    on_ok_then c.put_trun.result c.put_trun.ensures (λ put.
    rw (traf_is c.args.at c.args.traf.now)
    (simp append_assoc at (rw (c.as_slice.ensures, c.in_ok-put_tfdt.ensures, c.in_ok-put_tfhd.ensures, c.in_ok-put_header.ensures, c.traf_size.ensures) at put)))
