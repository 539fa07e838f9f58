use Rattle.std.proofs.Common.{append_assoc}
use Rattle.bmff_write.proofs.BoxLaws.{on_ok_then}
use Rattle.bmff_write.proofs.FragmentSizes.{trun_is}
use Rattle.bmff_write.proofs.fragment.put_trun.Goals as goal

pub returns : goal.returns
returns c =
    on_ok_then c.put_samples.result c.put_samples.ensures (λ put.
    rw (trun_is c.args.at c.args.samples.now)
    (simp append_assoc at (rw (c.in_ok-put_fields.ensures, c.in_ok-put_header.ensures) at put)))
