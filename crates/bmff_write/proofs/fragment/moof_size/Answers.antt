use Rattle.std.proofs.Common.{arith}
use Rattle.std.proofs.lemmas.List.Sums.{sum_by-take-le}
use Rattle.bmff_write.specs.Fragment.{traf_len}
use Rattle.bmff_write.proofs.FragmentSizes.{sum_within, trafs_len_is}
use Rattle.bmff_write.proofs.fragment.moof_size.Goals as goal

pub overflow_add-len : goal.overflow_add-len
overflow_add-len c =
    let within = sum_within traf_len c.args.trafs.now c.loop-traf.traf-index c.traf-item.result c.loop-traf-test.true c.traf-item.is in
    omega (arith, within, trafs_len_is c.args.trafs.now)

pub returns-clause-limit : goal.returns-clause-limit
returns-clause-limit c =
    let within = sum_by-take-le traf_len c.args.trafs.now c.loop-traf.traf-index in
    omega (arith, within, trafs_len_is c.args.trafs.now)
