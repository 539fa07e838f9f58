use Rattle.std.proofs.Common.{◌≡◌, ◌+◌, take}
use Rattle.std.specs.List.{sum_by}
use Rattle.bmff_write.specs.Fragment.{traf_len}
use Rattle.bmff_write.proofs.fragment.moof_size.Given as goal

-- the bytes of the track fragments so far
abbrev pub invariant-loop-traf : goal.invariant-loop-traf
invariant-loop-traf l = l.len ≡ 24 + sum_by traf_len (take l.traf-index l.trafs)
