use Rattle.std.proofs.Common.{◌≡◌, take}
use Rattle.std.specs.List.{sum_by}
use Rattle.bmff_write.specs.declared.traf_out.TrafOut.{TrafOut}
use Rattle.bmff_write.specs.Tracks.{payload_len}
use Rattle.bmff_write.proofs.fragment.payload_size.Given as goal

-- the bytes of the samples of the track fragments so far
abbrev pub invariant-loop-traf : goal.invariant-loop-traf
invariant-loop-traf l = l.len ≡ sum_by (λ (t : TrafOut). payload_len t.samples) (take l.traf-index l.trafs)
