use Rattle.std.proofs.Common.{◌≡◌, ◌++◌, ◌+◌, drop, take}
use Rattle.std.specs.List.{sum_by}
use Rattle.bmff_write.specs.declared.traf_out.TrafOut.{TrafOut}
use Rattle.bmff_write.specs.Tracks.{payload_len}
use Rattle.bmff_write.specs.Fragment.{trafs_bytes}
use Rattle.bmff_write.proofs.fragment.put_trafs.Given as goal

-- what was appended, with the track fragments that are left, is all; the place is behind the payloads so far
abbrev pub invariant-loop-traf : goal.invariant-loop-traf
invariant-loop-traf l = record {
  wrote : l.out.items ++ trafs_bytes l.at (drop l.traf-index l.trafs) ≡ l.fn.out.items ++ trafs_bytes l.start l.trafs;
  place : l.at ≡ l.start + sum_by (λ (t : TrafOut). payload_len t.samples) (take l.traf-index l.trafs);
}
