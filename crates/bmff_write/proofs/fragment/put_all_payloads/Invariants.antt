use Rattle.std.proofs.Common.{◌≡◌, ◌++◌, take}
use Rattle.std.specs.List.{flat_map}
use Rattle.bmff_write.specs.declared.traf_out.TrafOut.{TrafOut}
use Rattle.bmff_write.specs.Fragment.{payloads_of}
use Rattle.bmff_write.proofs.fragment.put_all_payloads.Given as goal

-- the track fragments so far were appended
abbrev pub invariant-loop-traf : goal.invariant-loop-traf
invariant-loop-traf l = l.out.items ≡ l.fn.out.items ++ flat_map (λ (t : TrafOut). payloads_of t.samples) (take l.traf-index l.trafs)
