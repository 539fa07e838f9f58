use Rattle.std.proofs.Common.{◌≡◌, ◌++◌, take}
use Rattle.std.specs.List.{flat_map}
use Rattle.bmff_write.specs.Fragment.{sample_bytes}
use Rattle.bmff_write.proofs.fragment.put_samples.Given as goal

-- the samples so far were appended
abbrev pub invariant-loop-sample : goal.invariant-loop-sample
invariant-loop-sample l = l.out.items ≡ l.fn.out.items ++ flat_map sample_bytes (take l.sample-index l.samples)
