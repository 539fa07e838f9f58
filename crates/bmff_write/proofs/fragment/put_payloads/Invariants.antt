use Rattle.std.proofs.Common.{◌≡◌, ◌++◌, take}
use Rattle.bmff_write.specs.Fragment.{payloads_of}
use Rattle.bmff_write.proofs.fragment.put_payloads.Given as goal

-- the samples so far were appended
abbrev pub invariant-loop-sample : goal.invariant-loop-sample
invariant-loop-sample l = l.out.items ≡ l.fn.out.items ++ payloads_of (take l.sample-index l.samples)
