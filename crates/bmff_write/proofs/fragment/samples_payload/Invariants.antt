use Rattle.std.proofs.Common.{◌≡◌, take}
use Rattle.bmff_write.specs.Tracks.{payload_len}
use Rattle.bmff_write.proofs.fragment.samples_payload.Given as goal

-- the bytes of the samples so far
abbrev pub invariant-loop-sample : goal.invariant-loop-sample
invariant-loop-sample l = l.len ≡ payload_len (take l.sample-index l.samples)
