use Rattle.std.proofs.Common.{ap, ◌∙◌, sym}
use Rattle.bmff_fragment.specs.Plans.{plan_of}
use Rattle.segment_stream.proofs.pending.pending_moof.Goals as goal

pub returns-in-Ok-clause-value : goal.returns-in-Ok-clause-value
returns-in-Ok-clause-value c = absurd (c.requires.not_passed c.in-Some.with c.in-Ok.field-0.slots c.in-Some.is (ap (plan_of c.in-Some.with.tracks) (sym (c.as_slice.ensures ∙ c.in_ok-moof.ensures)) ∙ c.in-Ok.ensures.value))
