use Rattle.std.proofs.Common.{refl}
use Rattle.live_session.specs.declared.live.StepResult.TheVariants as result
use Rattle.mseplay_c.proofs.sessions.step.Goals as goal

pub returns-in-NoStep : goal.returns-in-NoStep
returns-in-NoStep c = (result.NoStep, refl, refl, c.in-NoStep.ensures.result, c.in-NoStep.ensures.ended)

pub returns-in-Memory : goal.returns-in-Memory
returns-in-Memory c = (result.Memory, refl, refl, c.in-Memory.ensures.result, c.in-Memory.ensures.ended)

pub returns-in-NoBytes : goal.returns-in-NoBytes
returns-in-NoBytes c = (result.NoBytes, refl, refl, c.in-NoBytes.ensures.result, c.in-NoBytes.ensures.ended)
