use Rattle.std.proofs.Common.{◌∙◌, refl, sym}
use Rattle.script_run.proofs.RunSteps.{none_waits}
use Rattle.script_run.proofs.run.ScriptRun.take_event.Goals as goal

pub returns-then-not-has_event-clause-ok : goal.returns-then-not-has_event-clause-ok
returns-then-not-has_event-clause-ok g c = λ blobs. (refl, λ st h. none_waits st.element.queue (sym (c.has_event.ensures st (rw (← c.self.view_is) at h)) ∙ c.if-not-has_event.true))
