use Rattle.std.proofs.Common.{◌≡◌, refl}
use Rattle.mse_engine.specs.Work.{fire_result}
use Rattle.script_run.proofs.WorkLeft.{fired_taken}
use Rattle.script_run.proofs.RunSteps.{fired_goes, no_event, not_fired}
use Rattle.script_run.proofs.run.ScriptRun.fire_first.Goals as goal

pub returns-in_default-clause-ok : goal.returns-in_default-clause-ok
returns-in_default-clause-ok g c =
    let same : c.fire.new.self ≡ c.self.inside.engine = not_fired (fire_result c.sound.ensures.standing.state) _ _ (c.in_default.ensures.fired c.sound.ensures.standing.state c.sound.ensures.standing.stands) in
    λ blobs. (
      rw (same, c.reserve.ensures.entries) c.self.view_is,
      λ st h. no_event st.element.queue st c.self.inside.engine c.fire.new.self (c.in_default.ensures.fired st (rw (← c.self.view_is) at h)),
    )

pub returns-clause-fewer : goal.returns-clause-fewer
returns-clause-fewer g c = λ e.
    rw (← c.self.view_is) (fired_taken c.self.inside.engine c.fire.new.self c.sound.ensures.standing.state c.in-Some.event c.sound.ensures.standing.stands (c.in-Some.ensures.fired c.sound.ensures.standing.state c.sound.ensures.standing.stands) c.fire.ensures.buffers)

pub returns-clause-ok : goal.returns-clause-ok
returns-clause-ok g c = λ blobs. rw (← c.self.view_is) (record {
  grew = rw c.reserve.ensures.entries at c.push_reserved.ensures.entries;
  goes = fired_goes blobs c.self.inside.engine c.fire.new.self c.in-Some.event c.in-Some.ensures.fired c.in-Some.ensures.sound;
  left = refl;
})
