use Rattle.std.proofs.Common.{◌≡◌, refl}
use Rattle.mse_engine.specs.Work.{after_work}
use Rattle.script_run.proofs.RunSteps.{idle_none, idle_same, worked_goes}
use Rattle.script_run.proofs.run.ScriptRun.work.Goals as goal

pub returns-in-Ok-Idle-clause-ok : goal.returns-in-Ok-Idle-clause-ok
returns-in-Ok-Idle-clause-ok g c =
    let worked = rw c.in-Ok-Idle.field-0-is at c.in-Ok-Idle.ensures.worked in
    let same : c.work.new.self ≡ c.self.inside.engine = idle_same (after_work c.args.k c.sound.ensures.standing.state) _ _ (worked c.sound.ensures.standing.state c.sound.ensures.standing.stands) in
    λ blobs. (rw (same, c.reserve.ensures.entries) c.self.view_is, λ st h. idle_none (after_work c.args.k st) c.self.inside.engine c.work.new.self (worked st (rw (← c.self.view_is) at h)))

pub returns-in-Ok-Did-clause-ok : goal.returns-in-Ok-Did-clause-ok
returns-in-Ok-Did-clause-ok g c = λ blobs.
    let worked = rw c.in-Ok-Did.field-0-is at c.in-Ok-Did.ensures.worked in
    rw (← c.self.view_is) (record {
      grew = rw c.reserve.ensures.entries at c.push_work_reserved.ensures.entries;
      goes = worked_goes blobs c.self.inside.engine c.work.new.self c.args.k worked c.in-Ok-Did.ensures.sound;
      left = refl;
    })
