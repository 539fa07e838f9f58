use Rattle.std.proofs.Common.{◌≡◌, refl}
use Rattle.mse_engine.specs.Work.{after_element_turn}
use Rattle.script_run.proofs.DrainParts.{turn_did}
use Rattle.script_run.proofs.RunSteps.{idle_none, idle_same, turned_goes}
use Rattle.script_run.proofs.run.ScriptRun.turn.Goals as goal

pub returns-in-Ok-Idle-clause-ok : goal.returns-in-Ok-Idle-clause-ok
returns-in-Ok-Idle-clause-ok g c =
    let worked = rw c.in-Ok-Idle.field-0-is at c.in-Ok-Idle.ensures.worked in
    let same : c.element_turn.new.self ≡ c.self.inside.engine = idle_same (after_element_turn c.sound.ensures.standing.state) _ _ (worked c.sound.ensures.standing.state c.sound.ensures.standing.stands) in
    λ blobs. (rw (same, c.reserve.ensures.entries) c.self.view_is, λ st h. idle_none (after_element_turn st) c.self.inside.engine c.element_turn.new.self (worked st (rw (← c.self.view_is) at h)))

pub returns-in-Ok-Did-clause-fewer : goal.returns-in-Ok-Did-clause-fewer
returns-in-Ok-Did-clause-fewer g c = λ e.
    let worked = rw c.in-Ok-Did.field-0-is at c.in-Ok-Did.ensures.worked in
    rw (← c.self.view_is) (turn_did c.self.inside.engine c.element_turn.new.self c.sound.ensures.standing.state c.sound.ensures.standing.stands (worked c.sound.ensures.standing.state c.sound.ensures.standing.stands) c.element_turn.ensures.buffers)

pub returns-in-Ok-Did-clause-ok : goal.returns-in-Ok-Did-clause-ok
returns-in-Ok-Did-clause-ok g c = λ blobs.
    let worked = rw c.in-Ok-Did.field-0-is at c.in-Ok-Did.ensures.worked in
    rw (← c.self.view_is) (record {
      grew = rw c.reserve.ensures.entries at c.push_reserved.ensures.entries;
      goes = turned_goes blobs c.self.inside.engine c.element_turn.new.self worked c.in-Ok-Did.ensures.sound;
      left = refl;
    })
