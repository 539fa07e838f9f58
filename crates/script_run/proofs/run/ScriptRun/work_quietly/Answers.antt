use Rattle.std.proofs.Common.{◌≡◌, [], List, ℕ, refl, sym, true}
use Rattle.std.specs.Prelude.{Some}
use Rattle.mse_engine.specs.State.{State}
use Rattle.mse_engine.specs.Standing.{IsStanding, Stands}
use Rattle.mse_engine.specs.Work.{running_in}
use Rattle.script_run.specs.PlayedParts.{IsSilentDrain}
use Rattle.script_run.proofs.DrainParts.{did_work, drains_none, drains_then, drains_work}
use Rattle.script_run.proofs.run.ScriptRun.work_quietly.Goals as goal

pub working-init : goal.working-init
working-init g c = record { drains = λ blobs. drains_none blobs _ }

pub returns-in_default-clause-drains : goal.returns-in_default-clause-drains
returns-in_default-clause-drains g c = λ blobs. drains_then blobs _ _ _ (c.working.invariant.drains blobs) (c.fire_quietly.ensures.drains blobs)

pub returns-in_default-running-clause-drains : goal.returns-in_default-running-clause-drains
returns-in_default-running-clause-drains g c = λ blobs. drains_then blobs _ _ _ (c.working.invariant.drains blobs) (c.fire_quietly.ensures.drains blobs)

pub returns-in_default-running-clause-nothing_left : goal.returns-in_default-running-clause-nothing_left
returns-in_default-running-clause-nothing_left g c = λ st h. record { queue = c.in-Ok.ensures.nothing_left st h; running = sym (c.in_default-running.ensures st (rw (← c.self.view_is) at h)) }

pub working-smaller : goal.working-smaller
working-smaller g c =
    let both : (blobs : List (List ℕ)) → IsSilentDrain blobs c.args.self.now c.fire_quietly.new.self = λ blobs. drains_then blobs _ _ _ (c.working.invariant.drains blobs) (c.fire_quietly.ensures.drains blobs) in
    let stands : IsStanding c.fire_quietly.new.self.engine = rw (← c.self.view_is) c.sound.ensures.standing in
    let runs : (st : State) → Stands c.fire_quietly.new.self.engine st → running_in st ≡ Some c.in-Some.k = λ st h. sym (c.in-Some.ensures st (rw (← c.self.view_is) at h)) in
    let did : c.in-Ok-work._has_worked ≡ true = did_work [] c.in-Some.k c.in-Ok-work._has_worked c.fire_quietly.new.self c.work.new.self stands runs (c.in-Ok-work.ensures.ok []) in
    let fewer = (rw did at c.in-Ok-work.ensures.fewer) refl in
    rw c.in-Ok.ensures.calm.buffers at fewer

pub working-preserved : goal.working-preserved
working-preserved g c =
    let both : (blobs : List (List ℕ)) → IsSilentDrain blobs c.args.self.now c.fire_quietly.new.self = λ blobs. drains_then blobs _ _ _ (c.working.invariant.drains blobs) (c.fire_quietly.ensures.drains blobs) in
    let stands : IsStanding c.fire_quietly.new.self.engine = rw (← c.self.view_is) c.sound.ensures.standing in
    let runs : (st : State) → Stands c.fire_quietly.new.self.engine st → running_in st ≡ Some c.in-Some.k = λ st h. sym (c.in-Some.ensures st (rw (← c.self.view_is) at h)) in
    record {
      drains = λ blobs. drains_then blobs _ _ _ (both blobs)
          (drains_work blobs c.in-Some.k c.in-Ok-work._has_worked c.fire_quietly.new.self c.work.new.self stands c.in-Ok.ensures.nothing_left runs (c.in-Ok-work.ensures.ok blobs));
    }

pub returns-in_default-work-clause-drains : goal.returns-in_default-work-clause-drains
returns-in_default-work-clause-drains g c =
    let both : (blobs : List (List ℕ)) → IsSilentDrain blobs c.args.self.now c.fire_quietly.new.self = λ blobs. drains_then blobs _ _ _ (c.working.invariant.drains blobs) (c.fire_quietly.ensures.drains blobs) in
    λ blobs. rw c.in_default-work.ensures.err (both blobs)
