use Rattle.std.proofs.Common.{[], refl}
use Rattle.script_run.proofs.DrainParts.{calm_then, drains_event, drains_none, drains_then}
use Rattle.script_run.proofs.run.ScriptRun.fire_quietly.Goals as goal

pub firing-init : goal.firing-init
firing-init g c = record { drains = λ blobs. drains_none blobs _; calm = record { buffers = refl; turns = refl } }

pub firing-preserved : goal.firing-preserved
firing-preserved g c =
    let took = rw c.in-Some.is at c.in-Ok.ensures.ok in
    let fewer = rw c.in-Some.is at c.in-Ok.ensures.fewer in
    record {
      drains = λ blobs. drains_then blobs _ _ _ (c.firing.invariant.drains blobs) (drains_event blobs _ _ c.in-Some._event (took blobs));
      calm = calm_then _ _ _ c.firing.invariant.calm (fewer refl).calm;
    }

pub returns-in_default-next_event-clause-drains : goal.returns-in_default-next_event-clause-drains
returns-in_default-next_event-clause-drains g c =
    let took = rw c.in_default-next_event.is at c.in-Ok.ensures.ok in
    λ blobs. rw (took blobs).0 (c.firing.invariant.drains blobs)

pub returns-in_default-next_event-clause-calm : goal.returns-in_default-next_event-clause-calm
returns-in_default-next_event-clause-calm g c =
    let took = rw c.in_default-next_event.is at c.in-Ok.ensures.ok in
    rw (took []).0 c.firing.invariant.calm

pub returns-in_default-next_event-clause-nothing_left : goal.returns-in_default-next_event-clause-nothing_left
returns-in_default-next_event-clause-nothing_left g c =
    let took = rw c.in_default-next_event.is at c.in-Ok.ensures.ok in
    λ st h. (took []).1 st (rw (took []).0 at h)
