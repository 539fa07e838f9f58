use Rattle.std.proofs.Common.{◌≡◌, map, vec_len}
use Rattle.script_run.specs.DrainSteps.{AreInDrainOrder}
use Rattle.script_run.specs.Progress.{IsCalm, events_left}
use Rattle.script_run.specs.PlayedParts.{IsPlayedInLine}
use Rattle.script_run.specs.Keeps.{AreListenersKept}
use Rattle.script_run.specs.RunStates.{run_at}
use Rattle.script_run.proofs.run.ScriptRun.fire_all.Given as goal

abbrev pub invariant-firing : goal.invariant-firing
invariant-firing g l = record {
  count : vec_len l.listeners ≡ vec_len l.fn.listeners;
  kept : AreListenersKept (λ b. b.vtable) (λ b. (goal.Listener-dyn g (b.vtable, b.value)).way b.value) (λ b. (goal.Listener-dyn g (b.vtable, b.value)).rules b.value) (λ b. (goal.Listener-dyn g (b.vtable, b.value)).notes b.value)
      l.fn.listeners.items l.listeners.items;
  ran : IsPlayedInLine l.blobs (AreInDrainOrder l.blobs)
      (run_at l.fn.self (g.K.Sink.written l.fn.sink) (map (λ b. (goal.Listener-dyn g (b.vtable, b.value)).notes b.value) l.fn.listeners.items))
      (run_at l.self (g.K.Sink.written l.sink) (map (λ b. (goal.Listener-dyn g (b.vtable, b.value)).notes b.value) l.listeners.items));
  same_faults : g.K.Sink.faults l.sink ≡ g.K.Sink.faults l.fn.sink;
  left : l.self.left ≡ l.before;
  begun : l.before ≡ l.fn.self.left;
  calm : IsCalm l.fn.self.engine l.self.engine;
}

abbrev pub decreases-firing : goal.decreases-firing
decreases-firing g l = events_left l.self.engine
