use Rattle.std.proofs.Common.{◌≡◌, ◌≤◌, map, vec_len}
use Rattle.mse_engine.specs.State.{State}
use Rattle.mse_engine.specs.Standing.{Stands}
use Rattle.script_run.specs.DrainSteps.{AreInDrainOrder, IsQuiet}
use Rattle.script_run.specs.Progress.{own_turns_left}
use Rattle.script_run.specs.PlayedParts.{IsPlayedInLine}
use Rattle.script_run.specs.Keeps.{AreListenersKept}
use Rattle.script_run.specs.RunStates.{run_at}
use Rattle.script_run.proofs.run.ScriptRun.finish_work.Given as goal

abbrev pub invariant-turning : goal.invariant-turning
invariant-turning g l = record {
  count : vec_len l.listeners ≡ vec_len l.fn.listeners;
  kept : AreListenersKept (λ b. b.vtable) (λ b. (goal.Listener-dyn g (b.vtable, b.value)).way b.value) (λ b. (goal.Listener-dyn g (b.vtable, b.value)).rules b.value) (λ b. (goal.Listener-dyn g (b.vtable, b.value)).notes b.value)
      l.fn.listeners.items l.listeners.items;
  ran : IsPlayedInLine l.blobs (AreInDrainOrder l.blobs)
      (run_at l.fn.self (g.K.Sink.written l.fn.sink) (map (λ b. (goal.Listener-dyn g (b.vtable, b.value)).notes b.value) l.fn.listeners.items))
      (run_at l.self (g.K.Sink.written l.sink) (map (λ b. (goal.Listener-dyn g (b.vtable, b.value)).notes b.value) l.listeners.items));
  same_faults : g.K.Sink.faults l.sink ≡ g.K.Sink.faults l.fn.sink;
  left : l.self.left ≤ l.fn.self.left;
  quiet : (st : State) → Stands l.self.engine st → IsQuiet st;
}

abbrev pub decreases-turning : goal.decreases-turning
decreases-turning g l = own_turns_left l.self.engine
