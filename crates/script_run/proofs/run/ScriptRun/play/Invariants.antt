use Rattle.std.proofs.Common.{◌≡◌, map, vec_len}
use Rattle.script_run.specs.PlayedParts.{IsPlayed}
use Rattle.script_run.specs.Keeps.{AreListenersKept}
use Rattle.script_run.specs.RunStates.{run_at}
use Rattle.std.proofs.Common.{take}
use Rattle.script_run.specs.Follows.{AreScriptLinesDone}
use Rattle.script_run.specs.Lines.{limits}
use Rattle.script_run.proofs.run.ScriptRun.play.Given as goal

abbrev pub invariant-loop-n : goal.invariant-loop-n
invariant-loop-n g l = record {
  count : vec_len l.listeners ≡ vec_len l.fn.listeners;
  kept : AreListenersKept (λ b. b.vtable) (λ b. (goal.Listener-dyn g (b.vtable, b.value)).way b.value) (λ b. (goal.Listener-dyn g (b.vtable, b.value)).rules b.value) (λ b. (goal.Listener-dyn g (b.vtable, b.value)).notes b.value)
      l.fn.listeners.items l.listeners.items;
  played : IsPlayed l.blobs (AreScriptLinesDone l.blobs (limits l.limit (vec_len l.fn.listeners)) (take l.n l.lines))
      (run_at l.fn.self (g.K.Sink.written l.fn.sink) (map (λ b. (goal.Listener-dyn g (b.vtable, b.value)).notes b.value) l.fn.listeners.items))
      (run_at l.self (g.K.Sink.written l.sink) (map (λ b. (goal.Listener-dyn g (b.vtable, b.value)).notes b.value) l.listeners.items));
  same_faults : g.K.Sink.faults l.sink ≡ g.K.Sink.faults l.fn.sink;
}
