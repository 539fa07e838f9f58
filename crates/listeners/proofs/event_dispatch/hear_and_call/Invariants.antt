use Rattle.std.proofs.Common.{◌≡◌, ◌-◌}
use Rattle.listeners.specs.Ways.{IsByWay}
use Rattle.listeners.specs.Views.{turn_view, view_of_run}
use Rattle.listeners.proofs.ListenerTurns.{IsServing}
use Rattle.listeners.proofs.event_dispatch.hear_and_call.Given as goal

abbrev pub invariant-loop-next_call : goal.invariant-loop-next_call
invariant-loop-next_call g l = record {
  kind : l.listener.vtable ≡ l.fn.listener.vtable;
  way : (goal.Listener-dyn g (l.listener.vtable, l.listener.value)).way l.listener.value ≡ (goal.Listener-dyn g (l.fn.listener.vtable, l.fn.listener.value)).way l.fn.listener.value;
  by_way : IsByWay ((goal.Listener-dyn g (l.fn.listener.vtable, l.fn.listener.value)).way l.fn.listener.value) ((goal.Listener-dyn g (l.fn.listener.vtable, l.fn.listener.value)).rules l.fn.listener.value) ((goal.Listener-dyn g (l.fn.listener.vtable, l.fn.listener.value)).notes l.fn.listener.value)
      → IsByWay ((goal.Listener-dyn g (l.listener.vtable, l.listener.value)).way l.listener.value) ((goal.Listener-dyn g (l.listener.vtable, l.listener.value)).rules l.listener.value) ((goal.Listener-dyn g (l.listener.vtable, l.listener.value)).notes l.listener.value);
  rules : (goal.Listener-dyn g (l.listener.vtable, l.listener.value)).rules l.listener.value ≡ (goal.Listener-dyn g (l.fn.listener.vtable, l.fn.listener.value)).rules l.fn.listener.value;
  serving : IsServing l.blobs l.event
      (turn_view l.number (view_of_run l.fn.engine l.fn.journal.entries l.fn.left) ((goal.Listener-dyn g (l.fn.listener.vtable, l.fn.listener.value)).notes l.fn.listener.value))
      (turn_view l.number (view_of_run l.engine l.journal.entries l.left) ((goal.Listener-dyn g (l.listener.vtable, l.listener.value)).notes l.listener.value)) (record { call_count = l.call_count; next_call = l.next_call });
}

abbrev pub decreases-loop-next_call : goal.decreases-loop-next_call
decreases-loop-next_call g l = 1001 - l.call_count
