use Rattle.std.proofs.Common.{◌≡◌, map, vec_len}
use Rattle.listeners.specs.Ways.{AreByWay}
use Rattle.listeners.specs.Views.{dispatch_view, view_of_run}
use Rattle.listeners.proofs.EventDispatch.{IsDispatchUpTo}
use Rattle.listeners.proofs.DispatchSteps.{AreStepsUpTo}
use Rattle.listeners.specs.TurnSteps.{AreGrown}
use Rattle.listeners.proofs.event_dispatch.dispatch.Given as goal

abbrev pub invariant-loop-number : goal.invariant-loop-number
invariant-loop-number g l = record {
  len : vec_len l.listeners ≡ l.number-end;
  kinds : map (λ b. b.vtable) l.listeners.items ≡ map (λ b. b.vtable) l.fn.listeners.items;
  ways : map (λ b. (goal.Listener-dyn g (b.vtable, b.value)).way b.value) l.listeners.items ≡ map (λ b. (goal.Listener-dyn g (b.vtable, b.value)).way b.value) l.fn.listeners.items;
  by_way : AreByWay (λ b. (goal.Listener-dyn g (b.vtable, b.value)).way b.value) (λ b. (goal.Listener-dyn g (b.vtable, b.value)).rules b.value) (λ b. (goal.Listener-dyn g (b.vtable, b.value)).notes b.value) l.fn.listeners.items
      → AreByWay (λ b. (goal.Listener-dyn g (b.vtable, b.value)).way b.value) (λ b. (goal.Listener-dyn g (b.vtable, b.value)).rules b.value) (λ b. (goal.Listener-dyn g (b.vtable, b.value)).notes b.value) l.listeners.items;
  rules : map (λ b. (goal.Listener-dyn g (b.vtable, b.value)).rules b.value) l.listeners.items ≡ map (λ b. (goal.Listener-dyn g (b.vtable, b.value)).rules b.value) l.fn.listeners.items;
  progress : IsDispatchUpTo l.blobs l.event l.number
      (dispatch_view (view_of_run l.fn.engine l.fn.journal.entries l.fn.left) (map (λ b. (goal.Listener-dyn g (b.vtable, b.value)).notes b.value) l.fn.listeners.items))
      (dispatch_view (view_of_run l.engine l.journal.entries l.left) (map (λ b. (goal.Listener-dyn g (b.vtable, b.value)).notes b.value) l.listeners.items));
  grew : AreGrown (map (λ b. (goal.Listener-dyn g (b.vtable, b.value)).notes b.value) l.fn.listeners.items) (map (λ b. (goal.Listener-dyn g (b.vtable, b.value)).notes b.value) l.listeners.items);
  steps : AreStepsUpTo l.blobs l.event l.number
      (dispatch_view (view_of_run l.fn.engine l.fn.journal.entries l.fn.left) (map (λ b. (goal.Listener-dyn g (b.vtable, b.value)).notes b.value) l.fn.listeners.items))
      (dispatch_view (view_of_run l.engine l.journal.entries l.left) (map (λ b. (goal.Listener-dyn g (b.vtable, b.value)).notes b.value) l.listeners.items));
}
