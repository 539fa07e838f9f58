-- What a stop tells of the part that stopped.
use Rattle.std.proofs.Common.{◌≡◌, List, ap, inl, inr, refl, subst, sym}
use Rattle.std.specs.Prelude.{◌⊎◌, Option, Some, None}
use Rattle.mse_calls.specs.declared.entry.Entry.{Entry}
use Rattle.mse_outside.specs.Outside.{SinkView}
use Rattle.listeners.specs.declared.event_dispatch.DispatchFault.{DispatchFault}
use Rattle.listeners.specs.declared.event_dispatch.DispatchFault.TheVariants as fault
use Rattle.script_run.specs.declared.stop.Stop.{Stop}
use Rattle.script_run.specs.declared.stop.Stop.TheVariants.{Memory, Write, CallBudget, TaskBudget}
use Rattle.script_run.specs.PlayedParts.{IsDispatchCut, IsHeardUpTo, IsStoppedBy, IsWrittenToLastStep, IsWrittenUpTo, stop_of}
use Rattle.script_run.specs.RunStates.{OutsideView}
use Rattle.script_run.specs.Text.{lines_of}
use Rattle.script_run.specs.Turns.{CallsLeft}
use Rattle.script_run.specs.Writes.{IsWritten}

-- where memory or the sink was wanting, the lines were written up to the last thing that was done
pub to_last_step : (stop : Stop) (f : Option DispatchFault) (es : List Entry) (t0 t1 : SinkView) → (stop ≡ Memory) ⊎ (stop ≡ Write) → IsWrittenUpTo stop f es t0 t1 → IsWrittenToLastStep es t0 t1
to_last_step Memory None es t0 t1 is w = w
to_last_step Memory (Some fault.OutOfMemory) es t0 t1 is w = w
to_last_step Memory (Some (fault.CallBudget k)) es t0 t1 is w = w.0
to_last_step Memory (Some fault.TaskBudget) es t0 t1 is w = w.0
to_last_step Write None es t0 t1 is w = w
to_last_step Write (Some fault.OutOfMemory) es t0 t1 is w = absurd w
to_last_step Write (Some (fault.CallBudget k)) es t0 t1 is w = w
to_last_step Write (Some fault.TaskBudget) es t0 t1 is w = w
to_last_step (CallBudget k) f es t0 t1 (inl e) w = absurd (cc)
to_last_step (CallBudget k) f es t0 t1 (inr e) w = absurd (cc)
to_last_step TaskBudget f es t0 t1 (inl e) w = absurd (cc)
to_last_step TaskBudget f es t0 t1 (inr e) w = absurd (cc)

-- two faults are no one stop
same_fault : (f g : DispatchFault) → stop_of f ≡ stop_of g → f ≡ g
same_fault fault.OutOfMemory fault.OutOfMemory e = refl
same_fault fault.OutOfMemory (fault.CallBudget j) e = absurd (cc)
same_fault fault.OutOfMemory fault.TaskBudget e = absurd (cc)
same_fault (fault.CallBudget k) fault.OutOfMemory e = absurd (cc)
same_fault (fault.CallBudget k) (fault.CallBudget j) e =
    let same : k ≡ j = cc in
    ap fault.CallBudget same
same_fault (fault.CallBudget k) fault.TaskBudget e = absurd (cc)
same_fault fault.TaskBudget fault.OutOfMemory e = absurd (cc)
same_fault fault.TaskBudget (fault.CallBudget j) e = absurd (cc)
same_fault fault.TaskBudget fault.TaskBudget e = refl

limit_by : (calls_left : CallsLeft) (f : DispatchFault) (o : Option DispatchFault) (es : List Entry) (a b : OutsideView) → ¬ (f ≡ fault.OutOfMemory)
    → IsHeardUpTo calls_left o es a.notes b.notes → IsWrittenUpTo (stop_of f) o es a.written b.written → IsDispatchCut calls_left f es a.notes b.notes × IsWritten (lines_of es) a.written b.written
limit_by calls_left fault.OutOfMemory o es a b not h w = absurd (not refl)
limit_by calls_left (fault.CallBudget k) None es a b not h w = absurd w
limit_by calls_left (fault.CallBudget k) (Some g) es a b not h w = (subst (λ (x : DispatchFault). IsDispatchCut calls_left x es a.notes b.notes) (sym (same_fault (fault.CallBudget k) g w.0)) h, w.1)
limit_by calls_left fault.TaskBudget None es a b not h w = absurd w
limit_by calls_left fault.TaskBudget (Some g) es a b not h w = (subst (λ (x : DispatchFault). IsDispatchCut calls_left x es a.notes b.notes) (sym (same_fault fault.TaskBudget g w.0)) h, w.1)

-- at a limit the last dispatch ended with it, and all lines were written
pub at_limit : (calls_left : CallsLeft) (f : DispatchFault) (es : List Entry) (a b : OutsideView) → ¬ (f ≡ fault.OutOfMemory) → IsStoppedBy calls_left (stop_of f) es a b
    → IsDispatchCut calls_left f es a.notes b.notes × IsWritten (lines_of es) a.written b.written
at_limit calls_left f es a b not s = limit_by calls_left f s.fault es a b not s.heard s.wrote
