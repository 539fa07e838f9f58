-- A part of a run.
use Rattle.std.specs.Prelude.{◌≡◌, ◌⊎◌, ℕ, ◌+◌, Bool, true, false, List, [], ◌∷◌, ◌++◌, length, Option, Some, None, Result, Ok, Err, ⊤}
use Rattle.mse_calls.specs.declared.answers.Answer.{Answer}
use Rattle.mse_calls.specs.declared.calls.Call.{Call}
use Rattle.mse_calls.specs.declared.events.Event.{Event}
use Rattle.mse_calls.specs.declared.entry.Entry.{Entry}
use Rattle.mse_calls.specs.declared.entry.Entry.TheVariants.{Script, Fired}
use Rattle.run_steps.specs.declared.note.Note.{Note}
use Rattle.listeners.specs.declared.event_dispatch.DispatchFault.{DispatchFault}
use Rattle.listeners.specs.declared.event_dispatch.DispatchFault.TheVariants as fault
use Rattle.listeners.specs.Dispatch.{AreCallsInTurn, IsFailedDispatch, dispatch_end}
use Rattle.listeners.specs.Views.{RunView}
use Rattle.mse_outside.specs.Outside.{SinkView}
use Rattle.event_text.specs.Lines.{line_text}
use Rattle.mse_engine.specs.State.{State}
use Rattle.mse_engine.specs.Standing.{Stands}
use Rattle.mse_engine.specs.Transitions.{IsTransition}
use Rattle.script_run.specs.declared.stop.Halt.{Halt}
use Rattle.script_run.specs.declared.stop.Halt.TheVariants as halt
use Rattle.script_run.specs.declared.stop.Stop.{Stop}
use Rattle.script_run.specs.declared.stop.Stop.TheVariants.{Memory, Write, CallBudget, TaskBudget}
use Rattle.script_run.specs.RunParts.{RunPart, EntryRelation}
use Rattle.script_run.specs.DrainSteps.{AreInDrainOrder, MachineStep, HasNoEvent}
use Rattle.script_run.specs.RunStates.{OutsideView, PrintedRun, RunState, outside_in}
use Rattle.script_run.specs.Lines.{own_of}
use Rattle.script_run.specs.NoteHistory.{IsAllHeard}
use Rattle.script_run.specs.Text.{lines_of}
use Rattle.script_run.specs.Turns.{AreCallsInPlace, CallsLeft, HasCallsLeft, calls_in}
use Rattle.script_run.specs.Writes.{IsWritten, IsFrontWritten, IsFrontWrittenBehind, IsShortOf}

-- entries came, which the engine went by, and no listener called
pub record IsOwnStep (blobs : List (List ℕ)) (entries : List Entry)
    (old new : RunView) : Type 0 where
  pub grew : new.entries ≡ old.entries ++ entries
  pub goes : IsTransition blobs old.engine new.engine entries
  pub left : new.left ≡ old.left

-- a part of a drain of which no listener heard
pub record IsSilentDrain (blobs : List (List ℕ)) (old new : RunView) : Type 0 where
  pub entries : List Entry
  pub stepped : IsOwnStep blobs entries old new
  pub order : (st : State) → Stands old.engine st → AreInDrainOrder blobs st entries
  pub silent : calls_in entries ≡ 0

-- the entry of a step came where there was something to do; else nothing changed
abbrev pub IsOwnStepIf : List (List ℕ) → MachineStep → RunView → RunView → Bool → Type 0
IsOwnStepIf blobs step old new true = IsOwnStep blobs (step.entry ∷ []) old new
IsOwnStepIf blobs step old new false =
    (new ≡ old) × ((st : State) → Stands old.engine st → step.after st ≡ None)

-- the first event was fired; or there was none, and nothing changed
abbrev pub IsEventTaken : List (List ℕ) → RunView → RunView → Option Event → Type 0
IsEventTaken blobs old new (Some event) = IsOwnStep blobs (Fired event ∷ []) old new
IsEventTaken blobs old new None =
    (new ≡ old) × ((st : State) → Stands old.engine st → HasNoEvent st)

-- the journal grew by entries of a part, which the engine went by
pub record HasGrown (blobs : List (List ℕ)) (does : EntryRelation) (old new : RunView)
    (entries : List Entry) : Type 0 where
  pub grew : new.entries ≡ old.entries ++ entries
  pub goes : IsTransition blobs old.engine new.engine entries
  pub holds : (st : State) → Stands old.engine st → does st entries

-- a part went through: all its lines were written, and each listener heard and answered each event
pub record IsPlayed (blobs : List (List ℕ)) (does : EntryRelation)
    (old new : RunState) : Type 0 where
  pub entries : List Entry
  pub grew : HasGrown blobs does old.run new.run entries
  pub calls : AreCallsInPlace (length old.notes) entries
  pub wrote : IsWritten (lines_of entries) old.written new.written
  pub heard : IsAllHeard entries old.notes new.notes

-- and the calls that listeners made were taken off what is left
pub record IsPlayedInLine (blobs : List (List ℕ)) (does : EntryRelation)
    (old new : RunState) : Type 0 where
  pub played : IsPlayed blobs does old new
  pub left : old.run.left ≡ new.run.left + calls_in played.entries

-- The dispatch of the last event ended with a fault; the entries behind it are its calls, and so many
-- calls were left then.
pub record IsDispatchCut (calls_left : CallsLeft) (fault : DispatchFault) (entries : List Entry)
    (old new : List (List Note)) : Type 0 where
  pub before : List Entry
  pub event : Event
  pub calls : List Entry
  pub left : ℕ
  pub middle : List (List Note)
  pub entries_are : entries ≡ before ++ Fired event ∷ calls
  pub left_is : calls_left entries left
  pub heard : IsAllHeard before old middle
  pub in_turn : AreCallsInTurn 0 (length middle) calls
  pub count : length new ≡ length middle
  pub end : IsFailedDispatch event (dispatch_end calls left middle new) fault

-- one thing that was done at most, with the calls by which listeners answered it
abbrev pub IsOneStepAtMost : List Entry → Type 0
IsOneStepAtMost [] = ⊤
IsOneStepAtMost (entry ∷ calls) = own_of (entry ∷ calls) ≡ entry ∷ []

-- How far the entries are ahead of what was written: all their lines were written, but that of those of the last thing that
-- was done only a front may have been.
pub record IsWrittenToLastStep (entries : List Entry) (old new : SinkView) : Type 0 where
  pub before : List Entry
  pub last : List Entry
  pub entries_are : entries ≡ before ++ last
  pub one_step : IsOneStepAtMost last
  pub wrote : IsFrontWrittenBehind (lines_of before) (lines_of last) old new

-- the stop that the want of memory or of the sink is
abbrev pub stop_of_halt : Halt → Stop
stop_of_halt halt.Memory = Memory
stop_of_halt halt.Write = Write

-- the stop that a fault of a dispatch is
abbrev pub stop_of : DispatchFault → Stop
stop_of fault.OutOfMemory = Memory
stop_of (fault.CallBudget k) = CallBudget k
stop_of fault.TaskBudget = TaskBudget

-- How much was written where a part stopped so; the fault is that of the last dispatch, if it had one. At a limit all lines
-- were. Where memory or the sink was wanting, all lines but those of the last thing that was done were, and a front of
-- these. Where memory was wanting although the last dispatch ended at a limit, not all of these.
abbrev pub IsWrittenUpTo : Stop → Option DispatchFault → List Entry → SinkView → SinkView → Type 0
IsWrittenUpTo Memory None entries old new = IsWrittenToLastStep entries old new
IsWrittenUpTo Memory (Some fault.OutOfMemory) entries old new = IsWrittenToLastStep entries old new
IsWrittenUpTo Memory (Some limit) entries old new =
    IsWrittenToLastStep entries old new × IsShortOf (lines_of entries) old new
IsWrittenUpTo Write (Some fault.OutOfMemory) entries old new = ⊥
IsWrittenUpTo Write other entries old new = IsWrittenToLastStep entries old new
IsWrittenUpTo stop None entries old new = ⊥
IsWrittenUpTo stop (Some fault) entries old new =
    (stop ≡ stop_of fault) × IsWritten (lines_of entries) old new

-- What was heard: each listener heard each event and answered it, but that the last dispatch may have ended with
-- a fault.
abbrev pub IsHeardUpTo : CallsLeft → Option DispatchFault → List Entry
    → List (List Note) → List (List Note) → Type 0
IsHeardUpTo calls_left None entries old new = IsAllHeard entries old new
IsHeardUpTo calls_left (Some fault) entries old new = IsDispatchCut calls_left fault entries old new

-- How far a part came that stopped for this reason: what was heard, and what was written.
pub record IsStoppedBy (calls_left : CallsLeft) (stop : Stop) (entries : List Entry)
    (old new : OutsideView) : Type 0 where
  pub fault : Option DispatchFault
  pub heard : IsHeardUpTo calls_left fault entries old.notes new.notes
  pub wrote : IsWrittenUpTo stop fault entries old.written new.written

-- a front of a part, and what says how many calls are left behind its entries
pub record PartFront : Type 1 where
  pub begins : EntryRelation
  pub calls_left : CallsLeft

abbrev pub part_front : EntryRelation → CallsLeft → PartFront
part_front begins calls_left = record { begins = begins; calls_left = calls_left }

-- a part stopped: the entries are those of a front of it
pub record IsPlayedUpTo (blobs : List (List ℕ)) (front : PartFront) (stop : Stop)
    (old new : RunState) : Type 0 where
  pub entries : List Entry
  pub grew : HasGrown blobs front.begins old.run new.run entries
  pub calls : AreCallsInPlace (length old.notes) entries
  pub stopped : IsStoppedBy front.calls_left stop entries (outside_in old) (outside_in new)

-- in a line, in which so many calls were left
pub record IsPlayedInLineUpTo (blobs : List (List ℕ)) (begins : EntryRelation) (stop : Stop)
    (old new : RunState) : Type 0 where
  pub played : IsPlayedUpTo blobs (part_front begins (HasCallsLeft old.run.left)) stop old new
  pub left : old.run.left ≡ new.run.left + calls_in played.entries

-- a part or a front of it, by how it ended
abbrev pub IsPlayedBy : {A : Type 0} → CallsLeft → RunPart
    → RunState → RunState → Result A Stop → Type 0
IsPlayedBy calls_left course old new (Ok x) = IsPlayed course.blobs course.does old new
IsPlayedBy calls_left course old new (Err stop) =
    IsPlayedUpTo course.blobs (part_front course.begins calls_left) stop old new

abbrev pub IsPlayedInLineBy : {A : Type 0} → RunPart → RunState → RunState → Result A Stop → Type 0
IsPlayedInLineBy course old new (Ok x) = IsPlayedInLine course.blobs course.does old new
IsPlayedInLineBy course old new (Err stop) =
    IsPlayedInLineUpTo course.blobs course.begins stop old new

-- a call of the script was made, and its line was written
pub record IsCallMade (blobs : List (List ℕ)) (call : Call) (old new : PrintedRun) : Type 0 where
  pub answer : Answer
  pub stepped : IsOwnStep blobs (Script call answer ∷ []) old.run new.run
  pub wrote : IsWritten (line_text (Script call answer) ∷ []) old.written new.written

-- a front of its line was written
pub record IsCallHalfWritten (blobs : List (List ℕ)) (call : Call)
    (old new : PrintedRun) : Type 0 where
  pub answer : Answer
  pub stepped : IsOwnStep blobs (Script call answer ∷ []) old.run new.run
  pub wrote : IsFrontWritten (line_text (Script call answer) ∷ []) old.written new.written

-- it was not made, or a front of its line was written
abbrev pub IsCallHalted : List (List ℕ) → Call → PrintedRun → PrintedRun → Type 0
IsCallHalted blobs call old new =
    ((new.run ≡ old.run) × (new.written ≡ old.written)) ⊎ IsCallHalfWritten blobs call old new
