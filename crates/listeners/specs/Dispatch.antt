-- The dispatch of an event to listeners, one after the other.
use Rattle.std.specs.Prelude.{ℕ, ◌+◌, ◌<◌, ◌≤◌, ◌≡◌, ◌⊎◌, List, [], ◌∷◌, ◌++◌, length, Option, Result, Ok, Err, slice_index_or}
use Rattle.mse_base.specs.declared.memory.OutOfMemory.{OutOfMemory as NoMemory}
use Rattle.mse_calls.specs.declared.answers.Answer.{Answer}
use Rattle.mse_calls.specs.declared.calls.Call.{Call}
use Rattle.mse_calls.specs.declared.events.Event.{Event}
use Rattle.mse_calls.specs.declared.entry.Entry.{Entry}
use Rattle.mse_calls.specs.declared.entry.Entry.TheVariants.{Listener}
use Rattle.mse_engine.specs.Transitions.{IsTransition}
use Rattle.run_steps.specs.declared.note.Note.{Note}
use Rattle.run_steps.specs.declared.note.Note.TheVariants.{Heard, Made, Told}
use Rattle.listeners.specs.declared.event_dispatch.DispatchFault.{DispatchFault}
use Rattle.listeners.specs.declared.event_dispatch.DispatchFault.TheVariants.{OutOfMemory, CallBudget, TaskBudget}
use Rattle.listeners.specs.Notes.{asked_note, call_notes, call_count, event_notes}
use Rattle.listeners.specs.Views.{RunView, TurnView, DispatchView}

-- each entry is a call of a listener; their numbers never fall, and lie from `low` on below `high`
abbrev pub AreCallsInTurn : ℕ → ℕ → List Entry → Type 0
AreCallsInTurn low high [] = Unit {0}
AreCallsInTurn low high (Listener v call answer ∷ entries) =
    (low ≤ v) × (v < high) × AreCallsInTurn v high entries
AreCallsInTurn low high (other ∷ entries) = ⊥

-- What calls of listeners do, by their entries: the journal grows by these, the engine goes by them,
-- and the calls that are left fall by their number.
pub record IsAfterCalls (blobs : List (List ℕ)) (old new : RunView)
    (entries : List Entry) : Type 0 where
  pub journal : new.entries ≡ old.entries ++ entries
  pub engine : IsTransition blobs old.engine new.engine entries
  pub left : old.left ≡ new.left + length entries

-- ---- how a listener could not be served

-- Where the turn of a listener ends: its number, the calls that listeners made, how many calls are
-- left behind them, and its notes before the event and now.
pub record TurnEnd : Type 0 where
  pub listener : ℕ
  pub entries : List Entry
  pub left : ℕ
  pub before : List Note
  pub now : List Note

-- the notes of its calls, and their number
abbrev pub own_notes : TurnEnd → List Note
own_notes end = call_notes end.listener end.entries

abbrev pub own_count : TurnEnd → ℕ
own_count end = call_count end.listener end.entries

-- it heard the event, made these calls, and answered one more, which was not made
abbrev pub IsCallUnmade : Event → TurnEnd → Type 0
IsCallUnmade event end =
    (call : Call) × (end.now ≡ end.before ++ (Heard event ∷ own_notes end ++ Made call ∷ []))

-- it was not told the last answer
abbrev pub IsAnswerUntold : Event → TurnEnd → Type 0
IsAnswerUntold event end =
    (answer : Answer) × (end.now ++ Told answer ∷ [] ≡ end.before ++ Heard event ∷ own_notes end)

-- it did not hear the event, and made no call
pub record IsUnheard (count : ℕ) (before now : List Note) : Type 0 where
  pub no_call : count ≡ 0
  pub notes : now ≡ before

-- it may make one call more: it made fewer than 1000 for the event, and calls are left
abbrev pub IsWithinLimits : TurnEnd → Type 0
IsWithinLimits end = (own_count end < 1000) × (0 < end.left)

-- Memory may run out before it hears the event, before it is asked for a call, after a call is made,
-- or before one is made that it may make.
abbrev pub IsOutOfMemory : Event → TurnEnd → Type 0
IsOutOfMemory event end =
    IsUnheard (own_count end) end.before end.now
    ⊎ (end.now ≡ end.before ++ Heard event ∷ own_notes end)
    ⊎ IsAnswerUntold event end
    ⊎ (IsWithinLimits end × IsCallUnmade event end)

-- the fault with which its turn ends
abbrev pub IsFault : DispatchFault → Event → TurnEnd → Type 0
IsFault OutOfMemory event end = IsOutOfMemory event end
IsFault (CallBudget k) event end =
    (k ≡ end.listener) × (own_count end ≡ 1000) × IsCallUnmade event end
IsFault TaskBudget event end =
    (end.left ≡ 0) × (own_count end < 1000) × IsCallUnmade event end

-- ---- the turn of one listener

-- a call of the listener was made, and it was told the answer and asked again; or memory ran out
-- before the call or after it
abbrev pub IsCallTurn : List (List ℕ) → Call → TurnView → TurnView
    → Result (Option Call) NoMemory → Type 0
IsCallTurn blobs call old new (Ok asked) =
    (answer : Answer) × IsAfterCalls blobs old.run new.run (Listener old.number call answer ∷ [])
    × (new.notes ≡ old.notes ++ Told answer ∷ asked_note asked)
IsCallTurn blobs call old new (Err memory) =
    (new.notes ≡ old.notes) × (IsAfterCalls blobs old.run new.run []
    ⊎ ((answer : Answer)
    × IsAfterCalls blobs old.run new.run (Listener old.number call answer ∷ [])))

abbrev pub HasTurnNotes : Event → TurnEnd → Result (Unit {0}) DispatchFault → Type 0
HasTurnNotes event end (Ok u) = end.now ≡ end.before ++ event_notes event end.listener end.entries
HasTurnNotes event end (Err fault) = IsFault fault event end

-- where a turn in which these calls were made ends
abbrev pub turn_end : List Entry → TurnView → TurnView → TurnEnd
turn_end entries old new = record {
  listener = old.number;
  entries = entries;
  left = new.run.left;
  before = old.notes;
  now = new.notes;
}

-- the listener heard the event, and made its calls, at most 1000
pub record IsServed (blobs : List (List ℕ)) (event : Event) (old new : TurnView)
    (result : Result (Unit {0}) DispatchFault) : Type 0 where
  pub entries : List Entry
  pub calls : IsAfterCalls blobs old.run new.run entries
  pub own : AreCallsInTurn old.number (old.number + 1) entries
  pub few : length entries ≤ 1000
  pub notes : HasTurnNotes event (turn_end entries old new) result

-- ---- all listeners

-- the notes of a listener, by its number
abbrev pub notes_at : List (List Note) → ℕ → List Note
notes_at all w = slice_index_or all w []

-- the listeners below this number were served
abbrev pub AreServedBelow : Event → List Entry → ℕ → List (List Note) → List (List Note) → Type 0
AreServedBelow event entries high before now =
    (w : ℕ) → w < high → notes_at now w ≡ notes_at before w ++ event_notes event w entries

-- those from this number on heard nothing, and made no call
abbrev pub AreUnheardFrom : ℕ → List Entry → List (List Note) → List (List Note) → Type 0
AreUnheardFrom low entries before now =
    (w : ℕ) → low ≤ w → IsUnheard (call_count w entries) (notes_at before w) (notes_at now w)

-- Where a dispatch ends: the calls that listeners made, how many calls are left behind them, and the
-- notes of each listener before the event and now.
pub record DispatchEnd : Type 0 where
  pub entries : List Entry
  pub left : ℕ
  pub before : List (List Note)
  pub now : List (List Note)

abbrev pub dispatch_end : List Entry → ℕ → List (List Note) → List (List Note) → DispatchEnd
dispatch_end entries left before now =
    record { entries = entries; left = left; before = before; now = now }

-- of one listener
abbrev pub turn_end_of : ℕ → DispatchEnd → TurnEnd
turn_end_of w end = record {
  listener = w;
  entries = end.entries;
  left = end.left;
  before = notes_at end.before w;
  now = notes_at end.now w;
}

-- The dispatch ended at one listener with a fault: those before it were served, and those behind it
-- heard nothing.
pub record IsFailedDispatch (event : Event) (end : DispatchEnd)
    (fault : DispatchFault) : Type 0 where
  pub listener : ℕ
  pub within : listener < length end.before
  pub served : AreServedBelow event end.entries listener end.before end.now
  pub behind : AreUnheardFrom (listener + 1) end.entries end.before end.now
  pub ending : IsFault fault event (turn_end_of listener end)

abbrev pub IsDispatchEnd : Event → DispatchEnd → Result (Unit {0}) DispatchFault → Type 0
IsDispatchEnd event end (Ok u) =
    AreServedBelow event end.entries (length end.before) end.before end.now
IsDispatchEnd event end (Err fault) = IsFailedDispatch event end fault

-- the dispatch of an event, by what was before it and is after it
pub record IsDispatch (blobs : List (List ℕ)) (event : Event) (old new : DispatchView)
    (result : Result (Unit {0}) DispatchFault) : Type 0 where
  pub entries : List Entry
  pub calls : IsAfterCalls blobs old.run new.run entries
  pub in_turn : AreCallsInTurn 0 (length old.notes) entries
  pub few : (w : ℕ) → call_count w entries ≤ 1000
  pub outcome : IsDispatchEnd event (dispatch_end entries new.run.left old.notes new.notes) result
