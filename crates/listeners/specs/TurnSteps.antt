-- The dispatch of an event, as steps of a run.
use Rattle.std.specs.Prelude.{ℕ, suc, ◌≡◌, ◌≢◌, List, ◌∷◌, ◌++◌, length, Some, Result, Ok, Err, slice_get, ⊤}
use Rattle.mse_calls.specs.declared.events.Event.{Event}
use Rattle.mse_engine.specs.Standing.{Stands}
use Rattle.run_steps.specs.declared.note.Note.{Note}
use Rattle.run_steps.specs.Happenings.{entries_in, notes_in, lines_put}
use Rattle.run_steps.specs.Steps.{Run, Todo, Hear, CallBudget, TaskBudget, over, Reaches}
use Rattle.run_steps.specs.Ways.{Way}
use Rattle.listeners.specs.declared.event_dispatch.DispatchFault.{DispatchFault}
use Rattle.listeners.specs.declared.event_dispatch.DispatchFault.TheVariants as fault
use Rattle.listeners.specs.Dispatch.{notes_at}
use Rattle.listeners.specs.Views.{RunView, TurnView, DispatchView}
use Rattle.listeners.specs.Ways.{IsByWay}

-- a listener was given or did nothing else than these, and more behind them
abbrev pub IsGrown : List Note → List Note → Type 0
IsGrown old new = (more : List Note) × (new ≡ old ++ more)

-- so it is with each listener
abbrev pub AreGrown : List (List Note) → List (List Note) → Type 0
AreGrown old new = (w : ℕ) → IsGrown (notes_at old w) (notes_at new w)

-- The run has come to what is seen: the engine stands for its state, its journal is this, and so many calls are left to
-- listeners.
pub record IsSeenAt (r : Run) (view : RunView) : Type 0 where
  pub stands : Stands view.engine r.state
  pub journal : entries_in r.happened ≡ view.entries
  pub left : r.left ≡ view.left

-- What is to be done in a run behind a dispatch, or a turn of one: what was to be done behind it; or the run closes, where a
-- listener may not make its call; or anything, where memory ran out.
abbrev pub IsToDoBehind : List Todo → Run → Result (Unit {0}) DispatchFault → Type 0
IsToDoBehind rest r (Ok u) = r.todo ≡ rest
IsToDoBehind rest r (Err (fault.CallBudget k)) = r.todo ≡ over (CallBudget k)
IsToDoBehind rest r (Err fault.TaskBudget) = r.todo ≡ over TaskBudget
IsToDoBehind rest r (Err fault.OutOfMemory) = ⊤

-- ---- the turn of one listener

-- A run in which the next step is that a listener hears an event, and whose listener of this number answers by this way, as
-- that of the turn did.
pub record IsTurnBegun (ways : List Way) (r : Run) (way : Way) (event : Event) (old new : TurnView)
    (rest : List Todo) : Type 0 where
  pub todo : r.todo ≡ Hear event old.number ∷ rest
  pub seen : IsSeenAt r old.run
  pub notes : notes_in old.number r.happened ≡ old.notes
  pub way_is : slice_get ways old.number ≡ Some way
  pub by_way : IsByWay (Some way) (r.setting.rules old.number) new.notes

-- Steps lead from one run to another, in which what the turn left is seen, and in which this listener has its notes; no other
-- was given or did anything, and no line was put.
pub record IsTurnTo (ways : List Way) (a b : Run) (new : TurnView) : Type 0 where
  pub reached : Reaches ways a b
  pub seen : IsSeenAt b new.run
  pub own : notes_in new.number b.happened ≡ new.notes
  pub others : (v : ℕ) → v ≢ new.number → notes_in v b.happened ≡ notes_in v a.happened
  pub put : lines_put b.happened ≡ lines_put a.happened

-- The turn is steps of each run in which it may begin. Behind it the next listener hears the event.
abbrev pub IsServedInSteps : List (List ℕ) → Event → TurnView → TurnView
    → Result (Unit {0}) DispatchFault → Type 0
IsServedInSteps blobs event old new result =
    (ways : List Way) (r : Run) (way : Way) (rest : List Todo) → r.setting.blobs ≡ blobs
    → IsTurnBegun ways r way event old new rest
    → (b : Run) × IsTurnTo ways r b new × IsToDoBehind (Hear event (suc old.number) ∷ rest) b result

-- ---- all listeners

-- the notes of each listener in a run
abbrev pub AreNotesIn : Run → List (List Note) → Type 0
AreNotesIn r notes = (w : ℕ) → notes_in w r.happened ≡ notes_at notes w

-- A run in which the next step is that the first listener hears an event, with as many listeners, each of which answers by
-- its way, as that of the dispatch did.
pub record IsDispatchBegun (ways : List Way) (r : Run) (event : Event) (old new : DispatchView)
    (rest : List Todo) : Type 0 where
  pub todo : r.todo ≡ Hear event 0 ∷ rest
  pub seen : IsSeenAt r old.run
  pub notes : AreNotesIn r old.notes
  pub count : length ways ≡ length old.notes
  pub by_way : (w : ℕ) (way : Way) → slice_get ways w ≡ Some way
      → IsByWay (Some way) (r.setting.rules w) (notes_at new.notes w)

-- steps lead from one run to another, in which what the dispatch left is seen, with the notes of each; no line was put
pub record IsDispatchTo (ways : List Way) (a b : Run) (new : DispatchView) : Type 0 where
  pub reached : Reaches ways a b
  pub seen : IsSeenAt b new.run
  pub notes : AreNotesIn b new.notes
  pub put : lines_put b.happened ≡ lines_put a.happened

-- the dispatch is steps of each run in which it may begin
abbrev pub IsDispatchInSteps : List (List ℕ) → Event → DispatchView → DispatchView
    → Result (Unit {0}) DispatchFault → Type 0
IsDispatchInSteps blobs event old new result =
    (ways : List Way) (r : Run) (rest : List Todo) → r.setting.blobs ≡ blobs
    → IsDispatchBegun ways r event old new rest
    → (b : Run) × IsDispatchTo ways r b new × IsToDoBehind rest b result
