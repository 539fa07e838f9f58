-- How many steps come by themselves where no call is made, as in a drain without a listener's call.
use Rattle.std.specs.Prelude.{◌≡◌, ℕ, ◌+◌, ◌≤◌, List, [], ◌∷◌, ◌++◌, length, drop}
use Rattle.mse_calls.specs.declared.events.Event.{Event}
use Rattle.mse_calls.specs.declared.entry.Entry.{Entry}
use Rattle.mse_calls.specs.declared.entry.Entry.TheVariants.{Step, Script, Listener, Fired, Work, Element}
use Rattle.mse_engine.specs.State.{State}
use Rattle.mse_engine.specs.Run.{after_entries, entry_meaning}
use Rattle.mse_engine.specs.Progress.{work_left_in, turns_left_in}

-- the first event is fired, a buffer works at which something runs, or the element takes a turn that is due, where no
-- work is left
abbrev pub IsStepByItself : List (List ℕ) → State → Entry → Type 0
IsStepByItself blobs st (Fired event) = (entry_meaning blobs st (Fired event)).holds
IsStepByItself blobs st (Work k) = (entry_meaning blobs st (Work k)).holds
IsStepByItself blobs st Element =
    (work_left_in st ≡ 0) × (entry_meaning blobs st Element).holds
IsStepByItself blobs st (Script call answer) = ⊥
IsStepByItself blobs st (Listener w call answer) = ⊥
IsStepByItself blobs st (Step n) = ⊥

abbrev pub AreStepsByThemselves : List (List ℕ) → State → List Entry → Type 0
AreStepsByThemselves blobs st [] = Unit {0}
AreStepsByThemselves blobs st (entry ∷ entries) =
    IsStepByItself blobs st entry
    × AreStepsByThemselves blobs (entry_meaning blobs st entry).state entries

-- ---- how many there are

abbrev pub works_of : Entry → ℕ
works_of (Work k) = 1
works_of (Script call answer) = 0
works_of (Listener w call answer) = 0
works_of (Step n) = 0
works_of (Fired event) = 0
works_of Element = 0

-- the steps of work
abbrev pub works_in : List Entry → ℕ
works_in [] = 0
works_in (entry ∷ entries) = works_of entry + works_in entries

abbrev pub turns_of : Entry → ℕ
turns_of Element = 1
turns_of (Script call answer) = 0
turns_of (Listener w call answer) = 0
turns_of (Step n) = 0
turns_of (Fired event) = 0
turns_of (Work k) = 0

-- the turns of the element
abbrev pub turns_in : List Entry → ℕ
turns_in [] = 0
turns_in (entry ∷ entries) = turns_of entry + turns_in entries

-- the events that a step queues behind those that wait
abbrev pub events_queued_by : State → State → List Event
events_queued_by old new = drop (length old.element.queue) new.element.queue

-- the events that these entries queue, in order
abbrev pub events_queued_in : List (List ℕ) → State → List Entry → List Event
events_queued_in blobs st [] = []
events_queued_in blobs st (entry ∷ entries) =
    events_queued_by st (entry_meaning blobs st entry).state
    ++ events_queued_in blobs (entry_meaning blobs st entry).state entries

-- First come steps of work, no more than the work that is left: one for each item, and one for each end of running work.
-- Then come turns of the element, no more than are left there. Events are fired among both.
pub record HasStepCounts (blobs : List (List ℕ)) (st : State) (entries : List Entry) : Type 0 where
  pub working : List Entry
  pub turning : List Entry
  pub parts : entries ≡ working ++ turning
  pub works : works_in working ≤ work_left_in st
  pub no_turns : turns_in working ≡ 0
  pub turns : turns_in turning ≤ turns_left_in (after_entries blobs st working)
  pub no_works : works_in turning ≡ 0
