-- What a drain does (docs/SCRIPTS.md, step lines).
use Rattle.std.specs.Prelude.{◌≡◌, ℕ, true, false, List, [], ◌∷◌, slice_get, Option, Some, None, ⊤}
use Rattle.mse_calls.specs.declared.entry.Entry.{Entry}
use Rattle.mse_calls.specs.declared.entry.Entry.TheVariants.{Listener, Fired, Work, Element}
use Rattle.mse_engine.specs.State.{State}
use Rattle.mse_engine.specs.Work.{after_element_turn, after_work, is_turn_due, running_in}
use Rattle.mse_engine.specs.Run.{after_entries, entry_meaning}

-- a step of the machine: its entry, and what comes of a state where there is something to do
pub record MachineStep : Type 0 where
  pub entry : Entry
  pub after : State → Option State

-- buffer `k` works one item
abbrev pub work_step : ℕ → MachineStep
work_step k = record { entry = Work k; after = after_work k }

-- the element takes a turn
abbrev pub element_step : MachineStep
element_step = record { entry = Element; after = after_element_turn }

-- no event waits, and no buffer works
pub record IsQuiet (st : State) : Type 0 where
  pub queue : st.element.queue ≡ []
  pub running : running_in st ≡ None

-- The entry is what a drain does next: an event is fired while there is one, else the lowest buffer
-- that has work works one item, else the element takes a turn that is due. The calls of listeners
-- are not its own.
abbrev pub IsNextStep : State → Entry → Type 0
IsNextStep st (Fired event) = slice_get st.element.queue 0 ≡ Some event
IsNextStep st (Work k) = (st.element.queue ≡ []) × (running_in st ≡ Some k)
IsNextStep st Element = IsQuiet st × (is_turn_due st ≡ true)
IsNextStep st (Listener w call answer) = ⊤
IsNextStep st other = ⊥

-- no event waits
abbrev pub HasNoEvent : State → Type 0
HasNoEvent st = st.element.queue ≡ []

-- there is nothing left to do
pub record IsAtRest (st : State) : Type 0 where
  pub quiet : IsQuiet st
  pub due : is_turn_due st ≡ false

-- the entries come in the order in which a drain does things
abbrev pub AreInDrainOrder : List (List ℕ) → State → List Entry → Type 0
AreInDrainOrder blobs st [] = ⊤
AreInDrainOrder blobs st (entry ∷ entries) =
    IsNextStep st entry × AreInDrainOrder blobs (entry_meaning blobs st entry).state entries

-- until nothing is left
pub record IsDrain (blobs : List (List ℕ)) (st : State) (entries : List Entry) : Type 0 where
  pub order : AreInDrainOrder blobs st entries
  pub end : IsAtRest (after_entries blobs st entries)
