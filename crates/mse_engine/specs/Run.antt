-- The run of a journal: what each entry does, and that it replays.
use Rattle.std.specs.Prelude.{◌≡◌, ℕ, List, [], ◌∷◌, Option, Some, None, filter_map}
use Rattle.mse_calls.specs.AnswerAndState.{AnswerAndState}
use Rattle.mse_calls.specs.declared.answers.Answer.{Answer}
use Rattle.mse_calls.specs.declared.events.Event.{Event}
use Rattle.mse_calls.specs.declared.entry.Entry.{Entry}
use Rattle.mse_calls.specs.declared.entry.Entry.TheVariants.{Step, Script, Listener, Fired, Work, Element}
use Rattle.mse_engine.specs.State.{State}
use Rattle.mse_engine.specs.Calls.{after_call}
use Rattle.mse_engine.specs.Work.{after_work, after_element_turn, fire_result}

-- What an entry means at a state: that it tells what happens there, and the state behind it.
pub record EntryMeaning : Type 1 where
  pub holds : Type 0
  pub state : State

abbrev pub call_meaning : AnswerAndState Answer State → Answer → EntryMeaning
call_meaning a answer = record { holds = answer ≡ a.answer; state = a.state }

-- where nothing happens the entry tells what is not so
abbrev pub step_meaning : Option State → State → EntryMeaning
step_meaning None st = record { holds = ⊥; state = st }
step_meaning (Some new) st = record { holds = Unit {0}; state = new }

abbrev pub fire_meaning : Option (AnswerAndState Event State) → Event → State → EntryMeaning
fire_meaning None event st = record { holds = ⊥; state = st }
fire_meaning (Some a) event st = record { holds = event ≡ a.answer; state = a.state }

abbrev pub entry_meaning : List (List ℕ) → State → Entry → EntryMeaning
entry_meaning blobs st (Step n) = record { holds = Unit {0}; state = st }
entry_meaning blobs st (Script call answer) = call_meaning (after_call blobs call st) answer
entry_meaning blobs st (Listener w call answer) = call_meaning (after_call blobs call st) answer
entry_meaning blobs st (Fired event) = fire_meaning (fire_result st) event st
entry_meaning blobs st (Work k) = step_meaning (after_work k st) st
entry_meaning blobs st Element = step_meaning (after_element_turn st) st

-- the state behind a journal
abbrev pub after_entries : List (List ℕ) → State → List Entry → State
after_entries blobs st [] = st
after_entries blobs st (entry ∷ entries) =
    after_entries blobs (entry_meaning blobs st entry).state entries

-- each entry tells what happens there: each answer and each event is that of its step, at each work something runs, and
-- at each turn of the element one is due
abbrev pub IsReplay : List (List ℕ) → State → List Entry → Type 0
IsReplay blobs st [] = Unit {0}
IsReplay blobs st (entry ∷ entries) =
    (entry_meaning blobs st entry).holds
    × IsReplay blobs (entry_meaning blobs st entry).state entries

-- the entry of an event that is fired, if one waits
abbrev pub fire_entries : Option (AnswerAndState Event State) → List Entry
fire_entries None = []
fire_entries (Some fired) = Fired fired.answer ∷ []

-- one entry where there is something to do
abbrev pub entries_if : Option State → Entry → List Entry
entries_if None entry = []
entries_if (Some new) entry = entry ∷ []

-- the event of an entry, if one was fired
abbrev pub event_in : Entry → Option Event
event_in (Step n) = None
event_in (Script call answer) = None
event_in (Listener w call answer) = None
event_in (Fired event) = Some event
event_in (Work k) = None
event_in Element = None

-- the events that were fired, in order
abbrev pub fired_events : List Entry → List Event
fired_events entries = filter_map event_in entries
