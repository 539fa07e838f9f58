-- The play of a script whose listeners make no calls: the state determines the entries of each line.
use Rattle.std.specs.Prelude.{ℕ, zero, suc, ◌+◌, Bool, true, false, List, [], ◌∷◌, ◌++◌, map, Option, Some, None}
use Rattle.mse_calls.specs.declared.events.Event.{Event}
use Rattle.mse_calls.specs.declared.entry.Entry.{Entry}
use Rattle.mse_calls.specs.declared.entry.Entry.TheVariants.{Step, Script, Fired, Work, Element}
use Rattle.call_script.specs.declared.script.StepLine.{StepLine}
use Rattle.call_script.specs.declared.script.StepLine.TheVariants as step
use Rattle.mse_engine.specs.State.{State}
use Rattle.mse_engine.specs.Calls.{after_call}
use Rattle.mse_engine.specs.Work.{after_work, after_element_turn, fire_result, running_in, is_turn_due}
use Rattle.mse_engine.specs.Progress.{turns_left, turns_left_in, work_left_in}
use Rattle.mse_engine.specs.Run.{entry_meaning, after_entries, fire_entries, entries_if}

-- the state behind an entry
abbrev pub after_entry : List (List ℕ) → State → Entry → State
after_entry blobs st entry = (entry_meaning blobs st entry).state

-- ---- the entries of a drain

-- the events that wait, in order
abbrev pub fired_entries : List Event → List Entry
fired_entries events = map (λ event. Fired event) events

-- where no event waits: a step of the lowest running work, else the turn of the element that is due
abbrev pub next_entry_by : Option ℕ → Bool → Option Entry
next_entry_by (Some k) due = Some (Work k)
next_entry_by None true = Some Element
next_entry_by None false = None

abbrev pub next_entry : State → Option Entry
next_entry st = next_entry_by (running_in st) (is_turn_due st)

abbrev pub entries_behind : Option Entry → (Entry → List Entry) → List Entry
entries_behind None go = []
entries_behind (Some entry) go = entry ∷ go entry

-- that entry and what comes behind it, where no event waits
abbrev pub entries_then : (State → List Entry) → List (List ℕ) → State → List Entry
entries_then go blobs st = entries_behind (next_entry st) (λ entry. go (after_entry blobs st entry))

-- with at most n steps of work and turns: the events that wait, and then such a step and the same again
abbrev pub drain_in : ℕ → List (List ℕ) → State → List Entry
drain_in zero blobs st = []
drain_in (suc n) blobs st =
    fired_entries st.element.queue
    ++ entries_then (drain_in n blobs) blobs (after_entries blobs st (fired_entries st.element.queue))

-- the turns that can come where so much work and so many turns are left: behind work as many as of an element that has
-- done none
abbrev pub turns_behind : ℕ → ℕ → ℕ
turns_behind zero turns = turns
turns_behind (suc n) turns = turns_left true false

-- the steps of work and turns that can come
abbrev pub steps_left : State → ℕ
steps_left st = work_left_in st + turns_behind (work_left_in st) (turns_left_in st)

unfoldable pub drain_entries : List (List ℕ) → State → List Entry
drain_entries blobs st = drain_in (suc (steps_left st)) blobs st

-- ---- the entries of each line, and of a script

abbrev pub line_entries : List (List ℕ) → State → StepLine → List Entry
line_entries blobs st (step.Call call) = Script call (after_call blobs call st).answer ∷ []
line_entries blobs st step.Fire = fire_entries (fire_result st)
line_entries blobs st (step.Work k) = entries_if (after_work k st) (Work k)
line_entries blobs st step.Element = entries_if (after_element_turn st) Element
line_entries blobs st step.Drain = drain_entries blobs st

-- the state behind a line
abbrev pub after_line : List (List ℕ) → State → StepLine → State
after_line blobs st line = after_entries blobs st (line_entries blobs st line)

-- the journal of some lines, of which the first has the number n
abbrev pub play_entries : List (List ℕ) → ℕ → State → List StepLine → List Entry
play_entries blobs n st [] = []
play_entries blobs n st (line ∷ lines) =
    Step n
    ∷ (line_entries blobs st line ++ play_entries blobs (suc n) (after_line blobs st line) lines)

-- the state that the play comes to
abbrev pub play_of : List (List ℕ) → State → List StepLine → State
play_of blobs st lines = after_entries blobs st (play_entries blobs 0 st lines)
