-- A script that is played, as a function of the script, the bytes of its blobs and what each listener answers
-- (docs/MACHINE.md, listeners).
use Rattle.std.specs.Prelude.{ℕ, zero, suc, ◌==◌, Bool, true, false, List, [], ◌∷◌, ◌++◌, map, Option, Some, None}
use Rattle.mse_calls.specs.AnswerAndState.{AnswerAndState}
use Rattle.mse_calls.specs.declared.answers.Answer.{Answer}
use Rattle.mse_calls.specs.declared.calls.Call.{Call}
use Rattle.mse_calls.specs.declared.events.Event.{Event}
use Rattle.mse_calls.specs.declared.entry.Entry.{Entry}
use Rattle.mse_calls.specs.declared.entry.Entry.TheVariants.{Step, Script, Listener, Fired, Work, Element}
use Rattle.mse_calls.specs.declared.rules.Rule.{Rule}
use Rattle.call_script.specs.declared.script.StepLine.{StepLine}
use Rattle.call_script.specs.declared.script.StepLine.TheVariants as step
use Rattle.run_steps.specs.Ways.{Way}
use Rattle.run_steps.specs.declared.note.Note.{Note}
use Rattle.run_steps.specs.declared.note.Note.TheVariants.{Heard, Made, Told, Rested}
use Rattle.script_run.specs.declared.stop.Stop.{Stop}
use Rattle.script_run.specs.declared.stop.Stop.TheVariants.{CallBudget, TaskBudget}
use Rattle.script_run.specs.Rules.{rules_for}
use Rattle.script_run.specs.Turns.{most_calls}
use Rattle.mse_engine.specs.State.{State}
use Rattle.mse_engine.specs.Calls.{after_call}
use Rattle.mse_engine.specs.Work.{after_work, after_element_turn, fire_result}
use Rattle.cut_law.specs.Plays.{after_entry, next_entry, steps_left}

-- a listener: the call that it answers after some notes, if any, and its notes so far
pub record ListenerState : Type 0 where
  pub answers : List Note → Option Call
  pub notes : List Note

-- the notes of each
abbrev pub notes_of_each : List ListenerState → List (List Note)
notes_of_each listeners = map (λ one. one.notes) listeners

-- with these notes behind its own
abbrev pub with_notes : ListenerState → List Note → ListenerState
with_notes one notes = record one { notes = one.notes ++ notes }

-- how far a play has come: the state of the machine, how many calls listeners may still make in this line, and the
-- listeners
pub record PlayState : Type 0 where
  pub state : State
  pub left : ℕ
  pub listeners : List ListenerState

-- a part of a play: its entries, how far it comes, and the limit that stops the play there, if one does
pub record Part : Type 0 where
  pub entries : List Entry
  pub now : PlayState
  pub stop : Option Stop

-- nothing is done
abbrev pub nothing : PlayState → Part
nothing p = record { entries = []; now = p; stop = None }

-- one entry, with what it does
abbrev pub one_entry : List (List ℕ) → PlayState → Entry → Part
one_entry blobs p entry =
    record { entries = entry ∷ []; now = record p { state = after_entry blobs p.state entry }; stop = None }

-- a part behind these entries
abbrev pub behind : List Entry → Part → Part
behind entries part = record part { entries = entries ++ part.entries }

-- the first where a limit stopped the play, and else the second
abbrev pub unless_stopped : {A : Type 0} → Option Stop → A → A → A
unless_stopped None stopped next = next
unless_stopped (Some stop) stopped next = stopped

-- a part, and what comes behind it unless it stops
abbrev pub and_then : Part → (PlayState → Part) → Part
and_then part next = unless_stopped part.stop part (behind part.entries (next part.now))

-- ---- the turn of one listener

-- a part of a play in which one listener alone calls
pub record TurnPart : Type 0 where
  pub entries : List Entry
  pub state : State
  pub left : ℕ
  pub listener : ListenerState
  pub stop : Option Stop

-- a turn in which no call is made
abbrev pub turn_without_calls : State → ℕ → ListenerState → Option Stop → TurnPart
turn_without_calls st left one stop =
    record { entries = []; state = st; left = left; listener = one; stop = stop }

-- a turn behind this entry
abbrev pub turn_behind : Entry → TurnPart → TurnPart
turn_behind entry turn = record turn { entries = entry ∷ turn.entries }

-- it has no further call
abbrev pub turn_rested : State → ℕ → ListenerState → TurnPart
turn_rested st left one = turn_without_calls st left (with_notes one (Rested ∷ [])) None

-- it has one that is not made, as a limit is reached
abbrev pub turn_stopped : State → ℕ → ListenerState → Call → Stop → TurnPart
turn_stopped st left one call stop = turn_without_calls st left (with_notes one (Made call ∷ [])) (Some stop)

-- listener w has made all the calls that it may for one event
abbrev pub turn_full : ℕ → State → ℕ → ListenerState → Option Call → TurnPart
turn_full w st left one None = turn_rested st left one
turn_full w st left one (Some call) = turn_stopped st left one call (CallBudget w)

-- the call was made; the listener is told the answer, and goes on
abbrev pub turn_made : (State → ℕ → ListenerState → TurnPart) → ℕ → ℕ → ListenerState → Call
    → AnswerAndState Answer State → TurnPart
turn_made go w left one call made =
    turn_behind (Listener w call made.answer)
    (go made.state left (with_notes one (Made call ∷ Told made.answer ∷ [])))

-- the call is made, where one is left in the line
abbrev pub turn_call : (State → ℕ → ListenerState → TurnPart) → List (List ℕ) → ℕ → State → ℕ
    → ListenerState → Call → TurnPart
turn_call go blobs w st zero one call = turn_stopped st 0 one call TaskBudget
turn_call go blobs w st (suc left) one call = turn_made go w left one call (after_call blobs call st)

-- by what the listener answers
abbrev pub turn_by : (State → ℕ → ListenerState → TurnPart) → List (List ℕ) → ℕ → State → ℕ
    → ListenerState → Option Call → TurnPart
turn_by go blobs w st left one None = turn_rested st left one
turn_by go blobs w st left one (Some call) = turn_call go blobs w st left one call

-- listener w is asked again and again, and may make n calls more
abbrev pub turn_in : ℕ → List (List ℕ) → ℕ → State → ℕ → ListenerState → TurnPart
turn_in zero blobs w st left one = turn_full w st left one (one.answers one.notes)
turn_in (suc n) blobs w st left one =
    turn_by (turn_in n blobs w) blobs w st left one (one.answers one.notes)

-- ---- an event that is fired

-- the turn of a listener, where those behind it did nothing
abbrev pub part_of_turn : List ListenerState → TurnPart → Part
part_of_turn others turn = record {
  entries = turn.entries;
  now = record { state = turn.state; left = turn.left; listeners = turn.listener ∷ others };
  stop = turn.stop;
}

-- a turn, and the part of the listeners behind
abbrev pub turn_then : TurnPart → Part → Part
turn_then turn part = record part {
  entries = turn.entries ++ part.entries;
  now = record part.now { listeners = turn.listener ∷ part.now.listeners };
}

-- a turn, and what the listeners behind do next unless it stops
abbrev pub dispatch_then : List ListenerState → (State → ℕ → Part) → TurnPart → Part
dispatch_then others next turn =
    unless_stopped turn.stop (part_of_turn others turn)
    (turn_then turn (next turn.state turn.left))

-- the listeners from number w on hear the event, each when the one in front of it has rested
abbrev pub dispatch_from : List (List ℕ) → Event → ℕ → List ListenerState → State → ℕ → Part
dispatch_from blobs event w [] st left =
    nothing (record { state = st; left = left; listeners = [] })
dispatch_from blobs event w (one ∷ others) st left =
    dispatch_then others (dispatch_from blobs event (suc w) others)
    (turn_in most_calls blobs w st left (with_notes one (Heard event ∷ [])))

-- by what the machine fires
abbrev pub fire_by : List (List ℕ) → PlayState → Option (AnswerAndState Event State) → Part
fire_by blobs p None = nothing p
fire_by blobs p (Some fired) =
    behind (Fired fired.answer ∷ [])
    (dispatch_from blobs fired.answer 0 p.listeners fired.state p.left)

-- the first event of the queue is fired, and the listeners answer it; nothing where the queue is empty
abbrev pub fire : List (List ℕ) → PlayState → Part
fire blobs p = fire_by blobs p (fire_result p.state)

-- ---- a drain

-- how a drain goes on: behind a call of a listener, and where no event waits
pub record DrainContinuations : Type 0 where
  pub again : PlayState → Part
  pub next : PlayState → Part

-- the first where no listener called
abbrev pub if_called : Bool → Part → Part → Part
if_called true same called = same
if_called false same called = called

-- so many events wait: each is fired, until a listener has made a call, so that fewer are left
abbrev pub fire_waiting : List Event → List (List ℕ) → DrainContinuations → PlayState → Part
fire_waiting [] blobs g p = g.next p
fire_waiting (event ∷ events) blobs g p =
    and_then (fire blobs p)
    (λ now. if_called (now.left == p.left) (fire_waiting events blobs g now) (g.again now))

-- a step of work or a turn of the element, if there is one, and what comes behind it
abbrev pub step_by : List (List ℕ) → (PlayState → Part) → PlayState → Option Entry → Part
step_by blobs go p None = nothing p
step_by blobs go p (Some entry) = and_then (one_entry blobs p entry) go

-- with at most n steps of work and turns of the element before a listener makes a call
abbrev pub round_in : ℕ → List (List ℕ) → (PlayState → Part) → PlayState → Part
round_in zero blobs again p = nothing p
round_in (suc n) blobs again p =
    fire_waiting p.state.element.queue blobs
    (record { again = again; next = λ now. step_by blobs (round_in n blobs again) now (next_entry now.state) })
    p

-- with at most n events at which listeners make calls
abbrev pub rounds_in : ℕ → List (List ℕ) → PlayState → Part
rounds_in zero blobs p = nothing p
rounds_in (suc n) blobs p = round_in (suc (steps_left p.state)) blobs (rounds_in n blobs) p

-- until nothing is left: an event while one waits, else a step of work, else a turn of the element
unfoldable pub drain_played : List (List ℕ) → PlayState → Part
drain_played blobs p = rounds_in (suc p.left) blobs p

-- ---- lines

-- the entry of a step that does something
abbrev pub entry_if : List (List ℕ) → PlayState → Entry → Option State → Part
entry_if blobs p entry None = nothing p
entry_if blobs p entry (Some st) = one_entry blobs p entry

-- what a line does
abbrev pub line_played : List (List ℕ) → PlayState → StepLine → Part
line_played blobs p (step.Call call) =
    one_entry blobs p (Script call (after_call blobs call p.state).answer)
line_played blobs p step.Fire = fire blobs p
line_played blobs p (step.Work k) = entry_if blobs p (Work k) (after_work k p.state)
line_played blobs p step.Element = entry_if blobs p Element (after_element_turn p.state)
line_played blobs p step.Drain = drain_played blobs p

-- with its number n; in it listeners may make `limit` calls
abbrev pub numbered_played : List (List ℕ) → ℕ → ℕ → PlayState → StepLine → Part
numbered_played blobs limit n p line =
    behind (Step n ∷ []) (line_played blobs (record p { left = limit }) line)

-- lines of which the first has the number n, one after the other
abbrev pub lines_played : List (List ℕ) → ℕ → ℕ → List StepLine → PlayState → Part
lines_played blobs limit n [] p = nothing p
lines_played blobs limit n (line ∷ lines) p =
    and_then (numbered_played blobs limit n p line) (lines_played blobs limit (suc n) lines)

-- ---- listeners

-- the listeners from number w on, which have heard nothing, each by its way and the rules that are for it
abbrev pub listeners_from : ℕ → List Rule → List Way → List ListenerState
listeners_from w rules [] = []
listeners_from w rules (way ∷ ways) =
    record { answers = way (rules_for w rules); notes = [] } ∷ listeners_from (suc w) rules ways
