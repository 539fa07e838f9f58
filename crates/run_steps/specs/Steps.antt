-- What happens in a run, one thing after another (docs/MACHINE.md, listeners; docs/SCRIPTS.md, commands).
use Rattle.std.specs.Prelude.{◌≡◌, ℕ, zero, suc, Bool, true, false, List, [], ◌∷◌, ◌++◌, length, drop, Option, Some, None, slice_get, slice_index_or}
use Rattle.mse_calls.specs.AnswerAndState.{AnswerAndState}
use Rattle.mse_calls.specs.declared.answers.Answer.{Answer}
use Rattle.mse_calls.specs.declared.calls.Call.{Call}
use Rattle.mse_calls.specs.declared.calls.Call.TheVariants.{AppendBuffer}
use Rattle.mse_calls.specs.declared.calls.Piece.{Piece}
use Rattle.mse_calls.specs.declared.entry.Entry.{Entry}
use Rattle.mse_calls.specs.declared.entry.Entry.TheVariants.{Step, Script, Listener, Fired, Work, Element}
use Rattle.mse_calls.specs.declared.events.Event.{Event}
use Rattle.mse_calls.specs.declared.rules.Rule.{Rule}
use Rattle.mse_calls.specs.declared.views.FaultView.{FaultView}
use Rattle.call_script.specs.declared.script.StepLine.{StepLine}
use Rattle.call_script.specs.declared.script.StepLine.TheVariants as step
use Rattle.mse_engine.specs.State.{State}
use Rattle.mse_engine.specs.Calls.{after_call}
use Rattle.mse_engine.specs.Work.{after_work, after_element_turn, fire_result, is_turn_due, running_in}
use Rattle.run_steps.specs.declared.note.Note.TheVariants.{Heard, Made, Told, Rested}
use Rattle.run_steps.specs.Happenings.{Happening, Did, Noted, Put, entries_in, notes_in, lines_put}
use Rattle.run_steps.specs.Ways.{Way}

-- ---- how a run is set

-- Why a run closes: all was worked through; the listener of this number answered a call that it may not make for one event;
-- or a listener answered one where none is left in this line.
pub data Reason : Type 0 where
  Done : Reason
  CallBudget : ℕ → Reason
  TaskBudget : Reason

-- the lines that close a run, and its status
pub record Closing : Type 0 where
  pub lines : List (List ℕ)
  pub status : ℕ

-- How a run is set: the blobs that its calls name; the rules of each listener, by its number; how many calls listeners may
-- make in one line; whether it is that of a script, whose events listeners hear, and of which lines are put; the lines of a
-- journal; and how it closes, by the reason and by the machine's state.
pub record Setting : Type 0 where
  pub blobs : List (List ℕ)
  pub rules : ℕ → List Rule
  pub most : ℕ
  pub is_told : Bool
  pub lines : List Entry → List (List ℕ)
  pub closing : Reason → State → Closing

-- ---- how far a run has come

-- What is to be done: a line of the script with its number, or without it; the listeners from a number on hear an event;
-- one of them is asked for a call, of which it may make so many more for this event, makes it, and is told the answer; the
-- lines of what was done are put, as far as they were not; a file is appended in pieces; the run closes; these lines are
-- put; nothing, as the run has ended with this status.
pub data Todo : Type 0 where
  Line : ℕ → StepLine → Todo
  Do : StepLine → Todo
  Hear : Event → ℕ → Todo
  Ask : ℕ → ℕ → Todo
  Make : ℕ → ℕ → Call → Todo
  Tell : ℕ → ℕ → Answer → Todo
  Show : Todo
  Append : List Piece → Todo
  Close : Reason → Todo
  Print : List (List ℕ) → Todo
  Ended : ℕ → Todo

-- How far a run has come: how it is set, all that happened, the machine's state, how many calls listeners may still make in
-- this line, and what is to be done, the next thing first.
pub record Run : Type 0 where
  pub setting : Setting
  pub happened : List Happening
  pub state : State
  pub left : ℕ
  pub todo : List Todo

-- it goes on with these
abbrev pub goes : Run → List Todo → Run
goes r todo = record r { todo = todo }

-- something happens, and it goes on with these
abbrev pub happens : Run → Happening → List Todo → Run
happens r it todo = record r { happened = r.happened ++ it ∷ []; todo = todo }

-- the machine comes to a state by what this entry tells
abbrev pub does : Run → Entry → State → List Todo → Run
does r entry st todo = record (happens r (Did entry) todo) { state = st }

-- it does so where there is something to do
abbrev pub does_if : Run → Entry → Option State → List Todo → Run
does_if r entry None todo = goes r todo
does_if r entry (Some st) todo = does r entry st todo

-- what is left to do where a listener may not make its call
abbrev pub over : Reason → List Todo
over reason = Show ∷ Close reason ∷ []

-- ---- lines

-- a script makes a call, whose line is put; of a file no line is
abbrev pub shown : Bool → List Todo → List Todo
shown true todo = Show ∷ todo
shown false todo = todo

-- the listeners of a script hear an event; nobody hears those of a file
abbrev pub heard : Bool → Event → List Todo → List Todo
heard true event todo = Hear event 0 ∷ Show ∷ todo
heard false event todo = todo

-- the machine's answer to a call of the script
abbrev pub answered : Run → Call → AnswerAndState Answer State → List Todo → Run
answered r call made todo = does r (Script call made.answer) made.state (shown r.setting.is_told todo)

-- the first event is fired, where there is one
abbrev pub fires : Run → Option (AnswerAndState Event State) → List Todo → Run
fires r None todo = goes r todo
fires r (Some fired) todo = does r (Fired fired.answer) fired.state (heard r.setting.is_told fired.answer todo)

-- a drain goes on: an event while one waits, else a step of the lowest work that runs, else a turn of the element that is
-- due, until there is nothing
abbrev pub drains : Run → List Event → Option ℕ → Bool → List Todo → Run
drains r (event ∷ events) running due todo = goes r (Do step.Fire ∷ Do step.Drain ∷ todo)
drains r [] (Some k) due todo = does_if r (Work k) (after_work k r.state) (Do step.Drain ∷ todo)
drains r [] None true todo = does_if r Element (after_element_turn r.state) (Do step.Drain ∷ todo)
drains r [] None false todo = goes r todo

abbrev pub line_done : Run → StepLine → List Todo → Run
line_done r (step.Call call) todo = answered r call (after_call r.setting.blobs call r.state) todo
line_done r step.Fire todo = fires r (fire_result r.state) todo
line_done r (step.Work k) todo = does_if r (Work k) (after_work k r.state) todo
line_done r step.Element todo = does_if r Element (after_element_turn r.state) todo
line_done r step.Drain todo = drains r r.state.element.queue (running_in r.state) (is_turn_due r.state) todo

-- a line begins
abbrev pub begins : Run → ℕ → StepLine → List Todo → Run
begins r n line todo = record (happens r (Did (Step n)) (Do line ∷ todo)) { left = r.setting.most }

-- ---- listeners

-- a listener makes at most so many calls for one event
abbrev pub most_calls : ℕ
most_calls = 1000

-- the call that a listener of this way and number answers, if any
abbrev pub call_by : Run → ℕ → Way → Option Call
call_by r w way = way (r.setting.rules w) (notes_in w r.happened)

-- the listener that is next hears the event, and is asked; where there is none, all have heard it
abbrev pub hears : Run → Event → ℕ → Option Way → List Todo → Run
hears r event w None todo = goes r todo
hears r event w (Some way) todo =
    happens r (Noted w (Heard event)) (Ask w most_calls ∷ Hear event (suc w) ∷ todo)

-- it has no further call; or one that it makes
abbrev pub asked : Run → ℕ → ℕ → Option Call → List Todo → Run
asked r w n None todo = happens r (Noted w Rested) todo
asked r w n (Some call) todo = happens r (Noted w (Made call)) (Make w n call ∷ todo)

-- the call is made at once, and the listener is told the answer
abbrev pub called : Run → ℕ → ℕ → Call → AnswerAndState Answer State → List Todo → Run
called r w n call made todo = does r (Listener w call made.answer) made.state (Tell w n made.answer ∷ todo)

-- where it may make none for this event, or none is left in this line, the run closes
abbrev pub makes : Run → ℕ → ℕ → ℕ → Call → List Todo → Run
makes r w zero left call todo = goes r (over (CallBudget w))
makes r w (suc n) zero call todo = goes r (over TaskBudget)
makes r w (suc n) (suc left) call todo =
    called (record r { left = left }) w n call (after_call r.setting.blobs call r.state) todo

-- ---- lines of the sink

-- the lines of what was done that were not put
abbrev pub lines_left : Run → List (List ℕ)
lines_left r = drop (length (lines_put r.happened)) (r.setting.lines (entries_in r.happened))

-- the first of some lines is put
abbrev pub prints : Run → List (List ℕ) → List Todo → Run
prints r [] todo = goes r todo
prints r (line ∷ lines) todo = happens r (Put line) (Print lines ∷ todo)

-- the lines that close a run are put, and it ends
abbrev pub closes : Run → Closing → Run
closes r closing = goes r (Print closing.lines ∷ Ended closing.status ∷ [])

-- ---- files

-- the pieces of a file are appended and drained, one after the other, up to the first fault
abbrev pub appends : Run → Option FaultView → List Piece → List Todo → Run
appends r None (piece ∷ pieces) todo =
    goes r (Do (step.Call (AppendBuffer 0 piece)) ∷ Do step.Drain ∷ Append pieces ∷ todo)
appends r fault pieces todo = goes r todo

-- ---- the next step

abbrev pub step_by : List Way → Run → Todo → List Todo → Run
step_by ways r (Line n line) todo = begins r n line todo
step_by ways r (Do line) todo = line_done r line todo
step_by ways r (Hear event w) todo = hears r event w (slice_get ways w) todo
step_by ways r (Ask w n) todo = asked r w n (call_by r w (slice_index_or ways w (λ rules notes. None))) todo
step_by ways r (Make w n call) todo = makes r w n r.left call todo
step_by ways r (Tell w n answer) todo = happens r (Noted w (Told answer)) (Ask w n ∷ todo)
step_by ways r Show todo = goes r (Print (lines_left r) ∷ todo)
step_by ways r (Append pieces) todo = appends r r.state.source.fault pieces todo
step_by ways r (Close reason) todo = closes r (r.setting.closing reason r.state)
step_by ways r (Print lines) todo = prints r lines todo
step_by ways r (Ended status) todo = r

-- the run with its next step done, where listeners answer by these ways; where it has ended, it stays
abbrev pub step_of : List Way → Run → List Todo → Run
step_of ways r [] = r
step_of ways r (next ∷ todo) = step_by ways r next todo

abbrev pub stepped : List Way → Run → Run
stepped ways r = step_of ways r r.todo

-- with so many steps done
abbrev pub run_for : ℕ → List Way → Run → Run
run_for zero ways r = r
run_for (suc n) ways r = run_for n ways (stepped ways r)

-- some steps lead from one to the other
abbrev pub Reaches : List Way → Run → Run → Type 0
Reaches ways a b = (k : ℕ) × (run_for k ways a ≡ b)
