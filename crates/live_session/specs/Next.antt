-- The step that a drain does next.
use Rattle.std.specs.Prelude.{◌≡◌, ℕ, Bool, true, false, List, [], ◌∷◌, ◌++◌, Option, Some, None}
use Rattle.mse_calls.specs.declared.entry.Entry.{Entry}
use Rattle.call_script.specs.declared.script.StepLine.{StepLine}
use Rattle.call_script.specs.declared.script.StepLine.TheVariants as step
use Rattle.mse_engine.specs.State.{State}
use Rattle.mse_engine.specs.Work.{has_event_in, is_turn_due, running_in}
use Rattle.cut_law.specs.Plays.{after_line, line_entries}

-- an event where one waits, else an item of the lowest running work, else a turn that is due
abbrev pub line_by : Bool → Option ℕ → Bool → Option StepLine
line_by true running due = Some step.Fire
line_by false (Some k) due = Some (step.Work k)
line_by false None true = Some step.Element
line_by false None false = None

-- its line; none where there is nothing left to do
abbrev pub next_line : State → Option StepLine
next_line st = line_by (has_event_in st) (running_in st) (is_turn_due st)

-- each of these lines is the next one, and behind them there is nothing left to do
abbrev pub AreNextLines : List (List ℕ) → State → List StepLine → Type 0
AreNextLines blobs st [] = next_line st ≡ None
AreNextLines blobs st (line ∷ lines) =
    (next_line st ≡ Some line) × AreNextLines blobs (after_line blobs st line) lines

-- the entries of lines, without their numbers
abbrev pub entries_of_lines : List (List ℕ) → State → List StepLine → List Entry
entries_of_lines blobs st [] = []
entries_of_lines blobs st (line ∷ lines) =
    line_entries blobs st line ++ entries_of_lines blobs (after_line blobs st line) lines

-- the state behind lines
abbrev pub after_lines : List (List ℕ) → State → List StepLine → State
after_lines blobs st [] = st
after_lines blobs st (line ∷ lines) = after_lines blobs (after_line blobs st line) lines
