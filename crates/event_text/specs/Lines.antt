-- The line of a journal's entry.
use Rattle.std.specs.Prelude.{ℕ, List, [], ◌∷◌, ◌++◌, codes}
use Rattle.std.specs.Fmt.{decimal}
use Rattle.mse_calls.specs.declared.entry.Entry.{Entry}
use Rattle.mse_calls.specs.declared.entry.Entry.TheVariants.{Step, Script, Listener, Fired, Work, Element}
use Rattle.event_text.specs.Calls.{call_text}
use Rattle.event_text.specs.Answers.{answer_text}
use Rattle.event_text.specs.Events.{event_line}

-- the line of an entry; nothing for an entry that prints nothing
abbrev pub line_text : Entry → List ℕ
line_text (Step n) = []
line_text (Script call answer) =
    codes "call " ++ (call_text call ++ (codes ": " ++ (answer_text answer ++ 10 ∷ [])))
line_text (Listener number call answer) =
    codes "listener " ++ (decimal number ++ (codes " "
    ++ (call_text call ++ (codes ": " ++ (answer_text answer ++ 10 ∷ [])))))
line_text (Fired event) = event_line event
line_text (Work k) = []
line_text Element = []
