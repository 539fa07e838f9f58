-- How a run ends, and the line that says why it ends early (docs/SCRIPTS.md, commands and faults of a script).
use Rattle.std.specs.Prelude.{ℕ, List, [], ◌∷◌, ◌++◌, codes}
use Rattle.std.specs.Fmt.{decimal}
use Rattle.event_text.specs.Words.{printable_text}
use Rattle.call_script.specs.Keys.{key_name}
use Rattle.call_script.specs.declared.fault.ScriptFault.{ScriptFault}
use Rattle.call_script.specs.declared.fault.ScriptFault.TheVariants as fault
use Rattle.script_run.specs.declared.stop.Halt.{Halt}
use Rattle.script_run.specs.declared.stop.Halt.TheVariants as halt
use Rattle.script_run.specs.declared.stop.Stop.{Stop}
use Rattle.script_run.specs.declared.stop.Stop.TheVariants as stop
use Rattle.mse_commands.specs.declared.ending.End.{End}
use Rattle.mse_commands.specs.declared.ending.End.TheVariants.{Memory, Write, Words, NoFile, Read, Script, CallBudget, TaskBudget}
use Rattle.mse_commands.specs.declared.ending.Status.{Status}
use Rattle.mse_commands.specs.declared.ending.Status.TheVariants as status

-- the exit code of the program
abbrev pub status_number : Status → ℕ
status_number status.Ok = 0
status_number status.Words = 1
status_number status.Script = 2
status_number status.Read = 3
status_number status.Write = 4
status_number status.Memory = 5
status_number status.CallBudget = 6
status_number status.TaskBudget = 7
status_number status.NoFile = 8
status_number status.Media = 9

-- the status of an end
abbrev pub status_of : End → Status
status_of Memory = status.Memory
status_of Write = status.Write
status_of Words = status.Words
status_of (NoFile name) = status.NoFile
status_of (Read name) = status.Read
status_of (Script fault) = status.Script
status_of (CallBudget k) = status.CallBudget
status_of (TaskBudget limit) = status.TaskBudget

abbrev pub end_of_halt : Halt → End
end_of_halt halt.Memory = Memory
end_of_halt halt.Write = Write

-- the end of a stop, where listeners may make so many calls in one line
abbrev pub end_of_stop : ℕ → Stop → End
end_of_stop limit stop.Memory = Memory
end_of_stop limit stop.Write = Write
end_of_stop limit (stop.CallBudget k) = CallBudget k
end_of_stop limit stop.TaskBudget = TaskBudget limit

-- the line of a script's fault
abbrev pub script_line : ScriptFault → List ℕ
script_line fault.NotToml = codes "error: script not toml" ++ 10 ∷ []
script_line (fault.Key name) = codes "error: script key " ++ (printable_text name ++ 10 ∷ [])
script_line (fault.TooMany key) = codes "error: script too many " ++ (key_name key ++ 10 ∷ [])
script_line (fault.Blob n) = codes "error: script blob " ++ (decimal n ++ 10 ∷ [])
script_line (fault.Step n) = codes "error: script step " ++ (decimal n ++ 10 ∷ [])
script_line (fault.Rule n) = codes "error: script rule " ++ (decimal n ++ 10 ∷ [])

-- the line that is printed; nothing after want of memory or a failed put
abbrev pub error_line : End → List ℕ
error_line Memory = []
error_line Write = []
error_line Words = codes "error: words" ++ 10 ∷ []
error_line (NoFile name) = codes "error: no file " ++ (printable_text name ++ 10 ∷ [])
error_line (Read name) = codes "error: read " ++ (printable_text name ++ 10 ∷ [])
error_line (Script fault) = script_line fault
error_line (CallBudget k) =
    codes "error: listener " ++ (decimal k
    ++ (codes " answered more than 1000 calls for one event" ++ 10 ∷ []))
error_line (TaskBudget limit) =
    codes "error: more than " ++ (decimal limit
    ++ (codes " listener calls in one drain" ++ 10 ∷ []))
