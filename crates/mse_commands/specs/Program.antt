-- The program as a function: how it ends and all that it writes, line by line, by the words, the files and the ways of its listeners
-- (docs/SCRIPTS.md, commands).
use Rattle.std.specs.Prelude.{ℕ, zero, suc, List, [], ◌∷◌, ◌++◌, length, Option, Some, None, Result, Ok, Err, is_some, is_err, codes, Bool, true, false}
use Rattle.mse_outside.specs.Outside.{Table}
use Rattle.mse_calls.specs.declared.calls.Call.TheVariants.{Attach, AddSourceBuffer}
use Rattle.call_script.specs.declared.script.Script.{Script as CallScript}
use Rattle.call_script.specs.declared.script.StepLine.TheVariants.{Call}
use Rattle.listeners.specs.RuleCalls.{next_call}
use Rattle.run_steps.specs.Ways.{Way}
use Rattle.mse_engine.specs.State.{State}
use Rattle.remux.specs.Pieces.{pieces_of_file}
use Rattle.script_run.specs.declared.stop.Stop.{Stop}
use Rattle.cut_law.specs.Files.{after_pieces}
use Rattle.cut_law.specs.Plays.{after_line}
use Rattle.mse_commands.specs.declared.ending.End.{End}
use Rattle.mse_commands.specs.declared.ending.Status.{Status}
use Rattle.mse_commands.specs.declared.ending.Status.TheVariants as status
use Rattle.mse_commands.specs.declared.words.Command.{Command}
use Rattle.mse_commands.specs.Endings.{end_of_stop, error_line, status_of}
use Rattle.mse_commands.specs.Remuxing.{remux_pieces}
use Rattle.mse_commands.specs.Requests.{Task, ByScript, ByFile, ByRemux, opening_of, request_in}
use Rattle.mse_commands.specs.Shown.{closing_lines, pieces_by, shown_lines}
use Rattle.mse_commands.specs.Played.{PlayState, Part, lines_played, listeners_from}

-- how a run ends, and all that it puts into the sink, line by line
pub record Output : Type 0 where
  pub status : Status
  pub lines : List (List ℕ)

-- of a run that ends early, its error line
abbrev pub output_of_end : End → Output
output_of_end end = record { status = status_of end; lines = error_line end ∷ [] }

-- ---- a script

-- before the first line, where nobody has heard anything
abbrev pub opening_play : List Way → CallScript → List (List ℕ) → PlayState
opening_play ways script blobs = record {
  state = opening_of (ByScript script blobs);
  left = 0;
  listeners = listeners_from 0 script.rules ways;
}

-- all that a script comes to: its journal, its last state, and the limit that stopped it, if one did
unfoldable pub script_played : List Way → CallScript → List (List ℕ) → Part
script_played ways script blobs =
    lines_played blobs script.drain 0 script.steps (opening_play ways script blobs)

-- behind the lines of the entries: the block, or the error line of the limit
abbrev pub output_behind : CallScript → List (List ℕ) → State → Option Stop → Output
output_behind script blobs st None =
    record { status = status.Ok; lines = closing_lines (ByScript script blobs) st }
output_behind script blobs st (Some stop) = output_of_end (end_of_stop script.drain stop)

-- these lines, and then an output
abbrev pub output_then : List (List ℕ) → Output → Output
output_then lines output = record output { lines = lines ++ output.lines }

-- of a script: the lines of its entries, and what comes behind them
abbrev pub output_of_script : CallScript → List (List ℕ) → Part → Output
output_of_script script blobs part =
    output_then (shown_lines (ByScript script blobs) part.entries)
    (output_behind script blobs part.now.state part.stop)

-- ---- a file

-- whether there was a fault
abbrev pub status_by : Bool → Status
status_by true = status.Media
status_by false = status.Ok

-- the source is open, and has a source buffer of ISO BMFF
abbrev pub file_opened : List (List ℕ) → State → State
file_opened blobs st =
    after_line blobs (after_line blobs st (Call Attach)) (Call (AddSourceBuffer (codes "video/mp4")))

-- the state that appending the file comes to, in the pieces of the command
abbrev pub file_appended : Command → List ℕ → State
file_appended command bytes =
    after_pieces (bytes ∷ []) 0 (file_opened (bytes ∷ []) (opening_of (ByFile command bytes)))
    (pieces_by command (length bytes))

-- of a file that was appended
abbrev pub output_of_file : Command → List ℕ → State → Output
output_of_file command bytes st = record {
  status = status_by (is_some st.source.fault);
  lines = closing_lines (ByFile command bytes) st;
}

-- ---- the program

-- so many listeners, each by its rules
abbrev pub by_rules : ℕ → List Way
by_rules zero = []
by_rules (suc n) = next_call ∷ by_rules n

-- of what is run
abbrev pub output_of_task : List Way → Task → Output
output_of_task ways (ByScript script blobs) =
    output_of_script script blobs (script_played ways script blobs)
output_of_task ways (ByFile command bytes) =
    output_of_file command bytes (file_appended command bytes)
output_of_task ways (ByRemux bytes) =
    record { status = status_by (is_err (pieces_of_file bytes)); lines = remux_pieces bytes }

-- of what was asked for, or why nothing is run
abbrev pub output_of_request : List Way → Result Task End → Output
output_of_request ways (Ok task) = output_of_task ways task
output_of_request ways (Err end) = output_of_end end

-- how the program ends and what it writes, with listeners of these ways, for these files and words
unfoldable pub program_of : List Way → Table → List (List ℕ) → Output
program_of ways files words = output_of_request ways (request_in files words).task
