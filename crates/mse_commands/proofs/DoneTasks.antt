-- What was done of what was asked for.
use Rattle.std.proofs.Common.{◌≡◌, ◌≤◌, ℕ, List, [], ◌∷◌, ◌++◌, length, refl, ap, sym, ◌∙◌, subst, arith, inl, inr}
use Rattle.std.specs.Prelude.{Bool, true, Option, Some, None, IfSome, Result, Ok, Err, is_err}
use Rattle.std.proofs.lemmas.List.{append-nil}
use Rattle.mse_outside.specs.Outside.{HasRisen, SinkView, Table}
use Rattle.bmff_write.specs.Made.{made_bytes}
use Rattle.mse_calls.specs.declared.entry.Entry.{Entry}
use Rattle.mse_calls.specs.declared.rules.Rule.{Rule}
use Rattle.call_script.specs.declared.script.Script.{Script as CallScript}
use Rattle.mse_engine.specs.Standing.{KeptEngine, Stands}
use Rattle.mse_engine.specs.Transitions.{IsTransition}
use Rattle.mse_engine.specs.Views.{view_in}
use Rattle.mse_engine.proofs.Transitions.{goes_none}
use Rattle.event_text.specs.Block.{closing_text}
use Rattle.run_steps.specs.declared.note.Note.{Note}
use Rattle.listeners.specs.declared.event_dispatch.DispatchFault.TheVariants as fault
use Rattle.remux.specs.Pieces.{pieces_of_file}
use Rattle.script_run.specs.declared.stop.Halt.{Halt}
use Rattle.script_run.specs.declared.stop.Halt.TheVariants as halt
use Rattle.script_run.specs.declared.stop.Stop.{Stop}
use Rattle.script_run.specs.declared.stop.Stop.TheVariants as stop
use Rattle.script_run.specs.Lines.{limits}
use Rattle.listeners.specs.Views.{RunView}
use Rattle.script_run.specs.RunStates.{RunState, outside_in, outside_view, printed_run}
use Rattle.script_run.specs.Text.{lines_in, lines_of}
use Rattle.script_run.specs.Turns.{HasCallsLeftInLine}
use Rattle.script_run.specs.Writes.{IsWritten, IsFrontWritten}
use Rattle.cut_law.specs.Plays.{play_entries}
use Rattle.cut_law.proofs.Singles.{some-play}
use Rattle.script_run.proofs.PartsInRow.{IsWanting, memory_wanting, sink_wanting, stopped_none}
use Rattle.script_run.proofs.PutLines.{wrote_more, wrote_none}
use Rattle.script_run.proofs.StoppedParts.{at_limit}
use Rattle.mse_commands.specs.declared.ending.End.{End}
use Rattle.mse_commands.specs.declared.ending.End.TheVariants.{Memory, Write, Words, NoFile, Read, Script, CallBudget, TaskBudget}
use Rattle.mse_commands.specs.declared.words.Command.{Command}
use Rattle.mse_commands.specs.declared.words.Command.TheVariants.{Ranges, Pieces, Make, Play, Remux, Feed}
use Rattle.mse_commands.specs.Requests.{IsFileCommand, IsLackOf, IsReadOf, IsTaskOf, HasRequestOfCommand, Request, Task, ByScript, ByFile, ByRemux, blobs_bytes, file_by, file_request, file_task, files_by, blob_file_names, files_of_script, file_bytes, opening_of, remux_request, remux_task, request_of, script_of_file, script_request, script_task}
use Rattle.mse_commands.specs.Loads.{IsMade, IsReached, IsUnmade, IsLoadEnd, IsScriptEnd, failures}
use Rattle.mse_commands.specs.Endings.{end_of_halt}
use Rattle.mse_commands.specs.Outcomes.{IsRun, RunOutcome, IsWholeRun, outcome, outside_of}
use Rattle.mse_commands.specs.Remuxing.{remux_pieces}
use Rattle.mse_commands.specs.Shown.{IsAllOf, IsWholeFile, file_closing, last_state, pieces_by}
use Rattle.mse_commands.proofs.FrontParts.{part_of_begun}
use Rattle.mse_commands.specs.Works.{IsAppended, IsFrontRun, IsPartAppended, IsNothingDone, IsSomeDone, IsDoneUpTo, IsFileFrontShown, IsScriptShowResult, IsScriptHalfPlayed, IsScriptPlayed, IsScriptCutShort, IsScriptStopped, IsScriptUnplayed, IsFrontShown, IsFileShowResult, IsRequestDone, IsRequestDoneBy, IsTaskDone, script_inputs}
use Rattle.mse_commands.proofs.LoadedFiles.{end_as, reached_behind, reached_first, reached_more, script_there}

-- ---- what was not loaded

pub did_nothing : (a b : ℕ) (written : SinkView) (notes : List (List Note)) (rules : List (List Rule)) → IsNothingDone (outcome [] None (outside_of a written notes rules) (outside_of b written notes rules))
did_nothing a b written notes rules = record { nothing = record { entries = refl; engine = refl; notes = refl; rules = refl }; wrote = refl }

-- what a library says of an end that tells its files
abbrev IsEndTold : Request → Result Task End → RunOutcome → End → Type 0
IsEndTold request task after Memory = Unit {0}
IsEndTold request task after (Read name) = HasRisen after.before.faults after.now.faults × IsReached request.files request.names name
IsEndTold request task after (NoFile name) = task ≡ Err (NoFile name)
IsEndTold request task after (Script fault) = task ≡ Err (Script fault)
IsEndTold request task after Write = ⊥
IsEndTold request task after Words = ⊥
IsEndTold request task after (CallBudget k) = ⊥
IsEndTold request task after (TaskBudget limit) = ⊥

not_loaded_by : (count : ℕ) (request : Request) (task : Result Task End) (after : RunOutcome) (end : End) → IsNothingDone after → IsEndTold request task after end → IsRequestDoneBy count request task after (Err end)
not_loaded_by count request (Ok t) after Memory n p = inl n
not_loaded_by count request (Ok t) after (Read name) n p = (n, (p.0, p.1))
not_loaded_by count request (Ok t) after (NoFile name) n p = absurd (cc)
not_loaded_by count request (Ok t) after (Script fault) n p = absurd (cc)
not_loaded_by count request (Ok t) after Write n p = absurd p
not_loaded_by count request (Ok t) after Words n p = absurd p
not_loaded_by count request (Ok t) after (CallBudget k) n p = absurd p
not_loaded_by count request (Ok t) after (TaskBudget limit) n p = absurd p
not_loaded_by count request (Err e) after Memory n p = n
not_loaded_by count request (Err e) after (Read name) n p = (n, (p.0, p.1))
not_loaded_by count request (Err e) after (NoFile name) n p = (n, cc (p))
not_loaded_by count request (Err e) after (Script fault) n p = (n, cc (p))
not_loaded_by count request (Err e) after Write n p = absurd p
not_loaded_by count request (Err e) after Words n p = absurd p
not_loaded_by count request (Err e) after (CallBudget k) n p = absurd p
not_loaded_by count request (Err e) after (TaskBudget limit) n p = absurd p

told_file : {A : Type 0} (files : Table) (request : Request) (task : Result Task End) (after : RunOutcome) (names : List (List ℕ)) (told : Result A End) (end : End)
    → (told ≡ Err end → task ≡ Err end) → ((name : List ℕ) → IsReached files names name → IsReached request.files request.names name)
    → IsLoadEnd (Some files) (failures after.before.faults after.now.faults) names (λ x. told) end → IsEndTold request task after end
told_file files request task after names told Memory fails reaches p = tt
told_file files request task after names told (Read name) fails reaches p = (p.0, reaches name p.1)
told_file files request task after names told (NoFile name) fails reaches p = fails p
told_file files request task after names told (Script fault) fails reaches p = absurd p
told_file files request task after names told Write fails reaches p = absurd p
told_file files request task after names told Words fails reaches p = absurd p
told_file files request task after names told (CallBudget k) fails reaches p = absurd p
told_file files request task after names told (TaskBudget limit) fails reaches p = absurd p

-- ---- of a library that tells no files

-- what it may have been asked for, where nothing came of it
abbrev pub no_request : List (List ℕ) → End → Request
no_request names end = record { files = λ name. None; names = names; task = Err end }

-- Nothing is run for an end that needs no file: memory was wanting, a file is not there, or the library failed.
untold_file : {A : Type 0} (count : ℕ) (name : List ℕ) (command : Command) (after : RunOutcome) (names : List (List ℕ)) (told : Table → Result A End) (end : End)
    → ((other : List ℕ) → IsLackOf command (NoFile other)) → IsNothingDone after → IsLoadEnd None (failures after.before.faults after.now.faults) names told end
    → HasRequestOfCommand None name (Some command) (λ request. IsRequestDone count request after (Err end))
untold_file count name command after names told Memory lack n p = (no_request [] (NoFile []), lack [], n)
untold_file count name command after names told (Read other) lack n p =
    (no_request (other ∷ []) (NoFile []), lack [], (n, (p.0, reached_first (λ x. None) other [])))
untold_file count name command after names told (NoFile other) lack n p = (no_request [] (NoFile other), lack other, (n, refl))
untold_file count name command after names told (Script fault) lack n p = absurd p
untold_file count name command after names told Write lack n p = absurd p
untold_file count name command after names told Words lack n p = absurd p
untold_file count name command after names told (CallBudget k) lack n p = absurd p
untold_file count name command after names told (TaskBudget limit) lack n p = absurd p

untold_script : (count : ℕ) (name : List ℕ) (after : RunOutcome) (end : End) → IsNothingDone after → IsScriptEnd None (failures after.before.faults after.now.faults) name end
    → HasRequestOfCommand None name (Some Play) (λ request. IsRequestDone count request after (Err end))
untold_script count name after Memory n p = untold_file count name Play after (name ∷ []) (λ files. script_of_file files name) Memory (λ other. tt) n p
untold_script count name after (Read other) n p = untold_file count name Play after (name ∷ []) (λ files. script_of_file files name) (Read other) (λ x. tt) n p
untold_script count name after (NoFile other) n p = untold_file count name Play after (name ∷ []) (λ files. script_of_file files name) (NoFile other) (λ x. tt) n p
untold_script count name after (Script fault) n p = (no_request [] (Script fault), p.0, (n, refl))
untold_script count name after Write n p = absurd p
untold_script count name after Words n p = absurd p
untold_script count name after (CallBudget k) n p = absurd p
untold_script count name after (TaskBudget limit) n p = absurd p

-- ---- a file that was not loaded

file_fails : (files : Table) (name : List ℕ) (command : Command) (end : End) → file_by files name command ≡ Err end → file_task files name command ≡ Err end
file_fails files name command end e = rw e refl

-- what is asked for by a command that appends a file
pub file_request_is : (files : Table) (name : List ℕ) (command : Command) → IsFileCommand command → file_request files name command ≡ request_of files name (Some command)
file_request_is files name Ranges f = refl
file_request_is files name (Pieces count) f = refl
file_request_is files name (Make count) f = refl
file_request_is files name (Feed at) f = refl
file_request_is files name Remux f = absurd f
file_request_is files name Play f = absurd f

-- a file that was not made, for want of memory
unmade_file : (count : ℕ) (name : List ℕ) (n : ℕ) (after : RunOutcome) (end : End) → IsNothingDone after → end ≡ Memory → HasRequestOfCommand None name (Some (Make n)) (λ request. IsRequestDone count request after (Err end))
unmade_file count name n after end nothing e = (record { files = λ x. None; names = []; task = Ok (ByFile (Make n) (made_bytes n)) }, (refl, refl), rw e (inl nothing))

untold_by : {A : Type 0} (count : ℕ) (name : List ℕ) (command : Command) (after : RunOutcome) (names : List (List ℕ)) (told : Table → Result A End) (end : End) → IsFileCommand command → IsUnmade command end
    → IsNothingDone after → IsLoadEnd None (failures after.before.faults after.now.faults) names told end → HasRequestOfCommand None name (Some command) (λ request. IsRequestDone count request after (Err end))
untold_by count name Ranges after names told end f u n p = untold_file count name Ranges after names told end (λ other. tt) n p
untold_by count name (Pieces size) after names told end f u n p = untold_file count name (Pieces size) after names told end (λ other. tt) n p
untold_by count name (Make made) after names told end f u n p = unmade_file count name made after end n u
untold_by count name (Feed at) after names told end f u n p = untold_file count name (Feed at) after names told end (λ other. tt) n p
untold_by count name Remux after names told end f u n p = absurd f
untold_by count name Play after names told end f u n p = absurd f

pub file_not_loaded : (table : Option Table) (a b : ℕ) (name : List ℕ) (command : Command) (end : End) (entries : List Entry) (engine : Option KeptEngine) (written : SinkView)
    (count : ℕ) (notes : List (List Note)) (rules : List (List Rule)) → IsFileCommand command → IsUnmade command end → entries ≡ [] → engine ≡ None
    → IsLoadEnd table (failures a b) (files_by name command) (λ files. file_by files name command) end
    → HasRequestOfCommand table name (Some command) (λ request. IsRequestDone count request (outcome entries engine (outside_of a written notes rules) (outside_of b written notes rules)) (Err end))
file_not_loaded None a b name command end entries engine written count notes rules f u none nothing p =
    rw (none, nothing) (untold_by count name command (outcome [] None (outside_of a written notes rules) (outside_of b written notes rules)) (files_by name command) (λ files. file_by files name command) end f u
    (did_nothing a b written notes rules) p)
file_not_loaded (Some files) a b name command end entries engine written count notes rules f u none nothing p =
    let after : RunOutcome = outcome [] None (outside_of a written notes rules) (outside_of b written notes rules) in
    let request : Request = file_request files name command in
    rw (none, nothing) (
      request,
      file_request_is files name command f,
      not_loaded_by count request (file_task files name command) after end (did_nothing a b written notes rules)
          (told_file files request (file_task files name command) after (files_by name command) (file_by files name command) end (file_fails files name command end) (λ n q. q) p),
    )

-- ---- a file that was run

file_ran : (command : Command) (bytes : List ℕ) (a b : KeptEngine) (es : List Entry) (after : RunOutcome) → Stands a (opening_of (ByFile command bytes)) → IsTransition (bytes ∷ []) a b es
    → after.entries ≡ es → after.engine ≡ Some b → IsRun (ByFile command bytes) after
file_ran command bytes a b es after stands goes entries engine = record {
  replays = rw entries (goes.replays (opening_of (ByFile command bytes)) stands);
  sound = rw entries (goes.sound (opening_of (ByFile command bytes)) stands);
  engine = rw (engine, entries) (goes.stands (opening_of (ByFile command bytes)) stands);
}

-- a front was appended, and nothing written
file_begun : (count : ℕ) (stop : Stop) (command : Command) (bytes : List ℕ) (a b : RunView) (w0 w1 : SinkView) (f0 f1 : ℕ) (notes : List (List Note)) (rules : List (List Rule))
    → Stands a.engine (opening_of (ByFile command bytes)) → a.entries ≡ [] → IsPartAppended bytes (pieces_by command (length bytes)) a b → w1 ≡ w0
    → IsSomeDone count stop (ByFile command bytes) (outcome b.entries (Some b.engine) (outside_of f0 w0 notes rules) (outside_of f1 w1 notes rules))
file_begun count stop command bytes a b w0 w1 f0 f1 notes rules stands fresh p same =
    let es : List Entry = p.entries in
    let task : Task = ByFile command bytes in
    let all : b.entries ≡ es = p.grew.grew ∙ ap (λ (x : List Entry). x ++ es) fresh in
    record {
      ran = record {
        run = file_ran command bytes a.engine b.engine es (outcome b.entries (Some b.engine) (outside_of f0 w0 notes rules) (outside_of f1 w1 notes rules)) stands p.grew.goes all refl;
        front = rw all (p.grew.holds (opening_of task) stands);
        rules = refl;
      };
      came = inl (refl, same);
    }

-- all was appended, and a front of the text was written
file_half : (count : ℕ) (stop : Stop) (command : Command) (bytes : List ℕ) (a b : RunView) (w0 w1 : SinkView) (f0 f1 : ℕ) (notes : List (List Note)) (rules : List (List Rule))
    → Stands a.engine (opening_of (ByFile command bytes)) → a.entries ≡ [] → IsAppended bytes (pieces_by command (length bytes)) a b
    → IsFrontShown (file_closing command (length bytes)) b w0 w1
    → IsSomeDone count stop (ByFile command bytes) (outcome b.entries (Some b.engine) (outside_of f0 w0 notes rules) (outside_of f1 w1 notes rules))
file_half count stop command bytes a b w0 w1 f0 f1 notes rules stands fresh p shown =
    let es : List Entry = p.entries in
    let task : Task = ByFile command bytes in
    let all : b.entries ≡ es = p.grew.grew ∙ ap (λ (x : List Entry). x ++ es) fresh in
    let last : Stands b.engine (last_state task es) = p.grew.goes.stands (opening_of task) stands in
    let whole : IsWholeFile (bytes ∷ []) (opening_of task) (pieces_by command (length bytes)) es = p.grew.holds (opening_of task) stands in
    record {
      ran = record {
        run = file_ran command bytes a.engine b.engine es (outcome b.entries (Some b.engine) (outside_of f0 w0 notes rules) (outside_of f1 w1 notes rules)) stands p.grew.goes all refl;
        front = rw all ([], subst (λ (x : List Entry). IsWholeFile (bytes ∷ []) (opening_of task) (pieces_by command (length bytes)) x) (sym (append-nil es)) whole);
        rules = refl;
      };
      came = rw all (inr (whole, (refl, refl), record { middle = w0; wrote = wrote_none w0; front = shown (last_state task es) last }));
    }

file_front : (count : ℕ) (stop : Stop) (command : Command) (bytes : List ℕ) (a b : RunView) (w0 w1 : SinkView) (f0 f1 : ℕ) (notes : List (List Note)) (rules : List (List Rule))
    → Stands a.engine (opening_of (ByFile command bytes)) → a.entries ≡ [] → IsFileFrontShown command bytes (printed_run a w0) (printed_run b w1)
    → IsSomeDone count stop (ByFile command bytes) (outcome b.entries (Some b.engine) (outside_of f0 w0 notes rules) (outside_of f1 w1 notes rules))
file_front count stop command bytes a b w0 w1 f0 f1 notes rules stands fresh (inl p) = file_begun count stop command bytes a b w0 w1 f0 f1 notes rules stands fresh p.0 p.1
file_front count stop command bytes a b w0 w1 f0 f1 notes rules stands fresh (inr p) = file_half count stop command bytes a b w0 w1 f0 f1 notes rules stands fresh p.0 p.1

pub file_worked : (count : ℕ) (request : Request) (command : Command) (bytes : List ℕ) (a b : RunView) (w0 w1 : SinkView) (f0 f1 : ℕ) (notes : List (List Note)) (rules : List (List Rule))
    (result : Result Bool End) → Stands a.engine (opening_of (ByFile command bytes)) → a.entries ≡ [] → IsFileShowResult command bytes (printed_run a w0) (printed_run b w1) result
    → IsTaskDone count request (ByFile command bytes) (outcome b.entries (Some b.engine) (outside_of f0 w0 notes rules) (outside_of f1 w1 notes rules)) result
file_worked count request command bytes a b w0 w1 f0 f1 notes rules (Ok broken) stands fresh p =
    let es : List Entry = p.appended.entries in
    let task : Task = ByFile command bytes in
    let all : b.entries ≡ es = p.appended.grew.grew ∙ ap (λ (x : List Entry). x ++ es) fresh in
    let last : Stands b.engine (last_state task es) = p.appended.grew.goes.stands (opening_of task) stands in
    record {
      ran = record {
        run = file_ran command bytes a.engine b.engine es (outcome b.entries (Some b.engine) (outside_of f0 w0 notes rules) (outside_of f1 w1 notes rules)) stands p.appended.grew.goes all refl;
        all = rw all (p.appended.grew.holds (opening_of task) stands);
        wrote = rw all (p.shown.wrote (last_state task es) last);
        heard = (refl, refl);
      };
      broken_is = rw all (p.broken_is (last_state task es) last);
    }
file_worked count request command bytes a b w0 w1 f0 f1 notes rules (Err Memory) stands fresh p = inr (file_front count stop.Memory command bytes a b w0 w1 f0 f1 notes rules stands fresh p)
file_worked count request command bytes a b w0 w1 f0 f1 notes rules (Err Write) stands fresh p = file_front count stop.Write command bytes a b w0 w1 f0 f1 notes rules stands fresh p
file_worked count request command bytes a b w0 w1 f0 f1 notes rules (Err Words) stands fresh p = absurd p
file_worked count request command bytes a b w0 w1 f0 f1 notes rules (Err (NoFile name)) stands fresh p = absurd p
file_worked count request command bytes a b w0 w1 f0 f1 notes rules (Err (Read name)) stands fresh p = absurd p
file_worked count request command bytes a b w0 w1 f0 f1 notes rules (Err (Script fault)) stands fresh p = absurd p
file_worked count request command bytes a b w0 w1 f0 f1 notes rules (Err (CallBudget k)) stands fresh p = absurd p
file_worked count request command bytes a b w0 w1 f0 f1 notes rules (Err (TaskBudget limit)) stands fresh p = absurd p

file_goes : (files : Table) (name : List ℕ) (command : Command) (bytes : List ℕ) → file_by files name command ≡ Ok bytes → file_task files name command ≡ Ok (ByFile command bytes)
file_goes files name command bytes e = rw e refl

works_on : (count : ℕ) (request : Request) (task : Task) (after : RunOutcome) (result : Result Bool End) → request.task ≡ Ok task → IsTaskDone count request task after result → IsRequestDone count request after result
works_on count request task after result e p = subst (λ (t : Result Task End). IsRequestDoneBy count request t after result) (sym e) p

-- a file whose bytes nobody tells is a task of its command
untold_task : (command : Command) (bytes : List ℕ) → IsFileCommand command → IsMade command bytes → IsTaskOf command (ByFile command bytes)
untold_task Ranges bytes f m = refl
untold_task (Pieces count) bytes f m = refl
untold_task (Make count) bytes f m = (refl, m)
untold_task (Feed at) bytes f m = refl
untold_task Remux bytes f m = absurd f
untold_task Play bytes f m = absurd f

pub file_works : (table : Option Table) (f0 f1 : ℕ) (name bytes : List ℕ) (command : Command) (a b : RunView) (w0 w1 : SinkView) (count : ℕ) (notes : List (List Note)) (rules : List (List Rule))
    (result : Result Bool End) → IsFileCommand command → IsMade command bytes → IfSome table (λ files. file_by files name command ≡ Ok bytes)
    → Stands a.engine (opening_of (ByFile command bytes)) → a.entries ≡ [] → IsFileShowResult command bytes (printed_run a w0) (printed_run b w1) result
    → HasRequestOfCommand table name (Some command) (λ request. IsRequestDone count request (outcome b.entries (Some b.engine) (outside_of f0 w0 notes rules) (outside_of f1 w1 notes rules)) result)
file_works None f0 f1 name bytes command a b w0 w1 count notes rules result f m is stands fresh p =
    let request : Request = record { files = λ x. None; names = []; task = Ok (ByFile command bytes) } in
    (request, untold_task command bytes f m, file_worked count request command bytes a b w0 w1 f0 f1 notes rules result stands fresh p)
file_works (Some files) f0 f1 name bytes command a b w0 w1 count notes rules result f m is stands fresh p =
    let request : Request = file_request files name command in (
      request,
      file_request_is files name command f,
      works_on count request (ByFile command bytes) (outcome b.entries (Some b.engine) (outside_of f0 w0 notes rules) (outside_of f1 w1 notes rules)) result (file_goes files name command bytes is)
          (file_worked count request command bytes a b w0 w1 f0 f1 notes rules result stands fresh p),
    )

-- ---- a classic file

remux_fails : (files : Table) (name : List ℕ) (end : End) → file_bytes files name ≡ Err end → remux_task files name ≡ Err end
remux_fails files name end e = rw e refl

remux_goes : (files : Table) (name bytes : List ℕ) → file_bytes files name ≡ Ok bytes → remux_task files name ≡ Ok (ByRemux bytes)
remux_goes files name bytes e = rw e refl

pub remux_not_loaded : (table : Option Table) (a b : ℕ) (name : List ℕ) (end : End) (written : SinkView) (count : ℕ) (notes : List (List Note)) (rules : List (List Rule))
    → IsLoadEnd table (failures a b) (name ∷ []) (λ files. file_bytes files name) end
    → HasRequestOfCommand table name (Some Remux) (λ request. IsRequestDone count request (outcome [] None (outside_of a written notes rules) (outside_of b written notes rules)) (Err end))
remux_not_loaded None a b name end written count notes rules p =
    untold_file count name Remux (outcome [] None (outside_of a written notes rules) (outside_of b written notes rules)) (name ∷ []) (λ files. file_bytes files name) end (λ other. tt) (did_nothing a b written notes rules) p
remux_not_loaded (Some files) a b name end written count notes rules p =
    let after : RunOutcome = outcome [] None (outside_of a written notes rules) (outside_of b written notes rules) in
    let request : Request = remux_request files name in (
      request,
      refl,
      not_loaded_by count request (remux_task files name) after end (did_nothing a b written notes rules)
          (told_file files request (remux_task files name) after (name ∷ []) (file_bytes files name) end (remux_fails files name end) (λ n q. q) p),
    )

-- nothing is in the journal, and there is no engine
remux_ran : (bytes : List ℕ) (a b : ℕ) (w0 w1 : SinkView) (notes : List (List Note)) (rules : List (List Rule)) → IsRun (ByRemux bytes) (outcome [] None (outside_of a w0 notes rules) (outside_of b w1 notes rules))
remux_ran bytes a b w0 w1 notes rules = record { replays = tt; sound = tt; engine = refl }

remux_whole : (count : ℕ) (request : Request) (bytes : List ℕ) (a b : ℕ) (w0 w1 : SinkView) (notes : List (List Note)) (rules : List (List Rule)) (broken : Bool)
    → IsWritten (remux_pieces bytes) w0 w1 → broken ≡ is_err (pieces_of_file bytes) → IsTaskDone count request (ByRemux bytes) (outcome [] None (outside_of a w0 notes rules) (outside_of b w1 notes rules)) (Ok broken)
remux_whole count request bytes a b w0 w1 notes rules broken wrote is = record {
  ran = record { run = remux_ran bytes a b w0 w1 notes rules; all = refl; wrote = wrote; heard = (refl, refl) };
  broken_is = is;
}

remux_some : (count : ℕ) (stop : Stop) (bytes : List ℕ) (a b : ℕ) (w0 w1 : SinkView) (notes : List (List Note)) (rules : List (List Rule)) → IsFrontWritten (remux_pieces bytes) w0 w1
    → IsSomeDone count stop (ByRemux bytes) (outcome [] None (outside_of a w0 notes rules) (outside_of b w1 notes rules))
remux_some count stop bytes a b w0 w1 notes rules wrote = record {
  ran = record { run = remux_ran bytes a b w0 w1 notes rules; front = ([], refl); rules = refl };
  came = inr (refl, (refl, refl), record { middle = w0; wrote = wrote_none w0; front = wrote });
}

remux_half : (count : ℕ) (request : Request) (h : Halt) (bytes : List ℕ) (a b : ℕ) (w0 w1 : SinkView) (notes : List (List Note)) (rules : List (List Rule)) → IsFrontWritten (remux_pieces bytes) w0 w1
    → IsTaskDone count request (ByRemux bytes) (outcome [] None (outside_of a w0 notes rules) (outside_of b w1 notes rules)) (Err (end_of_halt h))
remux_half count request halt.Memory bytes a b w0 w1 notes rules wrote = inr (remux_some count stop.Memory bytes a b w0 w1 notes rules wrote)
remux_half count request halt.Write bytes a b w0 w1 notes rules wrote = remux_some count stop.Write bytes a b w0 w1 notes rules wrote

-- what is asked for where the file is there
remux_asked : (table : Option Table) (name bytes : List ℕ) (count : ℕ) (after : RunOutcome) (result : Result Bool End) → IfSome table (λ files. file_bytes files name ≡ Ok bytes)
    → ((request : Request) → IsTaskDone count request (ByRemux bytes) after result) → HasRequestOfCommand table name (Some Remux) (λ request. IsRequestDone count request after result)
remux_asked None name bytes count after result is p =
    let request : Request = record { files = λ x. None; names = []; task = Ok (ByRemux bytes) } in
    (request, tt, p request)
remux_asked (Some files) name bytes count after result is p =
    let request : Request = remux_request files name in
    (request, refl, works_on count request (ByRemux bytes) after result (remux_goes files name bytes is) (p request))

pub remux_works : (table : Option Table) (a b : ℕ) (name bytes : List ℕ) (w0 w1 : SinkView) (count : ℕ) (notes : List (List Note)) (rules : List (List Rule)) (broken : Bool)
    → IfSome table (λ files. file_bytes files name ≡ Ok bytes) → IsWritten (remux_pieces bytes) w0 w1 → broken ≡ is_err (pieces_of_file bytes)
    → HasRequestOfCommand table name (Some Remux) (λ request. IsRequestDone count request (outcome [] None (outside_of a w0 notes rules) (outside_of b w1 notes rules)) (Ok broken))
remux_works table a b name bytes w0 w1 count notes rules broken is wrote broken_is =
    remux_asked table name bytes count (outcome [] None (outside_of a w0 notes rules) (outside_of b w1 notes rules)) (Ok broken) is (λ request. remux_whole count request bytes a b w0 w1 notes rules broken wrote broken_is)

pub remux_stops : (table : Option Table) (a b : ℕ) (name bytes : List ℕ) (w0 w1 : SinkView) (count : ℕ) (notes : List (List Note)) (rules : List (List Rule)) (h : Halt)
    → IfSome table (λ files. file_bytes files name ≡ Ok bytes) → IsFrontWritten (remux_pieces bytes) w0 w1
    → HasRequestOfCommand table name (Some Remux) (λ request. IsRequestDone count request (outcome [] None (outside_of a w0 notes rules) (outside_of b w1 notes rules)) (Err (end_of_halt h)))
remux_stops table a b name bytes w0 w1 count notes rules h is wrote =
    remux_asked table name bytes count (outcome [] None (outside_of a w0 notes rules) (outside_of b w1 notes rules)) (Err (end_of_halt h)) is (λ request. remux_half count request h bytes a b w0 w1 notes rules wrote)

-- ---- a script that was not loaded

script_fails : (files : Table) (name : List ℕ) (end : End) → script_of_file files name ≡ Err end → script_task files name ≡ Err end
script_fails files name end e = rw e refl

blobs_fail : (files : Table) (name : List ℕ) (script : CallScript) (end : End) → script_of_file files name ≡ Ok script → blobs_bytes files script.blobs ≡ Err end → script_task files name ≡ Err end
blobs_fail files name script end e q = rw (e, q) refl

told_script : (files : Table) (name : List ℕ) (after : RunOutcome) (end : End) → IsScriptEnd (Some files) (failures after.before.faults after.now.faults) name end
    → IsEndTold (script_request files name) (script_task files name) after end
told_script files name after Memory p = tt
told_script files name after (Read other) p = (p.0, reached_more files other (name ∷ []) (files_of_script (script_of_file files name)) p.1)
told_script files name after (NoFile other) p = script_fails files name (NoFile other) p
told_script files name after (Script fault) p = script_fails files name (Script fault) p.1
told_script files name after Write p = absurd p
told_script files name after Words p = absurd p
told_script files name after (CallBudget k) p = absurd p
told_script files name after (TaskBudget limit) p = absurd p

pub script_not_loaded : (table : Option Table) (a b : ℕ) (name : List ℕ) (end : End) (entries : List Entry) (engine : Option KeptEngine) (written : SinkView)
    (count : ℕ) (notes : List (List Note)) (rules : List (List Rule)) → entries ≡ [] → engine ≡ None → IsScriptEnd table (failures a b) name end
    → HasRequestOfCommand table name (Some Play) (λ request. IsRequestDone count request (outcome entries engine (outside_of a written notes rules) (outside_of b written notes rules)) (Err end))
script_not_loaded None a b name end entries engine written count notes rules none nothing p =
    rw (none, nothing) (untold_script count name (outcome [] None (outside_of a written notes rules) (outside_of b written notes rules)) end (did_nothing a b written notes rules) p)
script_not_loaded (Some files) a b name end entries engine written count notes rules none nothing p =
    let after : RunOutcome = outcome [] None (outside_of a written notes rules) (outside_of b written notes rules) in
    rw (none, nothing) (
      script_request files name,
      refl,
      not_loaded_by count (script_request files name) (script_task files name) after end (did_nothing a b written notes rules)
          (told_script files name after end p),
    )

pub blobs_not_loaded : (table : Option Table) (a b c : ℕ) (name : List ℕ) (script : CallScript) (end : End) (entries : List Entry) (engine : Option KeptEngine) (written : SinkView)
    (count : ℕ) (notes : List (List Note)) (rules : List (List Rule)) → entries ≡ [] → engine ≡ None → a ≤ b → IfSome table (λ files. script_of_file files name ≡ Ok script)
    → IsLoadEnd table (failures b c) (blob_file_names script.blobs) (λ files. blobs_bytes files script.blobs) end
    → HasRequestOfCommand table name (Some Play) (λ request. IsRequestDone count request (outcome entries engine (outside_of a written notes rules) (outside_of c written notes rules)) (Err end))
blobs_not_loaded None a b c name script end entries engine written count notes rules none nothing before is p =
    rw (none, nothing) (untold_file count name Play (outcome [] None (outside_of a written notes rules) (outside_of c written notes rules)) (blob_file_names script.blobs) (λ files. blobs_bytes files script.blobs) end (λ other. tt)
    (did_nothing a c written notes rules)
    (end_as None a b c c (blob_file_names script.blobs) (blob_file_names script.blobs) (λ files. blobs_bytes files script.blobs) (λ files. blobs_bytes files script.blobs) end
    before (omega arith) (λ x n e q. q) (λ x e q. q) p))
blobs_not_loaded (Some files) a b c name script end entries engine written count notes rules none nothing before is p =
    let after : RunOutcome = outcome [] None (outside_of a written notes rules) (outside_of c written notes rules) in
    rw (none, nothing) (
      script_request files name,
      refl,
      not_loaded_by count (script_request files name) (script_task files name) after end (did_nothing a c written notes rules)
          (told_file files (script_request files name) (script_task files name) after (blob_file_names script.blobs) (blobs_bytes files script.blobs) end (blobs_fail files name script end is) reaches
          (end_as (Some files) a b c c (blob_file_names script.blobs) (blob_file_names script.blobs) (λ files. blobs_bytes files script.blobs) (λ x. blobs_bytes files script.blobs) end
          before (omega arith) (λ x n e q. q) (λ x e q. same_table x e q) p)),
    )
  where
    same_table : (x : Table) → Some files ≡ Some x → blobs_bytes x script.blobs ≡ Err end → blobs_bytes files script.blobs ≡ Err end
    same_table x e q = let same : files ≡ x = cc in rw same q

    reaches : (n : List ℕ) → IsReached files (blob_file_names script.blobs) n → IsReached files (script_request files name).names n
    reaches n q =
        let names : files_of_script (script_of_file files name) ≡ blob_file_names script.blobs = ap files_of_script is in
        rw names (reached_behind files name n (blob_file_names script.blobs) (script_there files name script is) q)

-- ---- a script that was run

script_ran : (script : CallScript) (blobs : List (List ℕ)) (a b : KeptEngine) (es : List Entry) (after : RunOutcome) → Stands a (opening_of (ByScript script blobs)) → IsTransition blobs a b es
    → after.entries ≡ es → after.engine ≡ Some b → IsRun (ByScript script blobs) after
script_ran script blobs a b es after stands goes entries engine = record {
  replays = rw entries (goes.replays (opening_of (ByScript script blobs)) stands);
  sound = rw entries (goes.sound (opening_of (ByScript script blobs)) stands);
  engine = rw (engine, entries) (goes.stands (opening_of (ByScript script blobs)) stands);
}

-- how the run of a script stands before it and after it
module _ (count : ℕ) (request : Request) (script : CallScript) (blobs : List (List ℕ)) (a b : RunState) (f0 f1 : ℕ) (r0 r1 : List (List Rule))
    (stands : Stands a.run.engine (opening_of (ByScript script blobs))) (fresh : a.run.entries ≡ []) where
  all_of : (es : List Entry) → b.run.entries ≡ a.run.entries ++ es → b.run.entries ≡ es
  all_of es grew = grew ∙ ap (λ (x : List Entry). x ++ es) fresh

  script_whole : IsScriptPlayed (script_inputs count script blobs) r1 a b → IsWholeRun count (ByScript script blobs) (outcome b.run.entries (Some b.run.engine) (outside_of f0 a.written a.notes r0) (outside_of f1 b.written b.notes r1))
  script_whole p =
      let es : List Entry = p.played.entries in
      let all : b.run.entries ≡ es = all_of es p.played.grew.grew in
      let last : Stands b.run.engine (last_state (ByScript script blobs) es) = p.played.grew.goes.stands (opening_of (ByScript script blobs)) stands in
      record {
        run = script_ran script blobs a.run.engine b.run.engine es (outcome b.run.entries (Some b.run.engine) (outside_of f0 a.written a.notes r0) (outside_of f1 b.written b.notes r1)) stands p.played.grew.goes all refl;
        all = rw all (p.played.grew.holds (opening_of (ByScript script blobs)) stands);
        wrote = rw all (wrote_more (lines_of es) (lines_in (closing_text (view_in (last_state (ByScript script blobs) es)) true)) a.written p.middle b.written p.played.wrote (p.shown.wrote (last_state (ByScript script blobs) es) last));
        heard = (p.rules_are, rw all p.played.heard);
      }

  script_half : (s : Stop) → IsScriptHalfPlayed (script_inputs count script blobs) r1 a b → IsSomeDone count s (ByScript script blobs) (outcome b.run.entries (Some b.run.engine) (outside_of f0 a.written a.notes r0) (outside_of f1 b.written b.notes r1))
  script_half s p =
      let es : List Entry = p.played.entries in
      let all : b.run.entries ≡ es = all_of es p.played.grew.grew in
      let last : Stands b.run.engine (last_state (ByScript script blobs) es) = p.played.grew.goes.stands (opening_of (ByScript script blobs)) stands in
      record {
        ran = record {
          run = script_ran script blobs a.run.engine b.run.engine es (outcome b.run.entries (Some b.run.engine) (outside_of f0 a.written a.notes r0) (outside_of f1 b.written b.notes r1)) stands p.played.grew.goes all refl;
          front = rw all ([], subst (λ (x : List Entry). IsAllOf count (ByScript script blobs) x) (sym (append-nil es)) (p.played.grew.holds (opening_of (ByScript script blobs)) stands));
          rules = inr p.rules_are;
        };
        came = rw all (inr (p.played.grew.holds (opening_of (ByScript script blobs)) stands, (p.rules_are, p.played.heard), record { middle = p.middle; wrote = p.played.wrote; front = p.shown (last_state (ByScript script blobs) es) last }));
      }

  -- it stopped in a line
  script_front : (end : Stop) (p : IsScriptStopped (script_inputs count script blobs) r1 a b end)
      → IsFrontRun count (ByScript script blobs) (outcome b.run.entries (Some b.run.engine) (outside_of f0 a.written a.notes r0) (outside_of f1 b.written b.notes r1))
  script_front end p =
      let es : List Entry = p.played.entries in
      let all : b.run.entries ≡ es = all_of es p.played.grew.grew in
      record {
        run = script_ran script blobs a.run.engine b.run.engine es (outcome b.run.entries (Some b.run.engine) (outside_of f0 a.written a.notes r0) (outside_of f1 b.written b.notes r1)) stands p.played.grew.goes all refl;
        front = rw all (part_of_begun script.steps blobs (limits script.drain count) 0 (opening_of (ByScript script blobs)) es (p.played.grew.holds (opening_of (ByScript script blobs)) stands));
        rules = inr p.rules_are;
      }

  script_stopped : (s : Stop) → IsScriptStopped (script_inputs count script blobs) r1 a b s
      → IsSomeDone count s (ByScript script blobs) (outcome b.run.entries (Some b.run.engine) (outside_of f0 a.written a.notes r0) (outside_of f1 b.written b.notes r1))
  script_stopped s p =
      let all : b.run.entries ≡ p.played.entries = all_of p.played.entries p.played.grew.grew in
      record { ran = script_front s p; came = inl (rw all p.played.stopped) }

  script_unplayed : (s : Stop) → IsWanting s → IsScriptUnplayed a b → IsSomeDone count s (ByScript script blobs) (outcome b.run.entries (Some b.run.engine) (outside_of f0 a.written a.notes r0) (outside_of f1 b.written b.notes r1))
  script_unplayed s wanting p =
      let all : b.run.entries ≡ [] = ap (λ (r : RunView). r.entries) p.run ∙ fresh in
      let engine : b.run.engine ≡ a.run.engine = ap (λ (r : RunView). r.engine) p.run in
      record {
        ran = record {
          run = script_ran script blobs a.run.engine b.run.engine [] (outcome b.run.entries (Some b.run.engine) (outside_of f0 a.written a.notes r0) (outside_of f1 b.written b.notes r1)) stands
              (rw engine (goes_none blobs a.run.engine)) all refl;
          front = rw all (play_entries blobs 0 (opening_of (ByScript script blobs)) script.steps, (some-play blobs (limits script.drain count) 0 (opening_of (ByScript script blobs)) script.steps).whole);
          rules = inl all;
        };
        came = inl (rw (all, p.written, p.notes) (stopped_none (HasCallsLeftInLine script.drain) s (outside_view a.written a.notes) wanting));
      }

  script_short : (s : Stop) → IsWanting s → IsScriptCutShort (script_inputs count script blobs) r1 a b s
      → IsSomeDone count s (ByScript script blobs) (outcome b.run.entries (Some b.run.engine) (outside_of f0 a.written a.notes r0) (outside_of f1 b.written b.notes r1))
  script_short s wanting (inl p) = script_unplayed s wanting p
  script_short s wanting (inr (inl p)) = script_stopped s p
  script_short s wanting (inr (inr p)) = script_half s p

  -- a listener made too many calls
  script_cut : (k : ℕ) (p : IsScriptStopped (script_inputs count script blobs) r1 a b (stop.CallBudget k))
      → IsDoneUpTo count (ByScript script blobs) (outcome b.run.entries (Some b.run.engine) (outside_of f0 a.written a.notes r0) (outside_of f1 b.written b.notes r1)) (CallBudget k)
  script_cut k p =
      let es : List Entry = p.played.entries in
      let all : b.run.entries ≡ es = all_of es p.played.grew.grew in
      let cut = at_limit (HasCallsLeftInLine script.drain) (fault.CallBudget k) es (outside_in a) (outside_in b) (λ e. cc (e)) p.played.stopped in
      record { ran = script_front (stop.CallBudget k) p; cause = rw all cut.0; wrote = rw all cut.1 }

  script_spent : (p : IsScriptStopped (script_inputs count script blobs) r1 a b stop.TaskBudget)
      → IsDoneUpTo count (ByScript script blobs) (outcome b.run.entries (Some b.run.engine) (outside_of f0 a.written a.notes r0) (outside_of f1 b.written b.notes r1)) (TaskBudget script.drain)
  script_spent p =
      let es : List Entry = p.played.entries in
      let all : b.run.entries ≡ es = all_of es p.played.grew.grew in
      let cut = at_limit (HasCallsLeftInLine script.drain) fault.TaskBudget es (outside_in a) (outside_in b) (λ e. cc (e)) p.played.stopped in
      record { ran = script_front stop.TaskBudget p; cause = (refl, rw all cut.0); wrote = rw all cut.1 }

  pub script_worked : (result : Result Bool End) → IsScriptShowResult (script_inputs count script blobs) r1 a b result
      → IsTaskDone count request (ByScript script blobs) (outcome b.run.entries (Some b.run.engine) (outside_of f0 a.written a.notes r0) (outside_of f1 b.written b.notes r1)) result
  script_worked (Ok broken) p = record { ran = script_whole p.1; broken_is = p.0 }
  script_worked (Err Memory) p = inr (script_short stop.Memory memory_wanting p)
  script_worked (Err Write) p = script_short stop.Write sink_wanting p
  script_worked (Err (CallBudget k)) p = script_cut k p
  script_worked (Err (TaskBudget limit)) p =
      subst (λ (x : ℕ). IsDoneUpTo count (ByScript script blobs) (outcome b.run.entries (Some b.run.engine) (outside_of f0 a.written a.notes r0) (outside_of f1 b.written b.notes r1)) (TaskBudget x)) (sym p.0) (script_spent p.1)
  script_worked (Err Words) p = absurd p
  script_worked (Err (NoFile name)) p = absurd p
  script_worked (Err (Read name)) p = absurd p
  script_worked (Err (Script fault)) p = absurd p

script_goes : (files : Table) (name : List ℕ) (script : CallScript) (blobs : List (List ℕ)) → script_of_file files name ≡ Ok script → blobs_bytes files script.blobs ≡ Ok blobs
    → script_task files name ≡ Ok (ByScript script blobs)
script_goes files name script blobs e q = rw (e, q) refl

pub script_works : (table : Option Table) (f0 f1 : ℕ) (name : List ℕ) (script : CallScript) (blobs : List (List ℕ)) (a b : RunState) (count : ℕ) (r0 r1 : List (List Rule))
    (result : Result Bool End) → IsReadOf (Ok script) → length blobs ≡ length script.blobs
    → IfSome table (λ files. script_of_file files name ≡ Ok script) → IfSome table (λ files. blobs_bytes files script.blobs ≡ Ok blobs)
    → Stands a.run.engine (opening_of (ByScript script blobs)) → a.run.entries ≡ []
    → IsScriptShowResult (script_inputs count script blobs) r1 a b result
    → HasRequestOfCommand table name (Some Play) (λ request. IsRequestDone count request (outcome b.run.entries (Some b.run.engine) (outside_of f0 a.written a.notes r0) (outside_of f1 b.written b.notes r1)) result)
script_works None f0 f1 name script blobs a b count r0 r1 result read len is are stands fresh p =
    let request : Request = record { files = λ x. None; names = []; task = Ok (ByScript script blobs) } in
    (request, (read, len), script_worked count request script blobs a b f0 f1 r0 r1 stands fresh result p)
script_works (Some files) f0 f1 name script blobs a b count r0 r1 result read len is are stands fresh p =
    let request : Request = script_request files name in (
      request,
      refl,
      works_on count request (ByScript script blobs) (outcome b.run.entries (Some b.run.engine) (outside_of f0 a.written a.notes r0) (outside_of f1 b.written b.notes r1)) result
          (script_goes files name script blobs is are) (script_worked count request script blobs a b f0 f1 r0 r1 stands fresh result p),
    )
