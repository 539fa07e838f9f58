-- A run ends as the program does.
use Rattle.std.proofs.Common.{◌≡◌, ◌≢◌, ℕ, Bool, true, false, List, [], ◌∷◌, ◌++◌, length, refl, ap, sym, subst, ◌∙◌, arith, inl, inr, append_assoc}
use Rattle.std.specs.Prelude.{Option, Some, None, is_some, is_err, Result, Ok, ◌⊎◌}
use Rattle.std.proofs.lemmas.List.{append-nil}
use Rattle.std.proofs.lemmas.Grind.{flat_map-append}
use Rattle.mse_outside.specs.Outside.{HasRisen, SinkView, Table}
use Rattle.mse_calls.specs.declared.entry.Entry.{Entry}
use Rattle.mse_calls.specs.declared.entry.Entry.TheVariants.{Fired}
use Rattle.call_script.specs.declared.script.Script.{Script as CallScript}
use Rattle.run_steps.specs.Ways.{Way}
use Rattle.listeners.specs.declared.event_dispatch.DispatchFault.{DispatchFault}
use Rattle.listeners.specs.declared.event_dispatch.DispatchFault.TheVariants as fault
use Rattle.mse_engine.specs.State.{State}
use Rattle.mse_engine.specs.Run.{IsReplay}
use Rattle.remux.specs.Pieces.{pieces_of_file}
use Rattle.script_run.specs.declared.stop.Stop.{Stop}
use Rattle.script_run.specs.declared.stop.Stop.TheVariants as stop
use Rattle.script_run.specs.Follows.{AreLinesBegun}
use Rattle.script_run.specs.Lines.{limits, play_inputs}
use Rattle.script_run.specs.NoteHistory.{IsAllHeard}
use Rattle.script_run.specs.PlayedParts.{IsDispatchCut, IsHeardUpTo, IsWrittenToLastStep}
use Rattle.script_run.specs.Text.{lines_of, lines_of_entry}
use Rattle.script_run.specs.Turns.{HasCallsLeftInLine}
use Rattle.script_run.proofs.ListenerTurns.{AreInTurn}
use Rattle.script_run.specs.Writes.{IsWritten, IsFrontWritten}
use Rattle.script_run.proofs.PutLines.{behind_front, front_first, front_none}
use Rattle.script_run.proofs.StoppedParts.{to_last_step}
use Rattle.mse_commands.specs.declared.ending.End.{End}
use Rattle.mse_commands.specs.declared.ending.End.TheVariants.{Memory, Write, Words, NoFile, Read, Script, CallBudget, TaskBudget}
use Rattle.mse_commands.specs.declared.ending.Status.{Status}
use Rattle.mse_commands.specs.declared.ending.Status.TheVariants as status
use Rattle.mse_commands.specs.Endings.{end_of_stop}
use Rattle.mse_commands.specs.Outcomes.{AreRulesOfNumbers, AreRulesOfTask, CutShort, Ending, HasCause, IsCutShort, IsDoneBy, IsAllPrinted, IsEndOfRun, IsEnding, IsFrontPrinted, IsHeard, IsHeardBy, IsPrintedBy, IsCauseOfRefusal, IsRun, IsStatusOf, OverLimit, Refused, RunOutcome, Unbegun, Whole, last_lines, lines_ahead}
use Rattle.mse_commands.specs.Requests.{Request, Task, ByScript, ByFile, ByRemux, opening_of, request_in}
use Rattle.mse_commands.specs.Shown.{IsAllOf, IsFrontOf, closing_lines, last_state, shown_lines, text_of}
use Rattle.mse_commands.specs.Ends.{AreByWays, IsJournalBy, IsOutputBy, IsRunByWays}
use Rattle.mse_commands.specs.Played.{Part, listeners_from}
use Rattle.mse_commands.specs.Program.{Output, opening_play, output_behind, output_of_end, output_of_request, output_of_script, output_of_task, output_then, script_played, program_of, status_by}
use Rattle.mse_commands.proofs.ByWays.{by_length, from_length, notes_by}
use Rattle.mse_commands.proofs.CutJournals.{begun_turns, cut_play, rest_in}
use Rattle.mse_commands.proofs.FrontParts.{begun_of_part}
use Rattle.mse_commands.proofs.CutNotes.{AreFresh, AreNotesBy, all_served, cut_served, end_of, events_until}
use Rattle.mse_commands.proofs.CutDispatches.{IsPartTo}
use Rattle.mse_commands.proofs.Drains.{whole_part}
use Rattle.mse_commands.proofs.Journals.{lines_turns, one_play}
use Rattle.mse_commands.proofs.ListenerTurns.{IsFront}
use Rattle.mse_commands.proofs.WholeFiles.{whole_file}

-- ---- the journal of a script

-- what a run tells of its listeners
record IsTold (ways : List Way) (left : RunOutcome) : Type 0 where
  fresh : AreFresh left.before.notes
  by_ways : AreByWays ways left.now.rules left.now.notes

-- of one that was played to its end
whole_script : (ways : List Way) (script : CallScript) (blobs : List (List ℕ)) (left : RunOutcome) → IsTold ways left → IsReplay blobs (opening_of (ByScript script blobs)) left.entries → IsAllOf (length ways) (ByScript script blobs) left.entries → IsHeard (ByScript script blobs) left
    → (rest : ℕ) × (script_played ways script blobs ≡ whole_part blobs (opening_play ways script blobs) rest left.entries)
unfolding script_played
whole_script ways script blobs left t replays all heard =
    let hs = listeners_from 0 script.rules ways in
    let st : State = opening_of (ByScript script blobs) in
    let many : length hs ≡ length ways = from_length 0 script.rules ways in
    let by : AreNotesBy hs left.now.notes = notes_by ways script.rules left.now.rules left.now.notes t.by_ways heard.0 in
    let count : length left.before.notes ≡ length hs = omega (arith, many, by_length ways left.now.rules left.now.notes t.by_ways, heard.1.count) in
    let turns : AreInTurn (length hs) None left.entries = subst (λ n. AreInTurn n None left.entries) (sym many) (lines_turns (play_inputs blobs (limits script.drain (length ways))) 0 st script.steps left.entries all) in
    one_play script.steps blobs (limits script.drain (length ways)) 0 (opening_play ways script blobs) left.entries all replays (all_served hs left.entries left.before.notes left.now.notes by t.fresh count turns heard.1)

some_entries : (before : List Entry) (x : Entry) (more : List Entry) → before ++ x ∷ more ≡ [] → ⊥
some_entries [] x more e = absurd (cc)
some_entries (b ∷ before) x more e = absurd (cc)

-- a front of a script was run
record IsRunUpTo (count : ℕ) (script : CallScript) (blobs : List (List ℕ)) (left : RunOutcome) : Type 0 where
  replays : IsReplay blobs (opening_of (ByScript script blobs)) left.entries
  front : IsFrontOf count (ByScript script blobs) left.entries
  rules : AreRulesOfTask (ByScript script blobs) left

-- of one in which a dispatch ended at one listener
cut_script : (f : DispatchFault) (ways : List Way) (script : CallScript) (blobs : List (List ℕ)) (left : RunOutcome) (c : IsDispatchCut (HasCallsLeftInLine script.drain) f left.entries left.before.notes left.now.notes) → IsTold ways left
    → IsRunUpTo (length ways) script blobs left → IsPartTo (end_of f) (script_played ways script blobs) blobs (opening_of (ByScript script blobs)) c.left left.entries
unfolding script_played
cut_script f ways script blobs left c t w =
    let hs = listeners_from 0 script.rules ways in
    let st : State = opening_of (ByScript script blobs) in
    let own : AreRulesOfNumbers script.rules left.now.rules = elim w.rules [ inl e ↦ absurd (some_entries c.before (Fired c.event) c.calls (sym c.entries_are ∙ e)) | inr r ↦ r ] in
    let front : AreLinesBegun (play_inputs blobs (limits script.drain (length ways))) 0 st script.steps left.entries = begun_of_part script.steps blobs (limits script.drain (length ways)) 0 st left.entries w.front.0 w.front.1 in
    let many : length hs ≡ length ways = from_length 0 script.rules ways in
    let by : AreNotesBy hs left.now.notes = notes_by ways script.rules left.now.rules left.now.notes t.by_ways own in
    let count : length left.before.notes ≡ length hs = omega (arith, many, by_length ways left.now.rules left.now.notes t.by_ways, c.heard.count, c.count) in
    let turns : AreInTurn (length hs) None left.entries = subst (λ n. AreInTurn n None left.entries) (sym many) (begun_turns (play_inputs blobs (limits script.drain (length ways))) 0 st script.steps left.entries front) in
    let served = cut_served (HasCallsLeftInLine script.drain) f hs left.entries left.before.notes left.now.notes c by t.fresh count turns in
    cut_play script.steps blobs (limits script.drain (length ways)) 0 (opening_play ways script blobs) left.entries c.left (end_of f) front w.replays served (rest_in (end_of f) script.drain left.entries c.left c.left_is)

-- of one of which all events were answered
begun_script : (ways : List Way) (script : CallScript) (blobs : List (List ℕ)) (left : RunOutcome) → IsTold ways left → AreRulesOfNumbers script.rules left.now.rules → IsAllHeard left.entries left.before.notes left.now.notes
    → IsRunUpTo (length ways) script blobs left → IsFront left.entries (script_played ways script blobs).entries
unfolding script_played
begun_script ways script blobs left t own heard w =
    let hs = listeners_from 0 script.rules ways in
    let st : State = opening_of (ByScript script blobs) in
    let front : AreLinesBegun (play_inputs blobs (limits script.drain (length ways))) 0 st script.steps left.entries = begun_of_part script.steps blobs (limits script.drain (length ways)) 0 st left.entries w.front.0 w.front.1 in
    let many : length hs ≡ length ways = from_length 0 script.rules ways in
    let by : AreNotesBy hs left.now.notes = notes_by ways script.rules left.now.rules left.now.notes t.by_ways own in
    let count : length left.before.notes ≡ length hs = omega (arith, many, by_length ways left.now.rules left.now.notes t.by_ways, heard.count) in
    let turns : AreInTurn (length hs) None left.entries = subst (λ n. AreInTurn n None left.entries) (sym many) (begun_turns (play_inputs blobs (limits script.drain (length ways))) 0 st script.steps left.entries front) in
    let served = events_until left.entries hs 0 (all_served hs left.entries left.before.notes left.now.notes by t.fresh count turns heard) in
    cut_play script.steps blobs (limits script.drain (length ways)) 0 (opening_play ways script blobs) left.entries 0 None front w.replays served tt

-- all entries are in front of themselves
all_front : (all es : List Entry) → all ≡ es → IsFront es all
all_front all es e = ([], e ∙ sym (append-nil es))

-- of one that was cut short, by the fault with which the last dispatch ended, if it did
heard_front : (o : Option DispatchFault) (ways : List Way) (script : CallScript) (blobs : List (List ℕ)) (left : RunOutcome) → IsTold ways left → AreRulesOfNumbers script.rules left.now.rules → IsRunUpTo (length ways) script blobs left
    → IsHeardUpTo (HasCallsLeftInLine script.drain) o left.entries left.before.notes left.now.notes → IsFront left.entries (script_played ways script blobs).entries
heard_front None ways script blobs left t own w h = begun_script ways script blobs left t own h w
heard_front (Some fault.OutOfMemory) ways script blobs left t own w h = cut_script fault.OutOfMemory ways script blobs left h t w
heard_front (Some (fault.CallBudget k)) ways script blobs left t own w h = all_front (script_played ways script blobs).entries left.entries (cut_script (fault.CallBudget k) ways script blobs left h t w).0
heard_front (Some fault.TaskBudget) ways script blobs left t own w h = all_front (script_played ways script blobs).entries left.entries (cut_script fault.TaskBudget ways script blobs left h t w).0

-- of one that ended for want of memory
front_script : (ways : List Way) (script : CallScript) (blobs : List (List ℕ)) (left : RunOutcome) → IsTold ways left → IsRunUpTo (length ways) script blobs left → IsCutShort (ByScript script blobs) stop.Memory left
    → IsFront left.entries (script_played ways script blobs).entries
front_script ways script blobs left t w came = elim w.rules [
  | inl none ↦ ((script_played ways script blobs).entries, ap (λ xs. xs ++ (script_played ways script blobs).entries) (sym none))
  | inr own ↦ heard_front came.fault ways script blobs left t own w came.heard
]

-- ---- what is written

front_behind : (xs more lines : List (List ℕ)) (old new : SinkView) → lines ≡ xs ++ more → IsFrontWritten xs old new → IsFrontWritten lines old new
front_behind xs more lines old new e w = subst (λ ys. IsFrontWritten ys old new) (sym e) (front_first xs more old new w)

nothing_written : (lines : List (List ℕ)) (old new : SinkView) → new ≡ old → IsFrontWritten lines old new
nothing_written lines old new e = subst (λ t. IsFrontWritten lines old t) (sym e) (front_none old lines)

-- ---- a script

abbrev script_lines : CallScript → List (List ℕ) → List Entry → List (List ℕ)
script_lines script blobs es = shown_lines (ByScript script blobs) es

-- a limit stopped it
stop_output : (s : Stop) (script : CallScript) (blobs : List (List ℕ)) (part : Part) (st : State) (rest : ℕ) (es : List Entry) → IsPartTo (Some s) part blobs st rest es
    → output_of_script script blobs part ≡ output_then (script_lines script blobs es) (output_of_end (end_of_stop script.drain s))
stop_output s script blobs part st rest es p =
    ap (λ xs. output_then (script_lines script blobs xs) (output_behind script blobs part.now.state part.stop)) p.0
    ∙ ap (λ x. output_then (script_lines script blobs es) (output_behind script blobs part.now.state x)) p.3

-- the lines of some entries in front are written first
front_output : (script : CallScript) (blobs : List (List ℕ)) (part : Part) (es : List Entry) → IsFront es part.entries → (more : List (List ℕ)) × ((output_of_script script blobs part).lines ≡ script_lines script blobs es ++ more)
front_output script blobs part es f =
    let last : List (List ℕ) = (output_behind script blobs part.now.state part.stop).lines in (
      script_lines script blobs f.0 ++ last,
      ap (λ xs. script_lines script blobs xs ++ last) f.1 ∙ ap (λ (ys : List (List ℕ)). ys ++ last) (flat_map-append lines_of_entry es f.0)
          ∙ append_assoc (script_lines script blobs es) (script_lines script blobs f.0) last,
    )

cause_output : (end : End) (ways : List Way) (script : CallScript) (blobs : List (List ℕ)) (left : RunOutcome) → IsTold ways left → IsRunUpTo (length ways) script blobs left → HasCause (ByScript script blobs) left end
    → output_of_script script blobs (script_played ways script blobs) ≡ output_then (script_lines script blobs left.entries) (output_of_end end)
cause_output (CallBudget k) ways script blobs left t w c =
    stop_output (stop.CallBudget k) script blobs (script_played ways script blobs) (opening_of (ByScript script blobs)) c.left left.entries (cut_script (fault.CallBudget k) ways script blobs left c t w)
cause_output (TaskBudget limit) ways script blobs left t w c =
    stop_output stop.TaskBudget script blobs (script_played ways script blobs) (opening_of (ByScript script blobs)) c.1.left left.entries (cut_script fault.TaskBudget ways script blobs left c.1 t w)
    ∙ ap (λ n. output_then (script_lines script blobs left.entries) (output_of_end (TaskBudget n))) (sym c.0)
cause_output Memory ways script blobs left t w c = absurd c
cause_output Write ways script blobs left t w c = absurd c
cause_output Words ways script blobs left t w c = absurd c
cause_output (NoFile name) ways script blobs left t w c = absurd c
cause_output (Read name) ways script blobs left t w c = absurd c
cause_output (Script x) ways script blobs left t w c = absurd c

text_output : (ways : List Way) (script : CallScript) (blobs : List (List ℕ)) (left : RunOutcome) → IsTold ways left → IsReplay blobs (opening_of (ByScript script blobs)) left.entries → IsAllOf (length ways) (ByScript script blobs) left.entries → IsHeard (ByScript script blobs) left
    → output_of_task ways (ByScript script blobs) ≡ record { status = status.Ok; lines = text_of (ByScript script blobs) left.entries }
text_output ways script blobs left t replays all heard = let p = whole_script ways script blobs left t replays all heard in ap (output_of_script script blobs) p.1

abbrev told : (ways : List Way) (left : RunOutcome) (s : Status) → IsRunByWays ways left s → IsTold ways left
told ways left s q = record { fresh = q.fresh; by_ways = q.by_ways }

-- ---- all of a task

not_true : (b : Bool) → ¬ (b ≡ true) → b ≡ false
not_true true n = absurd (n refl)
not_true false n = refl

done_status : (b : Bool) (s : Status) → ((s ≡ status.Ok) × ¬ (b ≡ true)) ⊎ ((s ≡ status.Media) × (b ≡ true)) → s ≡ status_by b
done_status b s (inl p) = p.0 ∙ ap status_by (sym (not_true b p.1))
done_status b s (inr p) = p.0 ∙ ap status_by (sym p.1)

-- what a task that was run to its end says of the output
record IsWholeOutput (output : Output) (task : Task) (left : RunOutcome) : Type 0 where
  status_is : (s : Status) → IsDoneBy task left.entries s → s ≡ output.status
  lines_are : output.lines ≡ text_of task left.entries

whole_output : (task : Task) (ways : List Way) (left : RunOutcome) → IsTold ways left → IsRun task left → IsAllOf (length ways) task left.entries → IsHeard task left → IsWholeOutput (output_of_task ways task) task left
whole_output (ByScript script blobs) ways left t ran all heard =
    let text = text_output ways script blobs left t ran.replays all heard in
    record {
      status_is = λ s p. elim p [ inl q ↦ q.0 ∙ sym (ap (λ (o : Output). o.status) text) | inr q ↦ absurd q.1 ];
      lines_are = ap (λ (o : Output). o.lines) text;
    }
whole_output (ByFile command bytes) ways left t ran all heard =
    let same = whole_file command bytes left.entries all in
    let broken : Bool = is_some (last_state (ByFile command bytes) left.entries).source.fault in
    record {
      status_is = λ s p. done_status broken s p ∙ ap (λ (st : State). status_by (is_some st.source.fault)) same;
      lines_are = ap (λ (st : State). closing_lines (ByFile command bytes) st) (sym same);
    }
whole_output (ByRemux bytes) ways left t ran all heard = record { status_is = λ s p. done_status (is_err (pieces_of_file bytes)) s p; lines_are = refl }

-- ---- by the status

-- all lines of an ending; of a front those that were written
abbrev all_lines : List Entry → Ending → List (List ℕ)
all_lines entries (CutShort task) = shown_lines task entries
all_lines entries ending = lines_ahead entries ending ++ last_lines entries ending

-- what is written of an output, by what a run came to
record IsWrittenOutput (output : Output) (ending : Ending) (left : RunOutcome) (s : Status) : Type 0 where
  front : s ≡ status.Memory → (rest : List (List ℕ)) × (output.lines ≡ all_lines left.entries ending ++ rest)
  all : IsStatusOf left.entries ending s → (s ≡ output.status) × (output.lines ≡ all_lines left.entries ending)

-- a step or less of the lines is wanting
step_written : (entries : List Entry) (old new : SinkView) → IsWrittenToLastStep entries old new → IsFrontWritten (lines_of entries) old new
step_written entries old new w =
    let both : lines_of entries ≡ lines_of w.before ++ lines_of w.last = ap lines_of w.entries_are ∙ flat_map-append lines_of_entry w.before w.last in
    subst (λ ys. IsFrontWritten ys old new) (sym both) (behind_front (lines_of w.before) (lines_of w.last) old new w.wrote)

lines_written : (task : Task) (left : RunOutcome) → IsCutShort task stop.Memory left → IsFrontWritten (shown_lines task left.entries) left.before.written left.now.written
lines_written (ByScript script blobs) left c =
    step_written left.entries left.before.written left.now.written (to_last_step stop.Memory c.fault left.entries left.before.written left.now.written (inl refl) c.wrote)
lines_written (ByFile command bytes) left c = nothing_written [] left.before.written left.now.written c.1
lines_written (ByRemux bytes) left c = nothing_written [] left.before.written left.now.written c.1

front_printed : (ending : Ending) (left : RunOutcome) → IsFrontPrinted stop.Memory ending left → IsFrontWritten (all_lines left.entries ending) left.before.written left.now.written
front_printed (Whole task) left p = behind_front (lines_ahead left.entries (Whole task)) (last_lines left.entries (Whole task)) left.before.written left.now.written p
front_printed (OverLimit task end) left p = behind_front (lines_ahead left.entries (OverLimit task end)) (last_lines left.entries (OverLimit task end)) left.before.written left.now.written p
front_printed (CutShort task) left p = lines_written task left p
front_printed (Refused end) left p = behind_front (lines_ahead left.entries (Refused end)) (last_lines left.entries (Refused end)) left.before.written left.now.written p
front_printed Unbegun left p = nothing_written [] left.before.written left.now.written p

-- what is printed of an ending that has a status
all_are : (ending : Ending) (left : RunOutcome) (s : Status) → IsStatusOf left.entries ending s → all_lines left.entries ending ≡ lines_ahead left.entries ending ++ last_lines left.entries ending
all_are (Whole task) left s p = refl
all_are (OverLimit task end) left s p = refl
all_are (CutShort task) left s p = absurd p
all_are (Refused end) left s p = refl
all_are Unbegun left s p = absurd p

all_written : (output : Output) (ending : Ending) (left : RunOutcome) (s : Status) → IsWrittenOutput output ending left s → IsAllPrinted ending s left → IsOutputBy output left.before.written left.now.written s
all_written output ending left s o p =
    let x = o.all p.status_is in
    inl (x.0, subst (λ ys. IsWritten ys left.before.written left.now.written) (sym (x.1 ∙ all_are ending left s p.status_is)) p.wrote)

printed_ends : (s : Status) (output : Output) (ending : Ending) (left : RunOutcome) → s ≢ status.Write → IsWrittenOutput output ending left s → IsPrintedBy s ending left → IsOutputBy output left.before.written left.now.written s
printed_ends status.Write output ending left n o p = absurd (n refl)
printed_ends status.Memory output ending left n o p =
    let f = o.front refl in
    inr (refl, front_behind (all_lines left.entries ending) f.0 output.lines left.before.written left.now.written f.1 (front_printed ending left p))
printed_ends status.Ok output ending left n o p = all_written output ending left status.Ok o p
printed_ends status.Media output ending left n o p = all_written output ending left status.Media o p
printed_ends status.Read output ending left n o p = all_written output ending left status.Read o p
printed_ends status.CallBudget output ending left n o p = all_written output ending left status.CallBudget o p
printed_ends status.TaskBudget output ending left n o p = all_written output ending left status.TaskBudget o p
printed_ends status.Words output ending left n o p = all_written output ending left status.Words o p
printed_ends status.Script output ending left n o p = all_written output ending left status.Script o p
printed_ends status.NoFile output ending left n o p = all_written output ending left status.NoFile o p

-- ---- by what a run came to

-- just that output
just_written : (output : Output) (ending : Ending) (left : RunOutcome) (s : Status) → output.lines ≡ all_lines left.entries ending → (IsStatusOf left.entries ending s → s ≡ output.status) → IsWrittenOutput output ending left s
just_written output ending left s lines status = record { front = λ e. ([], lines ∙ sym (append-nil (all_lines left.entries ending))); all = λ p. (status p, lines) }

-- where memory was wanting, as far as it was heard
cut_output : (task : Task) (ways : List Way) (left : RunOutcome) → IsTold ways left → IsRun task left → IsFrontOf (length ways) task left.entries → AreRulesOfTask task left → IsCutShort task stop.Memory left
    → (rest : List (List ℕ)) × ((output_of_task ways task).lines ≡ shown_lines task left.entries ++ rest)
cut_output (ByScript script blobs) ways left t ran front rules came =
    let up : IsRunUpTo (length ways) script blobs left = record { replays = ran.replays; front = front; rules = rules } in
    front_output script blobs (script_played ways script blobs) left.entries (front_script ways script blobs left t up came)
cut_output (ByFile command bytes) ways left t ran front rules came = ((output_of_task ways (ByFile command bytes)).lines, refl)
cut_output (ByRemux bytes) ways left t ran front rules came = ((output_of_task ways (ByRemux bytes)).lines, refl)

limit_output : (task : Task) (end : End) (ways : List Way) (left : RunOutcome) → IsTold ways left → IsRun task left → IsFrontOf (length ways) task left.entries → HasCause task left end → AreRulesOfTask task left
    → output_of_task ways task ≡ output_then (shown_lines task left.entries) (output_of_end end)
limit_output (ByScript script blobs) end ways left t ran front cause rules = cause_output end ways script blobs left t (record { replays = ran.replays; front = front; rules = rules }) cause
limit_output (ByFile command bytes) end ways left t ran front cause rules = absurd cause
limit_output (ByRemux bytes) end ways left t ran front cause rules = absurd cause

refused_output : (end : End) (request : Request) (ways : List Way) (left : RunOutcome) → ¬ HasRisen left.before.faults left.now.faults → IsCauseOfRefusal request left end → output_of_request ways request.task ≡ output_of_end end
refused_output (Read name) request ways left loads p = absurd (loads p.0)
refused_output Memory request ways left loads p = ap (output_of_request ways) p
refused_output Write request ways left loads p = ap (output_of_request ways) p
refused_output Words request ways left loads p = ap (output_of_request ways) p
refused_output (NoFile name) request ways left loads p = ap (output_of_request ways) p
refused_output (Script x) request ways left loads p = ap (output_of_request ways) p
refused_output (CallBudget k) request ways left loads p = ap (output_of_request ways) p
refused_output (TaskBudget limit) request ways left loads p = ap (output_of_request ways) p

ending_written : (ending : Ending) (ways : List Way) (request : Request) (left : RunOutcome) (s : Status) → IsRunByWays ways left s → IsEnding (length ways) request left ending → IsHeardBy ending left
    → IsPrintedBy s ending left → IsWrittenOutput (output_of_request ways request.task) ending left s
ending_written (Whole task) ways request left s q f heard printed =
    let whole = whole_output task ways left (told ways left s q) f.1 f.2 heard in
    let same : output_of_request ways request.task ≡ output_of_task ways task = ap (output_of_request ways) f.0 in
    just_written _ (Whole task) left s (ap (λ (o : Output). o.lines) same ∙ whole.lines_are) (λ p. whole.status_is s p ∙ sym (ap (λ (o : Output). o.status) same))
ending_written (OverLimit task end) ways request left s q f heard printed =
    let same : output_of_request ways request.task ≡ output_then (shown_lines task left.entries) (output_of_end end) =
    ap (output_of_request ways) f.0 ∙ limit_output task end ways left (told ways left s q) f.1 f.2 f.3 heard in
    just_written _ (OverLimit task end) left s (ap (λ (o : Output). o.lines) same) (λ p. p ∙ sym (ap (λ (o : Output). o.status) same))
ending_written (CutShort task) ways request left s q f heard printed = record {
  front = λ e.
      let came : IsCutShort task stop.Memory left = subst (λ (x : Status). IsPrintedBy x (CutShort task) left) e printed in
      let cut = cut_output task ways left (told ways left s q) f.1 f.2 heard came in
      (cut.0, ap (λ (x : Result Task End). (output_of_request ways x).lines) f.0 ∙ cut.1);
  all = λ p. absurd p;
}
ending_written (Refused end) ways request left s q f heard printed =
    let same = refused_output end request ways left q.loads f.1 in
    just_written _ (Refused end) left s (ap (λ (o : Output). o.lines) same) (λ p. p ∙ sym (ap (λ (o : Output). o.status) same))
ending_written Unbegun ways request left s q f heard printed = record { front = λ e. ((output_of_request ways request.task).lines, refl); all = λ p. absurd p }

pub run_ends : (ways : List Way) (files : Table) (words : List (List ℕ)) (left : RunOutcome) (s : Status) → IsRunByWays ways left s → IsEndOfRun (length ways) (request_in files words) left s
    → IsOutputBy (program_of ways files words) left.before.written left.now.written s
unfolding program_of
run_ends ways files words left s q w =
    printed_ends s (output_of_request ways (request_in files words).task) w.ending left q.puts (ending_written w.ending ways (request_in files words) left s q w.follows w.heard w.printed) w.printed

-- ---- the journal of a run

-- the status at which a front was run
front_status : (s : Status) (ending : Ending) (left : RunOutcome) → s ≢ status.Write → (IsStatusOf left.entries ending s → ⊥) → IsPrintedBy s ending left → s ≡ status.Memory
front_status status.Write ending left n never p = absurd (n refl)
front_status status.Memory ending left n never p = refl
front_status status.Ok ending left n never p = absurd (never p.status_is)
front_status status.Media ending left n never p = absurd (never p.status_is)
front_status status.Read ending left n never p = absurd (never p.status_is)
front_status status.CallBudget ending left n never p = absurd (never p.status_is)
front_status status.TaskBudget ending left n never p = absurd (never p.status_is)
front_status status.Words ending left n never p = absurd (never p.status_is)
front_status status.Script ending left n never p = absurd (never p.status_is)
front_status status.NoFile ending left n never p = absurd (never p.status_is)

limit_entries : (end : End) (ways : List Way) (script : CallScript) (blobs : List (List ℕ)) (left : RunOutcome) → IsTold ways left → IsRunUpTo (length ways) script blobs left → HasCause (ByScript script blobs) left end
    → (script_played ways script blobs).entries ≡ left.entries
limit_entries (CallBudget k) ways script blobs left t w c = (cut_script (fault.CallBudget k) ways script blobs left c t w).0
limit_entries (TaskBudget limit) ways script blobs left t w c = (cut_script fault.TaskBudget ways script blobs left c.1 t w).0
limit_entries Memory ways script blobs left t w c = absurd c
limit_entries Write ways script blobs left t w c = absurd c
limit_entries Words ways script blobs left t w c = absurd c
limit_entries (NoFile name) ways script blobs left t w c = absurd c
limit_entries (Read name) ways script blobs left t w c = absurd c
limit_entries (Script x) ways script blobs left t w c = absurd c

no_refusal : (end : End) (request : Request) (task : Task) (left : RunOutcome) → request.task ≡ Ok task → ¬ HasRisen left.before.faults left.now.faults → IsCauseOfRefusal request left end → ⊥
no_refusal (Read name) request task left is loads p = loads p.0
no_refusal Memory request task left is loads p = cc (sym p ∙ is)
no_refusal Write request task left is loads p = cc (sym p ∙ is)
no_refusal Words request task left is loads p = cc (sym p ∙ is)
no_refusal (NoFile name) request task left is loads p = cc (sym p ∙ is)
no_refusal (Script x) request task left is loads p = cc (sym p ∙ is)
no_refusal (CallBudget k) request task left is loads p = cc (sym p ∙ is)
no_refusal (TaskBudget limit) request task left is loads p = cc (sym p ∙ is)

-- what is known of a task is known of the script that was asked for
same_task : (request : Request) (task other : Task) → request.task ≡ Ok task → request.task ≡ Ok other → task ≡ other
same_task request task other p q = cc (sym p ∙ q)

ending_journal : (ending : Ending) (ways : List Way) (request : Request) (script : CallScript) (blobs : List (List ℕ)) (left : RunOutcome) (s : Status) → request.task ≡ Ok (ByScript script blobs) → IsRunByWays ways left s
    → IsEnding (length ways) request left ending → IsHeardBy ending left → IsPrintedBy s ending left → IsJournalBy (script_played ways script blobs).entries left.entries s
ending_journal (Whole task) ways request script blobs left s is q f heard p =
    let same = same_task request task (ByScript script blobs) f.0 is in
    let ran : IsRun (ByScript script blobs) left = subst (λ (x : Task). IsRun x left) same f.1 in
    let all : IsAllOf (length ways) (ByScript script blobs) left.entries = subst (λ (x : Task). IsAllOf (length ways) x left.entries) same f.2 in
    let each : IsHeard (ByScript script blobs) left = subst (λ (x : Task). IsHeard x left) same heard in
    inl (sym (ap (λ (x : Part). x.entries) (whole_script ways script blobs left (told ways left s q) ran.replays all each).1))
ending_journal (OverLimit task end) ways request script blobs left s is q f heard p =
    let same = same_task request task (ByScript script blobs) f.0 is in
    let ran : IsRun (ByScript script blobs) left = subst (λ (x : Task). IsRun x left) same f.1 in
    let front : IsFrontOf (length ways) (ByScript script blobs) left.entries = subst (λ (x : Task). IsFrontOf (length ways) x left.entries) same f.2 in
    let cause : HasCause (ByScript script blobs) left end = subst (λ (x : Task). HasCause x left end) same f.3 in
    let rules : AreRulesOfTask (ByScript script blobs) left = subst (λ (x : Task). AreRulesOfTask x left) same heard in
    inl (sym (limit_entries end ways script blobs left (told ways left s q) (record { replays = ran.replays; front = front; rules = rules }) cause))
ending_journal (CutShort task) ways request script blobs left s is q f heard p =
    let same = same_task request task (ByScript script blobs) f.0 is in
    let memory : s ≡ status.Memory = front_status s (CutShort task) left q.puts (λ x. x) p in
    let ran : IsRun (ByScript script blobs) left = subst (λ (x : Task). IsRun x left) same f.1 in
    let front : IsFrontOf (length ways) (ByScript script blobs) left.entries = subst (λ (x : Task). IsFrontOf (length ways) x left.entries) same f.2 in
    let rules : AreRulesOfTask (ByScript script blobs) left = subst (λ (x : Task). AreRulesOfTask x left) same heard in
    let came : IsCutShort task stop.Memory left = subst (λ (x : Status). IsPrintedBy x (CutShort task) left) memory p in
    let script_came : IsCutShort (ByScript script blobs) stop.Memory left = subst (λ (x : Task). IsCutShort x stop.Memory left) same came in
    inr (memory, front_script ways script blobs left (told ways left s q) (record { replays = ran.replays; front = front; rules = rules }) script_came)
ending_journal (Refused end) ways request script blobs left s is q f heard p = absurd (no_refusal end request (ByScript script blobs) left is q.loads f.1)
ending_journal Unbegun ways request script blobs left s is q f heard p =
    inr (front_status s Unbegun left q.puts (λ x. x) p, ((script_played ways script blobs).entries, ap (λ xs. xs ++ (script_played ways script blobs).entries) (sym f.entries)))

pub run_journal : (ways : List Way) (files : Table) (words : List (List ℕ)) (script : CallScript) (blobs : List (List ℕ)) (left : RunOutcome) (s : Status) → (request_in files words).task ≡ Ok (ByScript script blobs) → IsRunByWays ways left s
    → IsEndOfRun (length ways) (request_in files words) left s → IsJournalBy (script_played ways script blobs).entries left.entries s
run_journal ways files words script blobs left s is q w = ending_journal w.ending ways (request_in files words) script blobs left s is q w.follows w.heard w.printed
