-- A script with one step more, where nobody listens.
use Rattle.std.proofs.Common.{◌≡◌, ◌∙◌, ℕ, suc, List, [], ◌∷◌, ◌++◌, length, sym, ap, subst, append_assoc}
use Rattle.std.specs.Prelude.{All, None, Ok, Option}
use Rattle.script_run.specs.declared.stop.Stop.{Stop}
use Rattle.std.proofs.lemmas.List.{append-nil}
use Rattle.std.proofs.lemmas.Grind.{flat_map-append}
use Rattle.mse_calls.specs.declared.entry.Entry.{Entry}
use Rattle.mse_calls.specs.declared.rules.Rule.{Rule}
use Rattle.call_script.specs.declared.script.Script.{Script as CallScript}
use Rattle.call_script.specs.declared.script.StepLine.{StepLine}
use Rattle.run_steps.specs.Ways.{Way}
use Rattle.mse_engine.specs.State.{State}
use Rattle.mse_engine.specs.Run.{after_entries}
use Rattle.mse_engine.proofs.Transitions.{after_entries-append}
use Rattle.script_run.specs.Lines.{limits}
use Rattle.script_run.specs.Text.{lines_of, lines_of_entry}
use Rattle.cut_law.specs.Plays.{after_line, line_entries, play_entries}
use Rattle.cut_law.proofs.Singles.{some-play}
use Rattle.mse_commands.specs.Played.{Part, listeners_from}
use Rattle.mse_commands.specs.declared.ending.Status.TheVariants as status
use Rattle.mse_commands.specs.Program.{Output, by_rules, opening_play, output_behind, output_of_request, output_of_script, output_of_task, output_then, program_of, script_played}
use Rattle.mse_commands.specs.Works.{script_closing}
use Rattle.mse_outside.specs.Outside.{Table}
use Rattle.mse_commands.specs.Requests.{ByScript, opening_of, request_in}
use Rattle.mse_commands.proofs.Drains.{whole_part}
use Rattle.mse_commands.proofs.Journals.{one_play}
use Rattle.live_session.specs.Steps.{step_lines}
use Rattle.live_session.specs.Sessions.{IsInside, lines_played_of, with_step}
use Rattle.live_session.proofs.MoreBytes.{play_same, play_state_same}
use Rattle.live_session.proofs.Silence.{AreSilent, silently, without_rules}

-- ---- the play of a script

abbrev opening : CallScript → List (List ℕ) → State
opening script blobs = opening_of (ByScript script blobs)

abbrev journal : CallScript → List (List ℕ) → List Entry
journal script blobs = play_entries blobs 0 (opening script blobs) script.steps

-- where no listener ever answers
is_played_by : (ways : List Way) (script : CallScript) (blobs : List (List ℕ)) → AreSilent (listeners_from 0 script.rules ways)
    → (rest : ℕ) × (script_played ways script blobs ≡ whole_part blobs (opening_play ways script blobs) rest (journal script blobs))
unfolding script_played
is_played_by ways script blobs s =
    let p = some-play blobs (limits script.drain 0) 0 (opening script blobs) script.steps in
    one_play script.steps blobs (limits script.drain 0) 0 (opening_play ways script blobs) (journal script blobs) p.whole p.replays (silently (journal script blobs) (listeners_from 0 script.rules ways) p.silent s)

is_played : (script : CallScript) (blobs : List (List ℕ)) → (rest : ℕ) × (script_played [] script blobs ≡ whole_part blobs (opening_play [] script blobs) rest (journal script blobs))
is_played script blobs = is_played_by [] script blobs tt

pub entries_are : (script : CallScript) (blobs : List (List ℕ)) → (script_played [] script blobs).entries ≡ journal script blobs
entries_are script blobs = ap (λ (part : Part). part.entries) (is_played script blobs).1

pub state_is : (script : CallScript) (blobs : List (List ℕ)) → (script_played [] script blobs).now.state ≡ after_entries blobs (opening script blobs) (journal script blobs)
state_is script blobs = ap (λ (part : Part). part.now.state) (is_played script blobs).1

pub goes_through : (script : CallScript) (blobs : List (List ℕ)) → (script_played [] script blobs).stop ≡ None
goes_through script blobs = ap (λ (part : Part). part.stop) (is_played script blobs).1

-- ---- one step more

state_then : (lines : List StepLine) (blobs : List (List ℕ)) (n : ℕ) (st : State) (line : StepLine)
    → after_entries blobs st (play_entries blobs n st (lines ++ line ∷ [])) ≡ after_line blobs (after_entries blobs st (play_entries blobs n st lines)) line
state_then [] blobs n st line = ap (λ (es : List Entry). after_entries blobs st es) (append-nil (line_entries blobs st line))
state_then (first ∷ lines) blobs n st line =
    let now : State = after_line blobs st first in
    after_entries-append blobs st (line_entries blobs st first) (play_entries blobs (suc n) now (lines ++ line ∷ []))
    ∙ state_then lines blobs (suc n) now line
    ∙ ap (λ (s : State). after_line blobs s line) (sym (after_entries-append blobs st (line_entries blobs st first) (play_entries blobs (suc n) now lines)))

lines_then : (lines : List StepLine) (blobs : List (List ℕ)) (n : ℕ) (st : State) (line : StepLine)
    → lines_of (play_entries blobs n st (lines ++ line ∷ [])) ≡ lines_of (play_entries blobs n st lines) ++ step_lines blobs (after_entries blobs st (play_entries blobs n st lines)) line
lines_then [] blobs n st line = ap lines_of (append-nil (line_entries blobs st line))
lines_then (first ∷ lines) blobs n st line =
    let now : State = after_line blobs st first in
    let part : List Entry = line_entries blobs st first in
    let rest : List Entry = play_entries blobs (suc n) now lines in
    flat_map-append lines_of_entry part (play_entries blobs (suc n) now (lines ++ line ∷ []))
    ∙ ap (λ (xs : List (List ℕ)). lines_of part ++ xs) (lines_then lines blobs (suc n) now line)
    ∙ sym (append_assoc (lines_of part) (lines_of rest) (step_lines blobs (after_entries blobs now rest) line))
    ∙ ap (λ (xs : List (List ℕ)). xs ++ step_lines blobs (after_entries blobs now rest) line) (sym (flat_map-append lines_of_entry part rest))
    ∙ ap (λ (s : State). lines_of (part ++ rest) ++ step_lines blobs s line) (sym (after_entries-append blobs st part rest))

pub more_lines : (script : CallScript) (blobs : List (List ℕ)) (line : StepLine)
    → lines_played_of (with_step line script) blobs ≡ lines_played_of script blobs ++ step_lines blobs (script_played [] script blobs).now.state line
more_lines script blobs line =
    ap lines_of (entries_are (with_step line script) blobs)
    ∙ lines_then script.steps blobs 0 (opening script blobs) line
    ∙ ap (λ (es : List Entry). lines_of es ++ step_lines blobs (after_entries blobs (opening script blobs) (journal script blobs)) line) (sym (entries_are script blobs))
    ∙ ap (λ (s : State). lines_played_of script blobs ++ step_lines blobs s line) (sym (state_is script blobs))

pub more_state : (script : CallScript) (blobs : List (List ℕ)) (line : StepLine) → (script_played [] (with_step line script) blobs).now.state ≡ after_line blobs (script_played [] script blobs).now.state line
more_state script blobs line =
    state_is (with_step line script) blobs
    ∙ state_then script.steps blobs 0 (opening script blobs) line
    ∙ ap (λ (s : State). after_line blobs s line) (sym (state_is script blobs))

-- ---- bytes that are handed over later

pub later_lines : (script : CallScript) (blobs more : List (List ℕ)) → All (IsInside (length blobs)) script.steps → lines_played_of script (blobs ++ more) ≡ lines_played_of script blobs
later_lines script blobs more all =
    ap lines_of (entries_are script (blobs ++ more) ∙ play_same script.steps blobs more 0 (opening script blobs) all ∙ sym (entries_are script blobs))

pub later_state : (script : CallScript) (blobs more : List (List ℕ)) → All (IsInside (length blobs)) script.steps → (script_played [] script (blobs ++ more)).now.state ≡ (script_played [] script blobs).now.state
later_state script blobs more all =
    state_is script (blobs ++ more) ∙ play_state_same script.steps blobs more 0 (opening script blobs) all ∙ sym (state_is script blobs)

-- ---- the program

abbrev closed : CallScript → List (List ℕ) → Output
closed script blobs = record { status = status.Ok; lines = lines_played_of script blobs ++ script_closing (script_played [] script blobs).now.state }

task_output : (script : CallScript) (blobs : List (List ℕ)) → output_of_task [] (ByScript script blobs) ≡ closed script blobs
task_output script blobs =
    ap (λ (stop : Option Stop). output_then (lines_played_of script blobs) (output_behind script blobs (script_played [] script blobs).now.state stop)) (goes_through script blobs)

pub program_output : (files : Table) (words : List (List ℕ)) (script : CallScript) (blobs : List (List ℕ)) → (request_in files words).task ≡ Ok (ByScript script blobs) → program_of [] files words ≡ closed script blobs
unfolding program_of
program_output files words script blobs is = ap (output_of_request []) is ∙ task_output script blobs

-- listeners without rules are as none
pub unheard : (n : ℕ) (files : Table) (words : List (List ℕ)) (script : CallScript) (blobs : List (List ℕ)) → (request_in files words).task ≡ Ok (ByScript script blobs) → script.rules ≡ []
    → program_of (by_rules n) files words ≡ program_of [] files words
unfolding program_of
unheard n files words script blobs is none =
    let silent : AreSilent (listeners_from 0 script.rules (by_rules n)) = subst (λ (rules : List Rule). AreSilent (listeners_from 0 rules (by_rules n))) (sym none) (without_rules n 0) in
    let same = is_played_by (by_rules n) script blobs silent in
    let mine = is_played script blobs in
    ap (output_of_request (by_rules n)) is
    ∙ ap (λ (part : Part). output_of_script script blobs part) same.1
    ∙ ap (λ (part : Part). output_of_script script blobs part) (sym mine.1)
    ∙ sym (ap (output_of_request []) is)
