-- The lines of a script.
use Rattle.std.proofs.Common.{◌≡◌, ◌≤◌, ◌+◌, ℕ, List, [], ◌∷◌, ◌++◌, length, refl, ◌∙◌, ap, append_assoc, arith, inl, inr, drop}
use Rattle.std.specs.Prelude.{None, Bool, true, false, Result, Ok, Err, OnErr}
use Rattle.std.proofs.Math.Seq.{drop-append_seam}
use Rattle.mse_calls.specs.declared.answers.Answer.{Answer}
use Rattle.mse_calls.specs.declared.calls.Call.{Call}
use Rattle.mse_calls.specs.declared.entry.Entry.{Entry}
use Rattle.mse_calls.specs.declared.entry.Entry.TheVariants as entry
use Rattle.mse_outside.specs.Outside.{SinkView}
use Rattle.run_steps.specs.declared.note.Note.{Note}
use Rattle.call_script.specs.declared.script.StepLine.{StepLine}
use Rattle.call_script.specs.declared.script.StepLine.TheVariants as step
use Rattle.mse_engine.specs.State.{State}
use Rattle.mse_engine.specs.Standing.{IsStanding, KeptEngine, Stands}
use Rattle.mse_engine.specs.Work.{after_element_turn, after_work}
use Rattle.mse_engine.specs.Sound.{IsSoundEngine}
use Rattle.mse_engine.specs.Transitions.{IsTransition}
use Rattle.mse_engine.proofs.Transitions.{goes_one, goes_then}
use Rattle.script_run.specs.declared.stop.Halt.{Halt}
use Rattle.script_run.specs.declared.stop.Stop.{Stop}
use Rattle.script_run.specs.declared.stop.Stop.TheVariants.{Memory}
use Rattle.script_run.specs.Follows.{IsNumberedLineBegun, IsNumberedLineDone}
use Rattle.script_run.specs.Lines.{IsLineFront, IsLineEntries, Limits, play_inputs}
use Rattle.listeners.specs.Views.{RunView}
use Rattle.script_run.specs.RunParts.{line_part, numbered_line_part}
use Rattle.script_run.specs.DrainSteps.{element_step, work_step}
use Rattle.script_run.specs.PlayedParts.{IsCallHalted, IsCallMade, IsPlayed, IsPlayedUpTo, IsPlayedBy, IsPlayedInLine, IsPlayedInLineBy, IsPlayedInLineUpTo, IsOwnStep, IsOwnStepIf, part_front}
use Rattle.script_run.specs.RunStates.{outside_view, printed_run, run_at}
use Rattle.script_run.specs.Text.{lines_of}
use Rattle.script_run.specs.NoteHistory.{IsAllHeard}
use Rattle.script_run.specs.Turns.{AreCallsInPlace, HasCallsLeft, HasCallsLeftInLine, calls_in, steps_in}
use Rattle.script_run.specs.Writes.{IsWritten, IsFrontWritten}
use Rattle.script_run.proofs.CallsInRow.{silent_in_place, step_in_place}
use Rattle.script_run.proofs.RunSteps.{done_one}
use Rattle.script_run.proofs.JournalNotes.{heard_silence}
use Rattle.script_run.proofs.PutLines.{wrote_none}
use Rattle.script_run.proofs.CutDispatches.{left_in_line, no_step_in_line}
use Rattle.script_run.proofs.PartsInRow.{IsWanting, halt_none, last_alone, memory_wanting, played_none, ran_none, stopped_then}
use Rattle.script_run.proofs.DrainParts.{turn_ran, work_ran}

-- ---- a call

call_does : (blobs : List (List ℕ)) (call : Call) (answer : Answer) (a b : KeptEngine) (st : State) → Stands a st → IsTransition blobs a b (entry.Script call answer ∷ [])
    → IsLineEntries blobs st (step.Call call) (entry.Script call answer ∷ [])
call_does blobs call answer a b st h goes = ap (λ (x : Answer). entry.Script call x ∷ []) (goes.replays st h).0

pub called_ran : (blobs : List (List ℕ)) (call : Call) (a b : RunView) (t0 t1 : SinkView) (n : List (List Note)) → IsCallMade blobs call (printed_run a t0) (printed_run b t1)
    → IsPlayedInLine blobs (λ st part. IsLineEntries blobs st (step.Call call) part) (run_at a t0 n) (run_at b t1 n)
called_ran blobs call a b t0 t1 n p =
    let left : b.left ≡ a.left = p.stepped.left in
    record {
      played = record {
        entries = entry.Script call p.answer ∷ [];
        grew = record { grew = p.stepped.grew; goes = p.stepped.goes; holds = λ st h. call_does blobs call p.answer a.engine b.engine st h p.stepped.goes };
        calls = silent_in_place (length n) (entry.Script call p.answer ∷ []) refl;
        wrote = p.wrote;
        heard = heard_silence (entry.Script call p.answer ∷ []) n (λ w. refl);
      };
      left = omega (arith, left);
    }

pub call_halted : (blobs : List (List ℕ)) (call : Call) (stop : Stop) (a b : RunView) (t0 t1 : SinkView) (n : List (List Note)) → IsWanting stop → IsCallHalted blobs call (printed_run a t0) (printed_run b t1)
    → IsPlayedInLineUpTo blobs (λ st part. IsLineFront blobs st (step.Call call) part) stop (run_at a t0 n) (run_at b t1 n)
call_halted blobs call stop a b t0 t1 n wanting (inl same) =
    let run : b ≡ a = same.0 in
    let text : t1 ≡ t0 = same.1 in
    rw (run, text) (halt_none blobs (λ st part. IsLineFront blobs st (step.Call call) part) stop (run_at a t0 n) wanting (λ st h. inl refl))
call_halted blobs call stop a b t0 t1 n wanting (inr p) =
    let left : b.left ≡ a.left = p.stepped.left in
    record {
      played = record {
        entries = entry.Script call p.answer ∷ [];
        grew = record { grew = p.stepped.grew; goes = p.stepped.goes; holds = λ st h. inr (call_does blobs call p.answer a.engine b.engine st h p.stepped.goes) };
        calls = silent_in_place (length n) (entry.Script call p.answer ∷ []) refl;
        stopped = record {
          fault = None;
          heard = heard_silence (entry.Script call p.answer ∷ []) n (λ w. refl);
          wrote = wanting (entry.Script call p.answer ∷ []) t0 t1 (last_alone (entry.Script call p.answer ∷ []) t0 t1 refl p.wrote);
        };
      };
      left = omega (arith, left);
    }

-- ---- a step of work, and a turn

pub work_line_ran : (blobs : List (List ℕ)) (k : ℕ) (worked : Bool) (a b : RunView) (t : SinkView) (n : List (List Note)) → IsOwnStepIf blobs (work_step k) a b worked
    → IsPlayedInLine blobs (λ st part. IsLineEntries blobs st (step.Work k) part) (run_at a t n) (run_at b t n)
work_line_ran blobs k true a b t n p = work_ran blobs (λ st part. IsLineEntries blobs st (step.Work k) part) k a b t n (λ st h. done_one (entry.Work k) (after_work k st) st (p.goes.replays st h).0) p
work_line_ran blobs k false a b t n p = rw p.0 (ran_none blobs (λ st part. IsLineEntries blobs st (step.Work k) part) (run_at a t n) (λ st h. rw (p.1 st h) refl))

pub turn_line_ran : (blobs : List (List ℕ)) (turned : Bool) (a b : RunView) (t : SinkView) (n : List (List Note)) → IsOwnStepIf blobs element_step a b turned
    → IsPlayedInLine blobs (λ st part. IsLineEntries blobs st step.Element part) (run_at a t n) (run_at b t n)
turn_line_ran blobs true a b t n p = turn_ran blobs (λ st part. IsLineEntries blobs st step.Element part) a b t n (λ st h. done_one entry.Element (after_element_turn st) st (p.goes.replays st h).0) p
turn_line_ran blobs false a b t n p = rw p.0 (ran_none blobs (λ st part. IsLineEntries blobs st step.Element part) (run_at a t n) (λ st h. rw (p.1 st h) refl))

-- ---- a line with its number

-- the number comes before the line
abbrev pub opened : ℕ → ℕ → RunView → RunView
opened n limit a = record { engine = a.engine; entries = a.entries ++ entry.Step n ∷ []; left = limit }

step_goes : (blobs : List (List ℕ)) (k : KeptEngine) (n : ℕ) → IsSoundEngine k → IsTransition blobs k k (entry.Step n ∷ [])
step_goes blobs k n sound = goes_one blobs k k (entry.Step n) (λ st h. tt) (λ st h. h) sound

step_then : (blobs : List (List ℕ)) (n : ℕ) (a b : KeptEngine) (es : List Entry) → IsSoundEngine a → IsTransition blobs a b es → IsTransition blobs a b (entry.Step n ∷ es)
step_then blobs n a b es sound p = goes_then blobs a a b (entry.Step n ∷ []) es (step_goes blobs a n sound) p

within_limit : (limit left calls : ℕ) → limit ≡ left + calls → calls ≤ limit
within_limit limit left calls e = omega (arith, e)

heard_step : (n : ℕ) (es : List Entry) (n0 n1 : List (List Note)) → IsAllHeard es n0 n1 → IsAllHeard (entry.Step n ∷ es) n0 n1
heard_step n es n0 n1 p = record { count = p.count; notes = p.notes }

pub line_played : (blobs : List (List ℕ)) (limits : Limits) (n : ℕ) (line : StepLine) (a b : RunView) (t0 t1 : SinkView) (n0 n1 : List (List Note))
    → IsSoundEngine a.engine → limits.count ≡ length n0 → IsPlayedInLine blobs (λ st part. IsLineEntries blobs st line part) (run_at (opened n limits.limit a) t0 n0) (run_at b t1 n1)
    → IsPlayed blobs (IsNumberedLineDone (play_inputs blobs limits) n line) (run_at a t0 n0) (run_at b t1 n1)
line_played blobs limits n line a b t0 t1 n0 n1 sound count p =
    let few : calls_in p.played.entries ≤ limits.limit = within_limit limits.limit b.left (calls_in p.played.entries) p.left in
    let calls : AreCallsInPlace limits.count p.played.entries = rw count p.played.calls in
    record {
      entries = entry.Step n ∷ p.played.entries;
      grew = record {
        grew = p.played.grew.grew ∙ append_assoc a.entries (entry.Step n ∷ []) p.played.entries;
        goes = step_then blobs n a.engine b.engine p.played.entries sound p.played.grew.goes;
        holds = λ st h. (p.played.entries, refl, record { does = p.played.grew.holds st h; within = record { few = few; calls = calls } });
      };
      calls = step_in_place (length n0) n p.played.entries p.played.calls;
      wrote = p.played.wrote;
      heard = heard_step n p.played.entries n0 n1 p.played.heard;
    }

pub line_stopped : (blobs : List (List ℕ)) (limits : Limits) (n : ℕ) (line : StepLine) (stop : Stop) (a b : RunView) (t0 t1 : SinkView) (n0 n1 : List (List Note))
    → IsStanding a.engine → IsSoundEngine a.engine → limits.count ≡ length n0
    → IsPlayedInLineUpTo blobs (λ st part. IsLineFront blobs st line part) stop (run_at (opened n limits.limit a) t0 n0) (run_at b t1 n1)
    → IsPlayedUpTo blobs (part_front (IsNumberedLineBegun (play_inputs blobs limits) n line) (HasCallsLeftInLine limits.limit)) stop (run_at a t0 n0) (run_at b t1 n1)
line_stopped blobs limits n line stop a b t0 t1 n0 n1 standing sound count p =
    let es : List Entry = p.played.entries in
    let few : calls_in es ≤ limits.limit = within_limit limits.limit b.left (calls_in es) p.left in
    let calls : AreCallsInPlace limits.count es = rw count p.played.calls in
    let one : steps_in es ≡ 0 = no_step_in_line blobs standing.state line es (p.played.grew.holds standing.state standing.stands) in
    record {
      entries = entry.Step n ∷ es;
      grew = record {
        grew = p.played.grew.grew ∙ append_assoc a.entries (entry.Step n ∷ []) es;
        goes = step_then blobs n a.engine b.engine es sound p.played.grew.goes;
        holds = λ st h. inr (es, refl, record { begins = p.played.grew.holds st h; within = record { few = few; calls = calls } });
      };
      calls = step_in_place (length n0) n es p.played.calls;
      stopped = stopped_then (HasCallsLeft limits.limit) (HasCallsLeftInLine limits.limit) stop (length n0) (entry.Step n ∷ []) es
          (outside_view t0 n0) (outside_view t0 n0) (outside_view t1 n1) (left_in_line limits.limit n es one)
          (wrote_none t0) (heard_silence (entry.Step n ∷ []) n0 (λ w. refl)) p.played.calls p.played.stopped;
    }

-- a line that did not begin
pub line_unopened : (blobs : List (List ℕ)) (limits : Limits) (n : ℕ) (line : StepLine) (a : RunView) (t : SinkView) (notes : List (List Note))
    → IsPlayedUpTo blobs (part_front (IsNumberedLineBegun (play_inputs blobs limits) n line) (HasCallsLeftInLine limits.limit)) Memory (run_at a t notes) (run_at a t notes)
line_unopened blobs limits n line a t notes = played_none blobs (HasCallsLeftInLine limits.limit) (IsNumberedLineBegun (play_inputs blobs limits) n line) Memory (run_at a t notes) memory_wanting (λ st h. inl refl)

-- ---- a call as it is made

line_of_call : (from : ℕ) (a b : RunView) (x : Entry) → from ≡ length a.entries → b.entries ≡ a.entries ++ x ∷ [] → lines_of (drop from b.entries) ≡ lines_of (x ∷ [])
line_of_call from a b x e grew = rw (e, grew, drop-append_seam a.entries (x ∷ [])) refl

pub called_of : (blobs : List (List ℕ)) (call : Call) (from : ℕ) (a b : RunView) (t0 t1 : SinkView) → from ≡ length a.entries
    → ((answer : Answer) × IsOwnStep blobs (entry.Script call answer ∷ []) a b) → IsWritten (lines_of (drop from b.entries)) t0 t1 → IsCallMade blobs call (printed_run a t0) (printed_run b t1)
called_of blobs call from a b t0 t1 e p wrote = record { answer = p.0; stepped = p.1; wrote = rw (line_of_call from a b (entry.Script call p.0) e p.1.grew) at wrote }

pub called_half_of : (blobs : List (List ℕ)) (call : Call) (from : ℕ) (a b : RunView) (t0 t1 : SinkView) → from ≡ length a.entries
    → ((answer : Answer) × IsOwnStep blobs (entry.Script call answer ∷ []) a b) → IsFrontWritten (lines_of (drop from b.entries)) t0 t1 → IsCallHalted blobs call (printed_run a t0) (printed_run b t1)
called_half_of blobs call from a b t0 t1 e p wrote = inr (record { answer = p.0; stepped = p.1; wrote = rw (line_of_call from a b (entry.Script call p.0) e p.1.grew) at wrote })

-- ---- a line with its number, by how it ended

pub line_by : (blobs : List (List ℕ)) (limits : Limits) (n : ℕ) (line : StepLine) (a b : RunView) (t0 t1 : SinkView) (n0 n1 : List (List Note)) (result : Result (Unit {0}) Stop)
    → IsStanding a.engine → IsSoundEngine a.engine → limits.count ≡ length n0
    → IsPlayedInLineBy (line_part blobs line) (run_at (opened n limits.limit a) t0 n0) (run_at b t1 n1) result
    → IsPlayedBy (HasCallsLeftInLine limits.limit) (numbered_line_part (play_inputs blobs limits) n line) (run_at a t0 n0) (run_at b t1 n1) result
line_by blobs limits n line a b t0 t1 n0 n1 (Ok u) standing sound count p = line_played blobs limits n line a b t0 t1 n0 n1 sound count p
line_by blobs limits n line a b t0 t1 n0 n1 (Err stop) standing sound count p = line_stopped blobs limits n line stop a b t0 t1 n0 n1 standing sound count p

pub halted_call : (blobs : List (List ℕ)) (call : Call) (from : ℕ) (a b : RunView) (t0 t1 : SinkView) (result : Result (Unit {0}) Halt) → from ≡ length a.entries
    → ((answer : Answer) × IsOwnStep blobs (entry.Script call answer ∷ []) a b) → OnErr result (IsFrontWritten (lines_of (drop from b.entries)) t0 t1)
    → OnErr result (IsCallHalted blobs call (printed_run a t0) (printed_run b t1))
halted_call blobs call from a b t0 t1 (Ok u) e p wrote = tt
halted_call blobs call from a b t0 t1 (Err halt) e p wrote = called_half_of blobs call from a b t0 t1 e p wrote
