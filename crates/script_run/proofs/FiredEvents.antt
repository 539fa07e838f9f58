-- An event that is fired and told to the listeners.
use Rattle.std.proofs.Common.{◌≡◌, ◌≤◌, ◌+◌, ℕ, suc, List, [], ◌∷◌, ◌++◌, length, refl, sym, ◌∙◌, ap, append_assoc, arith, subst, inr, drop}
use Rattle.std.specs.Prelude.{Option, Some, None, Result, Ok, Err, option_map, slice_get}
use Rattle.std.proofs.lemmas.List.{append-nil}
use Rattle.std.proofs.Math.Seq.{drop-append_seam}
use Rattle.mse_calls.specs.declared.events.Event.{Event}
use Rattle.mse_calls.specs.declared.entry.Entry.{Entry}
use Rattle.mse_calls.specs.declared.entry.Entry.TheVariants.{Step, Script, Listener, Fired, Work, Element}
use Rattle.run_steps.specs.declared.note.Note.{Note}
use Rattle.listeners.specs.declared.event_dispatch.DispatchFault.{DispatchFault}
use Rattle.listeners.specs.declared.event_dispatch.DispatchFault.TheVariants as fault
use Rattle.listeners.specs.Notes.{call_count, event_notes}
use Rattle.listeners.specs.Dispatch.{AreCallsInTurn, IsDispatch, notes_at}
use Rattle.listeners.specs.Views.{RunView, dispatch_view}
use Rattle.mse_outside.specs.Outside.{SinkView}
use Rattle.mse_engine.specs.State.{State}
use Rattle.mse_engine.specs.Run.{entry_meaning, fire_entries}
use Rattle.mse_engine.specs.Standing.{KeptEngine, Stands}
use Rattle.mse_engine.specs.Work.{fire_result, without_first}
use Rattle.mse_engine.specs.Transitions.{IsTransition}
use Rattle.mse_engine.proofs.Transitions.{goes_then}
use Rattle.call_script.specs.declared.script.StepLine.TheVariants.{Fire}
use Rattle.script_run.specs.declared.stop.Halt.{Halt}
use Rattle.script_run.specs.declared.stop.Halt.TheVariants as halt
use Rattle.script_run.specs.declared.stop.Stop.{Stop}
use Rattle.script_run.specs.declared.stop.Stop.TheVariants.{Memory, Write}
use Rattle.script_run.specs.DrainSteps.{AreInDrainOrder, HasNoEvent}
use Rattle.script_run.specs.Lines.{IsLineFront, IsLineEntries, own_of}
use Rattle.script_run.specs.RunParts.{EntryRelation}
use Rattle.script_run.specs.PlayedParts.{IsDispatchCut, HasGrown, IsHeardUpTo, IsPlayedInLine, IsPlayedInLineUpTo, IsOwnStep, IsWrittenToLastStep, IsWrittenUpTo, stop_of, stop_of_halt}
use Rattle.script_run.specs.RunStates.{run_at}
use Rattle.script_run.specs.NoteHistory.{IsAllHeard, note_history, entries_until_event}
use Rattle.script_run.specs.Text.{lines_of}
use Rattle.script_run.specs.Turns.{AreAnswersToEvent, AreCallsBehindEach, AreCallsInPlace, HasCallsLeft, calls_in, calls_in_front}
use Rattle.script_run.specs.Writes.{IsWritten, IsFrontWritten, IsShortOf}
use Rattle.script_run.proofs.RunSteps.{fired_one}
use Rattle.script_run.proofs.JournalNotes.{heard_none}
use Rattle.script_run.proofs.PutLines.{front_none}
use Rattle.script_run.proofs.CutDispatches.{cut_of}
use Rattle.script_run.proofs.PartsInRow.{last_alone}

-- entries that are calls of listeners
calls_own : (low high : ℕ) (es : List Entry) → AreCallsInTurn low high es → own_of es ≡ []
calls_own low high [] h = refl
calls_own low high (Listener v c a ∷ es) h = calls_own v high es h.2
calls_own low high (Step n ∷ es) h = absurd h
calls_own low high (Script c a ∷ es) h = absurd h
calls_own low high (Fired e ∷ es) h = absurd h
calls_own low high (Work k ∷ es) h = absurd h
calls_own low high (Element ∷ es) h = absurd h

calls_until : (low high : ℕ) (es : List Entry) → AreCallsInTurn low high es → entries_until_event es ≡ es
calls_until low high [] h = refl
calls_until low high (Listener v c a ∷ es) h = ap (λ (x : List Entry). Listener v c a ∷ x) (calls_until v high es h.2)
calls_until low high (Step n ∷ es) h = absurd h
calls_until low high (Script c a ∷ es) h = absurd h
calls_until low high (Fired e ∷ es) h = absurd h
calls_until low high (Work k ∷ es) h = absurd h
calls_until low high (Element ∷ es) h = absurd h

calls_story : (low high : ℕ) (es : List Entry) (w : ℕ) → AreCallsInTurn low high es → note_history w es ≡ []
calls_story low high [] w h = refl
calls_story low high (Listener v c a ∷ es) w h = calls_story v high es w h.2
calls_story low high (Step n ∷ es) w h = absurd h
calls_story low high (Script c a ∷ es) w h = absurd h
calls_story low high (Fired e ∷ es) w h = absurd h
calls_story low high (Work k ∷ es) w h = absurd h
calls_story low high (Element ∷ es) w h = absurd h

calls_number : (low high : ℕ) (es : List Entry) → AreCallsInTurn low high es → calls_in es ≡ length es
calls_number low high [] h = refl
calls_number low high (Listener v c a ∷ es) h = ap suc (calls_number v high es h.2)
calls_number low high (Step n ∷ es) h = absurd h
calls_number low high (Script c a ∷ es) h = absurd h
calls_number low high (Fired e ∷ es) h = absurd h
calls_number low high (Work k ∷ es) h = absurd h
calls_number low high (Element ∷ es) h = absurd h

-- all of them stand in front
calls_front : (low high : ℕ) (es : List Entry) → AreCallsInTurn low high es → calls_in_front es ≡ es
calls_front low high [] h = refl
calls_front low high (Listener v c a ∷ es) h = ap (λ (x : List Entry). Listener v c a ∷ x) (calls_front v high es h.2)
calls_front low high (Step n ∷ es) h = absurd h
calls_front low high (Script c a ∷ es) h = absurd h
calls_front low high (Fired e ∷ es) h = absurd h
calls_front low high (Work k ∷ es) h = absurd h
calls_front low high (Element ∷ es) h = absurd h

-- and nothing stands behind them
calls_behind : (low high count : ℕ) (es : List Entry) → AreCallsInTurn low high es → AreCallsBehindEach count es
calls_behind low high count [] h = tt
calls_behind low high count (Listener v c a ∷ es) h = (tt, calls_behind v high count es h.2)
calls_behind low high count (Step n ∷ es) h = absurd h
calls_behind low high count (Script c a ∷ es) h = absurd h
calls_behind low high count (Fired e ∷ es) h = absurd h
calls_behind low high count (Work k ∷ es) h = absurd h
calls_behind low high count (Element ∷ es) h = absurd h

event_answered : (event : Event) (count : ℕ) (es : List Entry) → AreCallsInTurn 0 count es → ((w : ℕ) → call_count w es ≤ 1000) → AreCallsInPlace count (Fired event ∷ es)
event_answered event count es order few = record {
  first = refl;
  behind = (subst (λ (x : List Entry). AreAnswersToEvent count x) (sym (calls_front 0 count es order)) (record { order = order; few = few }), calls_behind 0 count count es order);
}

-- what comes of an event and of the calls behind it
fired_grew : (event : Event) (j0 j1 j2 es : List Entry) → j1 ≡ j0 ++ Fired event ∷ [] → j2 ≡ j1 ++ es → j2 ≡ j0 ++ Fired event ∷ es
fired_grew event j0 j1 j2 es p q = q ∙ ap (λ (x : List Entry). x ++ es) p ∙ append_assoc j0 (Fired event ∷ []) es

fired_does : (blobs : List (List ℕ)) (event : Event) (high : ℕ) (st : State) (a b : KeptEngine) (es : List Entry) → Stands a st → IsTransition blobs a b (Fired event ∷ [])
    → AreCallsInTurn 0 high es → own_of (Fired event ∷ es) ≡ fire_entries (fire_result st)
fired_does blobs event high st a b es s goes calls =
    ap (λ (x : List Entry). Fired event ∷ x) (calls_own 0 high es calls) ∙ fired_one (fire_result st) event st (goes.replays st s).0

fired_entries : (blobs : List (List ℕ)) (does : EntryRelation) (event : Event) (a b c : RunView) (n0 n1 : List (List Note)) (result : Result (Unit {0}) DispatchFault)
    → ((st : State) (part : List Entry) → own_of part ≡ fire_entries (fire_result st) → does st part)
    → IsOwnStep blobs (Fired event ∷ []) a b → (d : IsDispatch blobs event (dispatch_view b n0) (dispatch_view c n1) result)
    → HasGrown blobs does a c (Fired event ∷ d.entries)
fired_entries blobs does event a b c n0 n1 result is step d = record {
  grew = fired_grew event a.entries b.entries c.entries d.entries step.grew d.calls.journal;
  goes = goes_then blobs a.engine b.engine c.engine (Fired event ∷ []) d.entries step.goes d.calls.engine;
  holds = λ st h. is st (Fired event ∷ d.entries) (fired_does blobs event (length n0) st a.engine b.engine d.entries h step.goes d.in_turn);
}

fired_left : (blobs : List (List ℕ)) (event : Event) (a b c : RunView) (n0 n1 : List (List Note)) (result : Result (Unit {0}) DispatchFault)
    → IsOwnStep blobs (Fired event ∷ []) a b → (d : IsDispatch blobs event (dispatch_view b n0) (dispatch_view c n1) result)
    → a.left ≡ c.left + calls_in (Fired event ∷ d.entries)
fired_left blobs event a b c n0 n1 result step d =
    let number : calls_in d.entries ≡ length d.entries = calls_number 0 (length n0) d.entries d.in_turn in
    let made : b.left ≡ c.left + length d.entries = d.calls.left in
    omega (arith, number, step.left, made)

fired_calls : (blobs : List (List ℕ)) (event : Event) (b c : RunView) (n0 n1 : List (List Note)) (result : Result (Unit {0}) DispatchFault)
    → (d : IsDispatch blobs event (dispatch_view b n0) (dispatch_view c n1) result) → AreCallsInPlace (length n0) (Fired event ∷ d.entries)
fired_calls blobs event b c n0 n1 result d = event_answered event (length n0) d.entries d.in_turn d.few

fired_lines : (event : Event) (j0 j1 j2 es : List Entry) → j1 ≡ j0 ++ Fired event ∷ [] → j2 ≡ j1 ++ es → drop (length j0) j2 ≡ Fired event ∷ es
fired_lines event j0 j1 j2 es p q = rw (fired_grew event j0 j1 j2 es p q) (drop-append_seam j0 (Fired event ∷ es))

-- each listener was served, and heard
heard_at : (blobs : List (List ℕ)) (event : Event) (b c : RunView) (n0 n1 : List (List Note))
    → (d : IsDispatch blobs event (dispatch_view b n0) (dispatch_view c n1) (Ok tt)) → length n1 ≡ length n0
    → IsAllHeard (Fired event ∷ d.entries) n0 n1
heard_at blobs event b c n0 n1 d same =
    let until : entries_until_event d.entries ≡ d.entries = calls_until 0 (length n0) d.entries d.in_turn in
    record {
      count = same;
      notes = λ w lt. d.outcome w lt ∙ ap (λ (x : List Note). notes_at n0 w ++ x)
          (rw (until, calls_story 0 (length n0) d.entries w d.in_turn) (sym (append-nil (event_notes event w d.entries))));
    }

pub fired_ran : (blobs : List (List ℕ)) (event : Event) (a b c : RunView) (t0 t1 : SinkView) (n0 n1 : List (List Note))
    → IsOwnStep blobs (Fired event ∷ []) a b → IsDispatch blobs event (dispatch_view b n0) (dispatch_view c n1) (Ok tt) → length n1 ≡ length n0
    → IsWritten (lines_of (drop (length a.entries) c.entries)) t0 t1 → IsPlayedInLine blobs (λ st part. IsLineEntries blobs st Fire part) (run_at a t0 n0) (run_at c t1 n1)
fired_ran blobs event a b c t0 t1 n0 n1 step d same wrote =
    let lines : drop (length a.entries) c.entries ≡ Fired event ∷ d.entries = fired_lines event a.entries b.entries c.entries d.entries step.grew d.calls.journal in
    record {
      played = record {
        entries = Fired event ∷ d.entries;
        grew = fired_entries blobs (λ st part. IsLineEntries blobs st Fire part) event a b c n0 n1 (Ok tt) (λ st part h. h) step d;
        calls = fired_calls blobs event b c n0 n1 (Ok tt) d;
        wrote = rw lines at wrote;
        heard = heard_at blobs event b c n0 n1 d same;
      };
      left = fired_left blobs event a b c n0 n1 (Ok tt) step d;
    }

-- a dispatch that ended with a fault
cut_at : (blobs : List (List ℕ)) (event : Event) (a b c : RunView) (n0 n1 : List (List Note)) (f : DispatchFault) → IsOwnStep blobs (Fired event ∷ []) a b
    → (d : IsDispatch blobs event (dispatch_view b n0) (dispatch_view c n1) (Err f)) → length n1 ≡ length n0
    → IsDispatchCut (HasCallsLeft a.left) f (Fired event ∷ d.entries) n0 n1
cut_at blobs event a b c n0 n1 f step d same =
    cut_of (HasCallsLeft a.left) f event d.entries c.left n0 n1 d.in_turn (fired_left blobs event a b c n0 n1 (Err f) step d) same (heard_none n0) d.outcome

-- the fault with which it ended, if it did
abbrev fault_of : Result (Unit {0}) DispatchFault → Option DispatchFault
fault_of (Ok u) = None
fault_of (Err f) = Some f

heard_to : (blobs : List (List ℕ)) (event : Event) (a b c : RunView) (n0 n1 : List (List Note)) (result : Result (Unit {0}) DispatchFault)
    → IsOwnStep blobs (Fired event ∷ []) a b → (d : IsDispatch blobs event (dispatch_view b n0) (dispatch_view c n1) result) → length n1 ≡ length n0
    → IsHeardUpTo (HasCallsLeft a.left) (fault_of result) (Fired event ∷ d.entries) n0 n1
heard_to blobs event a b c n0 n1 (Ok u) step d same = heard_at blobs event b c n0 n1 d same
heard_to blobs event a b c n0 n1 (Err f) step d same = cut_at blobs event a b c n0 n1 f step d same

one_event : (event : Event) (high : ℕ) (es : List Entry) → AreCallsInTurn 0 high es → own_of (Fired event ∷ es) ≡ Fired event ∷ []
one_event event high es calls = ap (λ (x : List Entry). Fired event ∷ x) (calls_own 0 high es calls)

-- ---- it stopped behind the event

fired_up_to : (blobs : List (List ℕ)) (event : Event) (stop : Stop) (a b c : RunView) (t0 t1 : SinkView) (n0 n1 : List (List Note)) (result : Result (Unit {0}) DispatchFault)
    → IsOwnStep blobs (Fired event ∷ []) a b → (d : IsDispatch blobs event (dispatch_view b n0) (dispatch_view c n1) result) → length n1 ≡ length n0
    → IsWrittenUpTo stop (fault_of result) (Fired event ∷ d.entries) t0 t1 → IsPlayedInLineUpTo blobs (λ st part. IsLineFront blobs st Fire part) stop (run_at a t0 n0) (run_at c t1 n1)
fired_up_to blobs event stop a b c t0 t1 n0 n1 result step d same wrote = record {
  played = record {
    entries = Fired event ∷ d.entries;
    grew = fired_entries blobs (λ st part. IsLineFront blobs st Fire part) event a b c n0 n1 result (λ st part p. inr p) step d;
    calls = fired_calls blobs event b c n0 n1 result d;
    stopped = record { fault = fault_of result; heard = heard_to blobs event a b c n0 n1 result step d same; wrote = wrote };
  };
  left = fired_left blobs event a b c n0 n1 result step d;
}

-- a front of its lines was written
last_event : (blobs : List (List ℕ)) (event : Event) (a b c : RunView) (t0 t1 : SinkView) (n0 n1 : List (List Note)) (result : Result (Unit {0}) DispatchFault)
    → (d : IsDispatch blobs event (dispatch_view b n0) (dispatch_view c n1) result)
    → IsFrontWritten (lines_of (Fired event ∷ d.entries)) t0 t1 → IsWrittenToLastStep (Fired event ∷ d.entries) t0 t1
last_event blobs event a b c t0 t1 n0 n1 result d wrote = last_alone (Fired event ∷ d.entries) t0 t1 (one_event event (length n0) d.entries d.in_turn) wrote

short_of : (es : List Entry) (t0 t1 : SinkView) (f : Option DispatchFault) → IsWrittenToLastStep es t0 t1 → IsShortOf (lines_of es) t0 t1 → IsWrittenUpTo Memory f es t0 t1
short_of es t0 t1 None w s = w
short_of es t0 t1 (Some fault.OutOfMemory) w s = w
short_of es t0 t1 (Some (fault.CallBudget k)) w s = (w, s)
short_of es t0 t1 (Some fault.TaskBudget) w s = (w, s)

half_of : (es : List Entry) (t0 t1 : SinkView) (result : Result (Unit {0}) DispatchFault) → ¬ (result ≡ Err fault.OutOfMemory) → IsWrittenToLastStep es t0 t1 → IsWrittenUpTo Write (fault_of result) es t0 t1
half_of es t0 t1 (Ok u) not w = w
half_of es t0 t1 (Err fault.OutOfMemory) not w = absurd (not refl)
half_of es t0 t1 (Err (fault.CallBudget k)) not w = w
half_of es t0 t1 (Err fault.TaskBudget) not w = w

-- there was no memory for its lines
fired_short : (blobs : List (List ℕ)) (event : Event) (a b c : RunView) (t0 t1 : SinkView) (n0 n1 : List (List Note)) (result : Result (Unit {0}) DispatchFault)
    → IsOwnStep blobs (Fired event ∷ []) a b → IsDispatch blobs event (dispatch_view b n0) (dispatch_view c n1) result → length n1 ≡ length n0
    → IsFrontWritten (lines_of (drop (length a.entries) c.entries)) t0 t1 → IsShortOf (lines_of (drop (length a.entries) c.entries)) t0 t1
    → IsPlayedInLineUpTo blobs (λ st part. IsLineFront blobs st Fire part) Memory (run_at a t0 n0) (run_at c t1 n1)
fired_short blobs event a b c t0 t1 n0 n1 result step d same wrote short =
    let lines : drop (length a.entries) c.entries ≡ Fired event ∷ d.entries = fired_lines event a.entries b.entries c.entries d.entries step.grew d.calls.journal in
    fired_up_to blobs event Memory a b c t0 t1 n0 n1 result step d same
    (short_of (Fired event ∷ d.entries) t0 t1 (fault_of result) (last_event blobs event a b c t0 t1 n0 n1 result d (rw lines at wrote)) (rw lines at short))

-- the sink failed to take them
fired_half : (blobs : List (List ℕ)) (event : Event) (a b c : RunView) (t0 t1 : SinkView) (n0 n1 : List (List Note)) (result : Result (Unit {0}) DispatchFault)
    → ¬ (result ≡ Err fault.OutOfMemory) → IsOwnStep blobs (Fired event ∷ []) a b
    → IsDispatch blobs event (dispatch_view b n0) (dispatch_view c n1) result → length n1 ≡ length n0
    → IsFrontWritten (lines_of (drop (length a.entries) c.entries)) t0 t1 → IsPlayedInLineUpTo blobs (λ st part. IsLineFront blobs st Fire part) Write (run_at a t0 n0) (run_at c t1 n1)
fired_half blobs event a b c t0 t1 n0 n1 result not step d same wrote =
    let lines : drop (length a.entries) c.entries ≡ Fired event ∷ d.entries = fired_lines event a.entries b.entries c.entries d.entries step.grew d.calls.journal in
    fired_up_to blobs event Write a b c t0 t1 n0 n1 result step d same
    (half_of (Fired event ∷ d.entries) t0 t1 result not (last_event blobs event a b c t0 t1 n0 n1 result d (rw lines at wrote)))

-- a put of them halted
pub fired_halted : (blobs : List (List ℕ)) (event : Event) (h : Halt) (a b c : RunView) (t0 t1 : SinkView) (n0 n1 : List (List Note)) (result : Result (Unit {0}) DispatchFault)
    → ¬ (result ≡ Err fault.OutOfMemory) → IsOwnStep blobs (Fired event ∷ []) a b
    → IsDispatch blobs event (dispatch_view b n0) (dispatch_view c n1) result → length n1 ≡ length n0
    → IsFrontWritten (lines_of (drop (length a.entries) c.entries)) t0 t1 → (h ≡ halt.Memory → IsShortOf (lines_of (drop (length a.entries) c.entries)) t0 t1)
    → IsPlayedInLineUpTo blobs (λ st part. IsLineFront blobs st Fire part) (stop_of_halt h) (run_at a t0 n0) (run_at c t1 n1)
fired_halted blobs event halt.Memory a b c t0 t1 n0 n1 result not step d same wrote short = fired_short blobs event a b c t0 t1 n0 n1 result step d same wrote (short refl)
fired_halted blobs event halt.Write a b c t0 t1 n0 n1 result not step d same wrote short = fired_half blobs event a b c t0 t1 n0 n1 result not step d same wrote

-- memory was wanting in the dispatch, and none of its lines was written
pub fired_unheard : (blobs : List (List ℕ)) (event : Event) (a b c : RunView) (t : SinkView) (n0 n1 : List (List Note))
    → IsOwnStep blobs (Fired event ∷ []) a b → IsDispatch blobs event (dispatch_view b n0) (dispatch_view c n1) (Err fault.OutOfMemory)
    → length n1 ≡ length n0 → IsPlayedInLineUpTo blobs (λ st part. IsLineFront blobs st Fire part) Memory (run_at a t n0) (run_at c t n1)
fired_unheard blobs event a b c t n0 n1 step d same =
    fired_up_to blobs event Memory a b c t t n0 n1 (Err fault.OutOfMemory) step d same
    (last_event blobs event a b c t t n0 n1 (Err fault.OutOfMemory) d (front_none t (lines_of (Fired event ∷ d.entries))))

all_of : (f : DispatchFault) (es : List Entry) (t0 t1 : SinkView) → ¬ (f ≡ fault.OutOfMemory) → IsWritten (lines_of es) t0 t1 → IsWrittenUpTo (stop_of f) (Some f) es t0 t1
all_of fault.OutOfMemory es t0 t1 not wrote = absurd (not refl)
all_of (fault.CallBudget k) es t0 t1 not wrote = (refl, wrote)
all_of fault.TaskBudget es t0 t1 not wrote = (refl, wrote)

-- a limit ended the dispatch
pub fired_stopped : (blobs : List (List ℕ)) (event : Event) (f : DispatchFault) (a b c : RunView) (t0 t1 : SinkView) (n0 n1 : List (List Note))
    → ¬ (f ≡ fault.OutOfMemory) → IsOwnStep blobs (Fired event ∷ []) a b
    → IsDispatch blobs event (dispatch_view b n0) (dispatch_view c n1) (Err f) → length n1 ≡ length n0
    → IsWritten (lines_of (drop (length a.entries) c.entries)) t0 t1
    → IsPlayedInLineUpTo blobs (λ st part. IsLineFront blobs st Fire part) (stop_of f) (run_at a t0 n0) (run_at c t1 n1)
fired_stopped blobs event f a b c t0 t1 n0 n1 not step d same wrote =
    let lines : drop (length a.entries) c.entries ≡ Fired event ∷ d.entries = fired_lines event a.entries b.entries c.entries d.entries step.grew d.calls.journal in
    fired_up_to blobs event (stop_of f) a b c t0 t1 n0 n1 (Err f) step d same (all_of f (Fired event ∷ d.entries) t0 t1 not (rw lines at wrote))

-- where no listener called, the engine is as it was when the event was fired
pub fired_alone : (blobs : List (List ℕ)) (event : Event) (b c : RunView) (n0 n1 : List (List Note)) (result : Result (Unit {0}) DispatchFault)
    → IsDispatch blobs event (dispatch_view b n0) (dispatch_view c n1) result → c.left ≡ b.left → c.engine ≡ b.engine
fired_alone blobs event b c n0 n1 result d same =
    let made : b.left ≡ c.left + length d.entries = d.calls.left in
    d.calls.engine.idle (none d.entries (omega (arith, same, made)))
  where
    none : (es : List Entry) → length es ≡ 0 → es ≡ []
    none [] e = refl
    none (x ∷ es) e = absurd (omega (arith, e))

-- nothing but calls of listeners is in the order of a drain
silent_order : (blobs : List (List ℕ)) (st : State) (es : List Entry) → own_of es ≡ [] → AreInDrainOrder blobs st es
silent_order blobs st [] own = tt
silent_order blobs st (Listener v c a ∷ es) own = (tt, silent_order blobs (entry_meaning blobs st (Listener v c a)).state es own)
silent_order blobs st (Step n ∷ es) own = absurd (cc)
silent_order blobs st (Script c a ∷ es) own = absurd (cc)
silent_order blobs st (Fired e ∷ es) own = absurd (cc)
silent_order blobs st (Work k ∷ es) own = absurd (cc)
silent_order blobs st (Element ∷ es) own = absurd (cc)

abbrev fired_by : State → Option Event → List Entry
fired_by st first = fire_entries (option_map (λ event. record { answer = event; state = without_first st }) first)

first_fired : (st : State) (first : Option Event) (event : Event) (es : List Entry) → Fired event ∷ es ≡ fired_by st first → first ≡ Some event
first_fired st None event es e = absurd (cc)
first_fired st (Some x) event es e = let same : event ≡ x = cc in ap (λ (y : Event). Some y) (sym same)

rest_fired : (st : State) (first : Option Event) (event : Event) (es : List Entry) → Fired event ∷ es ≡ fired_by st first → es ≡ []
rest_fired st None event es e = absurd (cc)
rest_fired st (Some x) event es e = cc

-- nothing else is fired
not_fired : (st : State) (first : Option Event) (entry : Entry) (es : List Entry) → ((event : Event) → entry ≡ Fired event → ⊥) → entry ∷ es ≡ fired_by st first → ⊥
not_fired st None entry es other e = cc
not_fired st (Some x) entry es other e = other x (cc)

no_first : {x : Entry} {es : List Entry} → ¬ (x ∷ es ≡ [])
no_first e = cc

-- it is what a drain does first
pub fire_in_order : (blobs : List (List ℕ)) (count : ℕ) (st : State) (part : List Entry) → AreCallsInPlace count part → own_of part ≡ fire_entries (fire_result st) → AreInDrainOrder blobs st part
fire_in_order blobs count st [] calls own = tt
fire_in_order blobs count st (Fired event ∷ es) calls own = (
  first_fired st (slice_get st.element.queue 0) event (own_of es) own,
  silent_order blobs (entry_meaning blobs st (Fired event)).state es (rest_fired st (slice_get st.element.queue 0) event (own_of es) own),
)
fire_in_order blobs count st (Listener v c a ∷ es) calls own = absurd (no_first calls.first)
fire_in_order blobs count st (Step n ∷ es) calls own = absurd (not_fired st (slice_get st.element.queue 0) (Step n) (own_of es) (λ event e. cc) own)
fire_in_order blobs count st (Script c a ∷ es) calls own = absurd (not_fired st (slice_get st.element.queue 0) (Script c a) (own_of es) (λ event e. cc) own)
fire_in_order blobs count st (Work k ∷ es) calls own = absurd (not_fired st (slice_get st.element.queue 0) (Work k) (own_of es) (λ event e. cc) own)
fire_in_order blobs count st (Element ∷ es) calls own = absurd (not_fired st (slice_get st.element.queue 0) Element (own_of es) (λ event e. cc) own)

-- nothing is fired where no event waits
nothing_by : (st : State) (q : List Event) → q ≡ [] → [] ≡ fired_by st (slice_get q 0)
nothing_by st q e = rw e refl

pub nothing_fired : (st : State) → HasNoEvent st → own_of [] ≡ fire_entries (fire_result st)
nothing_fired st e = nothing_by st st.element.queue e
