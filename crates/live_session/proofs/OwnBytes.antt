-- A line goes by the bytes of its own blob alone.
use Rattle.std.proofs.Common.{◌≡◌, ◌∙◌, ℕ, zero, suc, Bool, true, false, List, [], ◌∷◌, ◌++◌, refl, sym, ap}
use Rattle.std.specs.Prelude.{Option, Some, None, IfSome, option_and_then, slice_get, ⊤}
use Rattle.mse_calls.specs.AnswerAndState.{AnswerAndState}
use Rattle.mse_calls.specs.declared.answers.Answer.{Answer}
use Rattle.mse_calls.specs.declared.events.Event.{Event}
use Rattle.mse_calls.specs.declared.calls.Call.{Call}
use Rattle.mse_calls.specs.declared.calls.Call.TheVariants as call
use Rattle.mse_calls.specs.declared.calls.Piece.{Piece}
use Rattle.mse_calls.specs.declared.entry.Entry.{Entry}
use Rattle.mse_calls.specs.declared.entry.Entry.TheVariants.{Step, Script, Listener, Fired, Work, Element}
use Rattle.mse_calls.specs.Pieces.{part_of}
use Rattle.call_script.specs.declared.script.StepLine.{StepLine}
use Rattle.call_script.specs.declared.script.StepLine.TheVariants as step
use Rattle.buffer_state.specs.AllCalls.{Append, input_at}
use Rattle.mse_engine.specs.State.{State, core_of}
use Rattle.mse_engine.specs.BufferCalls.{buffer_effect}
use Rattle.mse_engine.specs.Scenes.{source_view}
use Rattle.mse_engine.specs.Calls.{after_call, after_call_by, element_effect, read_answer}
use Rattle.mse_engine.specs.Work.{after_element_turn, after_work, fire_result, is_turn_due, running_in}
use Rattle.mse_engine.specs.Run.{after_entries, entries_if, fire_entries}
use Rattle.cut_law.specs.Plays.{after_entry, after_line, drain_entries, drain_in, entries_behind, entries_then, fired_entries, line_entries, next_entry_by, steps_left}
use Rattle.script_run.specs.Text.{lines_of}
use Rattle.live_session.specs.Steps.{blob_of_call, refusal_name, step_lines, step_refusal}
use Rattle.live_session.specs.Sessions.{IsSameFor}

-- ---- a call

abbrev append_by : ℕ → Piece → State → Option (List ℕ) → AnswerAndState Answer State
append_by k piece st o =
    after_call_by (buffer_effect k (Append (input_at st.element.player.position (core_of st).source.quota o)) (core_of st)) (element_effect (call.AppendBuffer k piece) (source_view st) st.element)
    (read_answer st (call.AppendBuffer k piece))

abbrev IsSameForCall : Call → List (List ℕ) → List (List ℕ) → Type 0
IsSameForCall c blobs others = IfSome (blob_of_call c) (λ blob. slice_get blobs blob ≡ slice_get others blob)

call_same : (blobs others : List (List ℕ)) (c : Call) (st : State) → IsSameForCall c blobs others → after_call others c st ≡ after_call blobs c st
call_same blobs others (call.AppendBuffer k piece) st same = ap (append_by k piece st) (sym (ap (λ (o : Option (List ℕ)). option_and_then (part_of piece.part) o) same))
call_same blobs others call.Attach st same = refl
call_same blobs others (call.AddSourceBuffer text) st same = refl
call_same blobs others (call.RemoveSourceBuffer k) st same = refl
call_same blobs others (call.SetDuration d) st same = refl
call_same blobs others (call.EndOfStream end) st same = refl
call_same blobs others (call.SetLiveSeekableRange start end) st same = refl
call_same blobs others call.ClearLiveSeekableRange st same = refl
call_same blobs others (call.SetMode k mode) st same = refl
call_same blobs others (call.SetTimestampOffset k t) st same = refl
call_same blobs others (call.SetAppendWindowStart k t) st same = refl
call_same blobs others (call.SetAppendWindowEnd k t) st same = refl
call_same blobs others (call.Abort k) st same = refl
call_same blobs others (call.Remove k start end) st same = refl
call_same blobs others (call.ChangeType k text) st same = refl
call_same blobs others (call.Buffered k) st same = refl
call_same blobs others call.SourceState st same = refl
call_same blobs others (call.Seek t) st same = refl
call_same blobs others call.Play st same = refl
call_same blobs others call.Pause st same = refl
call_same blobs others (call.Advance t) st same = refl
call_same blobs others call.ElementBuffered st same = refl
call_same blobs others call.Seekable st same = refl

-- ---- entries that no call is among

abbrev pub AreNoCalls : List Entry → Type 0
AreNoCalls [] = ⊤
AreNoCalls (Script c answer ∷ es) = ⊥
AreNoCalls (Listener w c answer ∷ es) = ⊥
AreNoCalls (other ∷ es) = AreNoCalls es

same_state : (es : List Entry) (blobs others : List (List ℕ)) (st : State) → AreNoCalls es → after_entries others st es ≡ after_entries blobs st es
same_state [] blobs others st n = refl
same_state (Step k ∷ es) blobs others st n = same_state es blobs others st n
same_state (Script c answer ∷ es) blobs others st n = absurd n
same_state (Listener w c answer ∷ es) blobs others st n = absurd n
same_state (Fired event ∷ es) blobs others st n = same_state es blobs others (after_entry blobs st (Fired event)) n
same_state (Work k ∷ es) blobs others st n = same_state es blobs others (after_entry blobs st (Work k)) n
same_state (Element ∷ es) blobs others st n = same_state es blobs others (after_entry blobs st Element) n

events_no_calls : (events : List Event) (es : List Entry) → AreNoCalls es → AreNoCalls (fired_entries events ++ es)
events_no_calls [] es n = n
events_no_calls (event ∷ events) es n = events_no_calls events es n

then_no_calls : (running : Option ℕ) (due : Bool) (n : ℕ) (blobs : List (List ℕ)) (st : State) → ((now : State) → AreNoCalls (drain_in n blobs now)) → AreNoCalls (entries_behind (next_entry_by running due) (λ entry. drain_in n blobs (after_entry blobs st entry)))
then_no_calls (Some k) due n blobs st go = go (after_entry blobs st (Work k))
then_no_calls None true n blobs st go = go (after_entry blobs st Element)
then_no_calls None false n blobs st go = tt

drain_no_calls : (n : ℕ) (blobs : List (List ℕ)) (st : State) → AreNoCalls (drain_in n blobs st)
drain_no_calls zero blobs st = tt
drain_no_calls (suc n) blobs st =
    let now : State = after_entries blobs st (fired_entries st.element.queue) in
    events_no_calls st.element.queue (entries_then (drain_in n blobs) blobs now) (then_no_calls (running_in now) (is_turn_due now) n blobs now (λ new. drain_no_calls n blobs new))

fired_no_calls : (events : List Event) → AreNoCalls (fired_entries events)
fired_no_calls [] = tt
fired_no_calls (event ∷ events) = fired_no_calls events

-- ---- a drain

then_same : (running : Option ℕ) (due : Bool) (n : ℕ) (blobs others : List (List ℕ)) (st : State) → ((now : State) → drain_in n others now ≡ drain_in n blobs now)
    → entries_behind (next_entry_by running due) (λ entry. drain_in n others (after_entry others st entry)) ≡ entries_behind (next_entry_by running due) (λ entry. drain_in n blobs (after_entry blobs st entry))
then_same (Some k) due n blobs others st go = ap (λ (es : List Entry). Work k ∷ es) (go (after_entry blobs st (Work k)))
then_same None true n blobs others st go = ap (λ (es : List Entry). Element ∷ es) (go (after_entry blobs st Element))
then_same None false n blobs others st go = refl

drain_same : (n : ℕ) (blobs others : List (List ℕ)) (st : State) → drain_in n others st ≡ drain_in n blobs st
drain_same zero blobs others st = refl
drain_same (suc n) blobs others st =
    let events : List Entry = fired_entries st.element.queue in
    let now : State = after_entries blobs st events in
    ap (λ (s : State). events ++ entries_then (drain_in n others) others s) (same_state events blobs others st (fired_no_calls st.element.queue))
    ∙ ap (λ (es : List Entry). events ++ es) (then_same (running_in now) (is_turn_due now) n blobs others now (λ new. drain_same n blobs others new))

whole_drain_same : (blobs others : List (List ℕ)) (st : State) → drain_entries others st ≡ drain_entries blobs st
unfolding drain_entries
whole_drain_same blobs others st = drain_same (suc (steps_left st)) blobs others st

pub whole_drain_no_calls : (blobs : List (List ℕ)) (st : State) → AreNoCalls (drain_entries blobs st)
unfolding drain_entries
whole_drain_no_calls blobs st = drain_no_calls (suc (steps_left st)) blobs st

-- ---- a line

pub fire_no_calls : (o : Option (AnswerAndState Event State)) → AreNoCalls (fire_entries o)
fire_no_calls None = tt
fire_no_calls (Some fired) = tt

pub work_no_calls : (o : Option State) (k : ℕ) → AreNoCalls (entries_if o (Work k))
work_no_calls None k = tt
work_no_calls (Some st) k = tt

pub turn_no_calls : (o : Option State) → AreNoCalls (entries_if o Element)
turn_no_calls None = tt
turn_no_calls (Some st) = tt

pub line_same : (blobs others : List (List ℕ)) (line : StepLine) (st : State) → IsSameFor line blobs others → line_entries others st line ≡ line_entries blobs st line
line_same blobs others (step.Call c) st same = ap (λ (made : AnswerAndState Answer State). Script c made.answer ∷ []) (call_same blobs others c st same)
line_same blobs others step.Fire st same = refl
line_same blobs others (step.Work k) st same = refl
line_same blobs others step.Element st same = refl
line_same blobs others step.Drain st same = whole_drain_same blobs others st

pub line_state_same : (blobs others : List (List ℕ)) (line : StepLine) (st : State) → IsSameFor line blobs others → after_line others st line ≡ after_line blobs st line
line_state_same blobs others (step.Call c) st same = ap (λ (made : AnswerAndState Answer State). made.state) (call_same blobs others c st same)
line_state_same blobs others step.Fire st same = same_state (fire_entries (fire_result st)) blobs others st (fire_no_calls (fire_result st))
line_state_same blobs others (step.Work k) st same = same_state (entries_if (after_work k st) (Work k)) blobs others st (work_no_calls (after_work k st) k)
line_state_same blobs others step.Element st same = same_state (entries_if (after_element_turn st) Element) blobs others st (turn_no_calls (after_element_turn st))
line_state_same blobs others step.Drain st same =
    ap (λ (es : List Entry). after_entries others st es) (whole_drain_same blobs others st)
    ∙ same_state (drain_entries blobs st) blobs others st (whole_drain_no_calls blobs st)

pub line_refusal_same : (blobs others : List (List ℕ)) (line : StepLine) (st : State) → IsSameFor line blobs others → step_refusal others st line ≡ step_refusal blobs st line
line_refusal_same blobs others (step.Call c) st same = ap (λ (made : AnswerAndState Answer State). refusal_name made.answer) (call_same blobs others c st same)
line_refusal_same blobs others step.Fire st same = refl
line_refusal_same blobs others (step.Work k) st same = refl
line_refusal_same blobs others step.Element st same = refl
line_refusal_same blobs others step.Drain st same = refl

pub line_texts_same : (blobs others : List (List ℕ)) (line : StepLine) (st : State) → IsSameFor line blobs others → step_lines others st line ≡ step_lines blobs st line
line_texts_same blobs others line st same = ap lines_of (line_same blobs others line st same)
