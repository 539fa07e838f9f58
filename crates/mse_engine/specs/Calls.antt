-- A call: its answer, and the state behind it.
use Rattle.std.specs.Prelude.{ℕ, ℤ, List, [], Option, Some, None, unwrap_or}
use Rattle.mse_base.specs.declared.ticks.Moment.{Moment}
use Rattle.mse_base.specs.declared.ticks.Moment.TheVariants.{Nan, At, Infinite}
use Rattle.mse_calls.specs.AnswerAndState.{AnswerAndState}
use Rattle.mse_calls.specs.Ready.{is_ended}
use Rattle.mse_calls.specs.declared.answers.Answer.{Answer}
use Rattle.mse_calls.specs.declared.answers.Answer.TheVariants as answer
use Rattle.mse_calls.specs.declared.answers.Name.{Name}
use Rattle.mse_calls.specs.declared.answers.Name.TheVariants.{InvalidState, TypeError}
use Rattle.mse_calls.specs.declared.answers.StateView.{StateView}
use Rattle.mse_calls.specs.declared.calls.Call.{Call}
use Rattle.mse_calls.specs.declared.calls.Call.TheVariants as call
use Rattle.mse_calls.specs.Pieces.{bytes_of}
use Rattle.mse_types.specs.Texts.{type_of}
use Rattle.buffer_state.specs.declared.call.BufferCall.{BufferCall}
use Rattle.buffer_state.specs.AllCalls.{SetMode, SetOffset, SetWindowStart, SetWindowEnd, Remove, Append, Abort, ChangeType, call_view, input_at}
use Rattle.element_seek.specs.declared.player_answer.PlayerAnswer.{PlayerAnswer}
use Rattle.element_seek.specs.State.{PlayerState}
use Rattle.element_seek.specs.Seeking.{after_seek}
use Rattle.element_seek.specs.Playing.{after_play, after_pause, after_advance}
use Rattle.media_element.specs.State.{ElementState}
use Rattle.media_element.specs.Queueing as queueing
use Rattle.source_buffers.specs.State.{BufferState, in_slot, media_of_all}
use Rattle.source_buffers.specs.Buffered.{buffered_at}
use Rattle.mse_engine.specs.State.{Core, State, core_of}
use Rattle.mse_engine.specs.Scenes.{SourceView, source_view, buffered_in, seekable_in, scene_at}
use Rattle.mse_engine.specs.Signals.{step}
use Rattle.mse_engine.specs.CoreEffects.{CoreEffect, refused_effect, no_core_effect, if_made}
use Rattle.mse_engine.specs.SourceCalls.{attach_effect, add_effect, remove_effect, set_duration_effect, end_effect, set_live_effect, clear_live_effect}
use Rattle.mse_engine.specs.BufferCalls.{buffer_effect}

-- ---- the element's calls

abbrev pub ElementEffect : Type 0
ElementEffect = AnswerAndState (Option Name) ElementState

abbrev pub no_element_effect : ElementState → ElementEffect
no_element_effect e = record { answer = None; state = e }

abbrev pub element_refused : Name → ElementState → ElementEffect
element_refused name e = record { answer = Some name; state = e }

-- what may be refused
abbrev pub element_effect_by : (PlayerState → AnswerAndState PlayerAnswer PlayerState) → ElementState
    → ElementEffect
element_effect_by call e = record {
  answer = queueing.refusal (call e.player).answer;
  state = queueing.after_player_call call e;
}

-- currentTime, on setting: to a number (HTML, "seeking")
abbrev pub seek_effect : Moment → SourceView → ElementState → ElementEffect
seek_effect Nan v e = element_refused TypeError e
seek_effect (At t) v e =
    no_element_effect (queueing.after_action (after_seek t (scene_at e.player.position v)) e)
seek_effect Infinite v e = element_refused TypeError e

abbrev pub play_effect : SourceView → ElementState → ElementEffect
play_effect v e = element_effect_by (after_play (scene_at e.player.position v)) e

abbrev pub pause_effect : ElementState → ElementEffect
pause_effect e = no_element_effect (queueing.after_action after_pause e)

-- so much time passes
abbrev pub advance_effect : Moment → SourceView → ElementState → ElementEffect
advance_effect Nan v e = element_refused TypeError e
advance_effect (At t) v e = element_effect_by (after_advance t (scene_at e.player.position v)) e
advance_effect Infinite v e = element_refused TypeError e

abbrev pub element_effect : Call → SourceView → ElementState → ElementEffect
element_effect (call.Seek t) v e = seek_effect t v e
element_effect call.Play v e = play_effect v e
element_effect call.Pause v e = pause_effect e
element_effect (call.Advance t) v e = advance_effect t v e
element_effect other v e = no_element_effect e

-- ---- the calls on the source and on its buffers

-- reading buffered of a buffer that was removed is refused
abbrev pub read_slot_effect : Option BufferState → Core → CoreEffect
read_slot_effect None c = refused_effect InvalidState c
read_slot_effect (Some b) c = no_core_effect c

abbrev pub read_effect : ℕ → Core → CoreEffect
read_effect k c = if_made k (read_slot_effect (in_slot k c.buffers) c) c

-- with the blobs and the playback position
abbrev pub core_effect : List (List ℕ) → ℤ → Call → Core → CoreEffect
core_effect blobs position call.Attach c = attach_effect c
core_effect blobs position (call.AddSourceBuffer text) c = add_effect text c
core_effect blobs position (call.RemoveSourceBuffer k) c = remove_effect k c
core_effect blobs position (call.SetDuration d) c = set_duration_effect d c
core_effect blobs position (call.EndOfStream end) c = end_effect end c
core_effect blobs position (call.SetLiveSeekableRange start end) c = set_live_effect start end c
core_effect blobs position call.ClearLiveSeekableRange c = clear_live_effect c
core_effect blobs position (call.SetMode k mode) c = buffer_effect k (SetMode mode) c
core_effect blobs position (call.SetTimestampOffset k t) c = buffer_effect k (SetOffset t) c
core_effect blobs position (call.SetAppendWindowStart k t) c = buffer_effect k (SetWindowStart t) c
core_effect blobs position (call.SetAppendWindowEnd k t) c = buffer_effect k (SetWindowEnd t) c
core_effect blobs position (call.AppendBuffer k piece) c =
    buffer_effect k (Append (input_at position c.source.quota (bytes_of blobs piece))) c
core_effect blobs position (call.Abort k) c = buffer_effect k Abort c
core_effect blobs position (call.Remove k start end) c = buffer_effect k (Remove start end) c
core_effect blobs position (call.ChangeType k text) c = buffer_effect k (ChangeType (type_of text)) c
core_effect blobs position (call.Buffered k) c = read_effect k c
core_effect blobs position other c = no_core_effect c

-- ---- the answer

abbrev pub state_view : State → StateView
state_view st = record {
  source = st.source.state.ready;
  duration = st.source.state.duration;
  level = st.element.player.level;
  position = st.element.player.position;
  paused = st.element.player.paused;
  seeking = st.element.player.seeking;
  error = st.element.player.error;
}

-- what a call answers that is not refused
abbrev pub read_answer : State → Call → Answer
read_answer st (call.Buffered k) =
    answer.Ranges
    (unwrap_or (buffered_at (is_ended st.source.state.ready) k (media_of_all st.buffers)) [])
read_answer st call.SourceState = answer.State (state_view st)
read_answer st call.ElementBuffered = answer.Ranges (buffered_in (source_view st))
read_answer st call.Seekable = answer.Range (seekable_in (source_view st))
read_answer st other = answer.Done

abbrev pub refused_or : Option Name → Answer → Answer
refused_or None a = a
refused_or (Some name) a = answer.Refused name

abbrev pub after_call_by : CoreEffect → ElementEffect → Answer → AnswerAndState Answer State
after_call_by m acts a = record {
  answer = refused_or m.refused (refused_or acts.answer a);
  state = step m.core m.signals acts.state;
}

abbrev pub after_call : List (List ℕ) → Call → State → AnswerAndState Answer State
after_call blobs call st =
    after_call_by (core_effect blobs st.element.player.position call (core_of st))
    (element_effect call (source_view st) st.element) (read_answer st call)

-- a call on the buffer of a number alone
abbrev pub after_buffer_call : ℕ → BufferCall → State → AnswerAndState Answer State
after_buffer_call k call st =
    after_call_by
    (buffer_effect k (call_view st.element.player.position st.source.quota call) (core_of st))
    (no_element_effect st.element) answer.Done
