-- All calls on a source buffer as one: what a call answers, by which name it is refused, and what it does.
use Rattle.std.specs.Prelude.{◌≡◌, ℕ, ℤ, false, List, Option, Some, None, option_copied, unwrap_or}
use Rattle.mse_base.specs.declared.ticks.Moment.{Moment}
use Rattle.mse_base.specs.declared.ticks.Moment.TheVariants.{Nan, At, Infinite}
use Rattle.mse_types.specs.declared.answer.TypeAnswer.{TypeAnswer}
use Rattle.mse_types.specs.declared.answer.TypeAnswer.TheVariants.{Supported, Empty, Unsupported}
use Rattle.mse_calls.specs.declared.answers.Name.{Name}
use Rattle.mse_calls.specs.declared.answers.Name.TheVariants.{InvalidState, QuotaExceeded, TypeError, NoSuchBytes}
use Rattle.mse_calls.specs.declared.calls.Mode.{Mode}
use Rattle.byte_stream.specs.Streams.{ready_of}
use Rattle.buffer_state.specs.declared.buffer_context.BufferContext.{BufferContext}
use Rattle.buffer_state.specs.declared.call.BufferCall.{BufferCall}
use Rattle.buffer_state.specs.declared.call.BufferCall.TheVariants as calls
use Rattle.buffer_state.specs.State.{Feed, Content, Surroundings, AppendInput, KeptBuffer, Stands}
use Rattle.buffer_state.specs.declared.reply.Reply.{Reply}
use Rattle.buffer_state.specs.Replies.{CallResult, IsDone, refused_result, early_refusal}
use Rattle.buffer_state.specs.Calls.{mode_result, offset_result, window_start_refusal, window_start_result, window_end_refusal, window_end_result, remove_refusal, remove_result, append_refusal, append_result, abort_refusal, abort_result, change_type_refusal_by_answer, change_type_result_by_answer}

-- a call, as contracts see it; an append with what its eviction goes by
pub data CallView : Type 0 where
  SetMode : Mode → CallView
  SetOffset : Moment → CallView
  SetWindowStart : Moment → CallView
  SetWindowEnd : Moment → CallView
  Remove : Moment → Moment → CallView
  Append : Option AppendInput → CallView
  Abort : CallView
  ChangeType : TypeAnswer → CallView

-- bytes that are appended at a playback position, where the buffer may hold so many
abbrev pub input_at : ℤ → ℕ → Option (List ℕ) → Option AppendInput
input_at position quota None = None
input_at position quota (Some bytes) =
    Some (record { bytes = bytes; position = position; quota = quota })

abbrev pub call_view : ℤ → ℕ → BufferCall → CallView
call_view position quota (calls.SetMode mode) = SetMode mode
call_view position quota (calls.SetOffset t) = SetOffset t
call_view position quota (calls.SetWindowStart t) = SetWindowStart t
call_view position quota (calls.SetWindowEnd t) = SetWindowEnd t
call_view position quota (calls.Remove start end) = Remove start end
call_view position quota (calls.Append bytes) =
    Append (input_at position quota (option_copied bytes))
call_view position quota calls.Abort = Abort
call_view position quota (calls.ChangeType answer) = ChangeType answer

abbrev pub call_at : BufferContext → BufferCall → CallView
call_at a call = call_view a.position a.quota call

-- ---- refusals

-- a time that must be finite (Web IDL, double)
abbrev pub name_unless_finite : Moment → Option Name
name_unless_finite Nan = Some TypeError
name_unless_finite (At t) = None
name_unless_finite Infinite = Some TypeError

-- the name by which a call is refused whatever the state of the buffer
abbrev pub early_name : CallView → Option Name
early_name (SetMode mode) = None
early_name (SetOffset t) = name_unless_finite t
early_name (SetWindowStart t) = name_unless_finite t
early_name (SetWindowEnd t) = None
early_name (Remove start end) = name_unless_finite start
early_name (Append None) = Some NoSuchBytes
early_name (Append (Some input)) = None
early_name Abort = None
early_name (ChangeType Empty) = Some TypeError
early_name (ChangeType Unsupported) = None
early_name (ChangeType (Supported container)) = None

-- and where it was removed
abbrev pub removed_name : CallView → Name
removed_name call = unwrap_or (early_name call) InvalidState

abbrev pub refusal_at : Moment → (ℤ → Option Name) → Option Name
refusal_at Nan refusal = Some TypeError
refusal_at (At t) refusal = refusal t
refusal_at Infinite refusal = Some TypeError

-- the name by which a call is refused before anything comes of it, if it is
abbrev pub refusal_of_call : CallView → Surroundings → Feed → Content → Option Name
refusal_of_call (SetMode mode) a f c = early_refusal (mode_result mode a f c).reply
refusal_of_call (SetOffset t) a f c =
    refusal_at t (λ offset. early_refusal (offset_result offset a f c).reply)
refusal_of_call (SetWindowStart t) a f c = refusal_at t (λ start. window_start_refusal start f c)
refusal_of_call (SetWindowEnd t) a f c = window_end_refusal t f c
refusal_of_call (Remove start end) a f c = refusal_at start (λ from. remove_refusal from end a f)
refusal_of_call (Append None) a f c = Some NoSuchBytes
refusal_of_call (Append (Some input)) a f c = append_refusal a f
refusal_of_call Abort a f c = abort_refusal a f
refusal_of_call (ChangeType answer) a f c = change_type_refusal_by_answer answer f

-- an append of bytes that there are is refused for the quota behind its eviction; no other call is refused so
abbrev pub IsForQuota : CallView → Name → Type 0
IsForQuota (Append (Some input)) name = name ≡ QuotaExceeded
IsForQuota other name = ⊥

-- ---- what a call does

abbrev pub result_at : Moment → (ℤ → CallResult) → Surroundings → Feed → Content → CallResult
result_at Nan call a f c = refused_result TypeError false a f c
result_at (At t) call a f c = call t
result_at Infinite call a f c = refused_result TypeError false a f c

abbrev pub result_of_call : CallView → Surroundings → Feed → Content → CallResult
result_of_call (SetMode mode) a f c = mode_result mode a f c
result_of_call (SetOffset t) a f c = result_at t (λ offset. offset_result offset a f c) a f c
result_of_call (SetWindowStart t) a f c =
    result_at t (λ start. window_start_result start a f c) a f c
result_of_call (SetWindowEnd t) a f c = window_end_result t a f c
result_of_call (Remove start end) a f c =
    result_at start (λ from. remove_result from end a f c) a f c
result_of_call (Append None) a f c = refused_result NoSuchBytes false a f c
result_of_call (Append (Some input)) a f c = append_result input a f c
result_of_call Abort a f c = abort_result a f c
result_of_call (ChangeType answer) a f c = change_type_result_by_answer answer a f c

-- how often a call changes the duration at most: a reset of the parser once for each coded frame that is ready
abbrev pub most_changes : CallView → KeptBuffer → ℕ
most_changes Abort k = ready_of k.stream
most_changes (ChangeType answer) k = ready_of k.stream
most_changes other k = 0

-- ---- the code and this

abbrev pub IsCallDone : CallView → Surroundings → KeptBuffer → Reply → KeptBuffer → Type 0
IsCallDone call a old reply new =
    IsDone (result_of_call call a) (most_changes call old) a.duration old reply new

-- the name by which the call is refused before anything comes of it, if it is, for every feed and content
abbrev pub IsRefusal : CallView → Surroundings → KeptBuffer → Option Name → Type 0
IsRefusal call a k name =
    (f : Feed) (c : Content) → Stands k f c → name ≡ refusal_of_call call a f c
