-- The name by which a call would be refused before any effect, if it would (Media Source Extensions, 2.2, 3.1 and 3.2;
-- HTML, media elements).
use Rattle.std.specs.Prelude.{◌≡◌, ℕ, true, List, [], Option, Some, None, option_map}
use Rattle.mse_base.specs.declared.frame.Phase.TheVariants.{InMedia}
use Rattle.mse_calls.specs.AnswerAndState.{AnswerAndState}
use Rattle.mse_calls.specs.Pieces.{bytes_of}
use Rattle.mse_calls.specs.declared.answers.Answer.{Answer}
use Rattle.mse_calls.specs.declared.answers.Answer.TheVariants as answer
use Rattle.mse_calls.specs.declared.answers.Name.{Name}
use Rattle.mse_calls.specs.declared.answers.Name.TheVariants.{InvalidState, QuotaExceeded}
use Rattle.mse_calls.specs.Ready.{is_ended}
use Rattle.mse_calls.specs.declared.calls.Call.{Call}
use Rattle.mse_calls.specs.declared.calls.Call.TheVariants as call
use Rattle.mse_types.specs.Texts.{type_of}
use Rattle.buffer_state.specs.AllCalls.{CallView, SetMode, SetOffset, SetWindowStart, SetWindowEnd, Remove, Append, Abort, ChangeType, input_at}
use Rattle.buffer_state.specs.State.{phase_in}
use Rattle.source_buffers.specs.Slots.{refusal_on_buffer}
use Rattle.source_buffers.specs.State.{in_slot}
use Rattle.mse_engine.specs.State.{Core, State, core_of}
use Rattle.mse_engine.specs.Signals.{step}
use Rattle.mse_engine.specs.Replies.{surroundings_in}
use Rattle.mse_engine.specs.Calls.{after_call}

-- the name by which a call on the buffer of a number is refused before anything comes of it
abbrev pub buffer_refusal : ℕ → CallView → Core → Option Name
buffer_refusal k call c = refusal_on_buffer k call (surroundings_in k c.source) c.buffers

-- ---- all calls

-- the name by which it was refused, if it was
abbrev pub refused_name : Answer → Option Name
refused_name answer.Done = None
refused_name (answer.Ranges ranges) = None
refused_name (answer.Range range) = None
refused_name (answer.State state) = None
refused_name (answer.Refused name) = Some name

-- every call that is not on a buffer and is refused has no effect, so that its refusal is what it would answer
abbrev pub call_refusal : List (List ℕ) → Call → State → Option Name
call_refusal blobs (call.SetMode k mode) st = buffer_refusal k (SetMode mode) (core_of st)
call_refusal blobs (call.SetTimestampOffset k t) st = buffer_refusal k (SetOffset t) (core_of st)
call_refusal blobs (call.SetAppendWindowStart k t) st = buffer_refusal k (SetWindowStart t) (core_of st)
call_refusal blobs (call.SetAppendWindowEnd k t) st = buffer_refusal k (SetWindowEnd t) (core_of st)
call_refusal blobs (call.AppendBuffer k piece) st =
    buffer_refusal k
    (Append (input_at st.element.player.position st.source.quota (bytes_of blobs piece)))
    (core_of st)
call_refusal blobs (call.Abort k) st = buffer_refusal k Abort (core_of st)
call_refusal blobs (call.Remove k start end) st = buffer_refusal k (Remove start end) (core_of st)
call_refusal blobs (call.ChangeType k text) st =
    buffer_refusal k (ChangeType (type_of text)) (core_of st)
call_refusal blobs other st = refused_name (after_call blobs other st).answer

-- ---- the laws

-- by the name nothing is done: there is the end of the step alone
pub record IsRefused (name : Name) (st : State) (meant : AnswerAndState Answer State) : Type 0 where
  pub answers : meant.answer ≡ answer.Refused name
  pub stays : meant.state ≡ step (core_of st) [] st.element

-- a call whose refusal is a name is refused by it
abbrev pub IsRefusedAsNamed : List (List ℕ) → Call → State → Type 0
IsRefusedAsNamed blobs c st =
    (name : Name) → call_refusal blobs c st ≡ Some name → IsRefused name st (after_call blobs c st)

-- a media segment has begun at the buffer of a number, and the source is ended
pub record IsInSegmentWhenEnded (k : ℕ) (st : State) : Type 0 where
  pub ended : is_ended st.source.state.ready ≡ true
  pub phase : option_map (λ b. phase_in b.feed) (in_slot k st.buffers) ≡ Some InMedia

-- The refusals that come behind an effect: of an append for the quota, behind the eviction; and of the mode or the
-- timestamp offset in the middle of a media segment, where the ended source was opened again before.
abbrev pub IsLateRefusal : Call → Name → State → Type 0
IsLateRefusal (call.AppendBuffer k piece) name st = name ≡ QuotaExceeded
IsLateRefusal (call.SetMode k mode) name st = (name ≡ InvalidState) × IsInSegmentWhenEnded k st
IsLateRefusal (call.SetTimestampOffset k t) name st =
    (name ≡ InvalidState) × IsInSegmentWhenEnded k st
IsLateRefusal other name st = ⊥
