-- A call that is refused though no name was told of it is refused behind an effect.
use Rattle.std.proofs.Common.{◌≡◌, ◌∙◌, ℕ, ℤ, Bool, true, false, cond, ◌&&◌, List, [], ◌∷◌, length, refl, sym, ap}
use Rattle.std.specs.Prelude.{Option, Some, None, slice_get, not, option_map}
use Rattle.std.specs.Option.{option_flatten}
use Rattle.mse_base.specs.declared.frame.Phase.{Phase}
use Rattle.mse_base.specs.declared.frame.Phase.TheVariants.{Waiting, InInit, InMedia}
use Rattle.mse_base.specs.declared.ticks.Moment.TheVariants.{Nan, At, Infinite}
use Rattle.mse_calls.specs.Pieces.{bytes_of}
use Rattle.mse_calls.specs.declared.answers.Answer.{Answer}
use Rattle.mse_calls.specs.declared.answers.Answer.TheVariants as answer
use Rattle.mse_calls.specs.declared.answers.Name.{Name}
use Rattle.mse_calls.specs.declared.answers.Name.TheVariants.{InvalidState, QuotaExceeded, TypeError}
use Rattle.mse_calls.specs.declared.calls.Call.{Call}
use Rattle.mse_calls.specs.declared.calls.Call.TheVariants as call
use Rattle.mse_calls.specs.declared.events.EventKind.TheVariants.{UpdateStart}
use Rattle.track_buffers.specs.Media.{Media}
use Rattle.track_buffers.specs.Frames.{media_after_eviction}
use Rattle.track_buffers.specs.Settings.{with_mode, with_offset}
use Rattle.buffer_state.specs.State.{Feed, Content, Surroundings, feed_with, is_updating, phase_in}
use Rattle.mse_calls.specs.Ready.{is_ended}
use Rattle.buffer_state.specs.Replies.{CallResult, early_refusal, event_reply, refused_result, result_with}
use Rattle.mse_types.specs.Texts.{type_of}
use Rattle.buffer_state.specs.AllCalls.{CallView, SetMode, SetOffset, SetWindowStart, SetWindowEnd, Remove, Abort, ChangeType, input_at, refusal_of_call, result_of_call}
use Rattle.buffer_state.specs.AllCalls as calls
use Rattle.buffer_state.specs.Calls.{abort_refusal, append_result, append_result_after_eviction, change_type_refusal_by_answer, is_full, is_in_media, is_sequence, remove_refusal, settings_result, settings_result_by_phase, unless_refused, window_end_refusal, window_start_refusal, with_media}
use Rattle.source_buffers.specs.State.{BufferState}
use Rattle.source_buffers.specs.Slots.{call_in_slot, refusal_by_slot, refusal_in_slot, result_by_slot}
use Rattle.mse_engine.specs.State.{State, core_of, core_source}
use Rattle.mse_engine.specs.Replies.{surroundings_in}
use Rattle.mse_engine.specs.CoreEffects.{CoreEffect}
use Rattle.mse_engine.specs.BufferCalls.{buffer_effect}
use Rattle.mse_engine.specs.Calls.{after_call, refused_or}
use Rattle.mse_engine.specs.Refusals.{IsInSegmentWhenEnded, IsLateRefusal, buffer_refusal, call_refusal, refused_name}
use Rattle.mse_engine.proofs.AskedRefusals.{abort_tells, named, remove_tells, type_tells, window_end_tells, window_start_tells}

-- ---- calls whose refusal is what they would answer

told_all : (a : Answer) (name : Name) → refused_name a ≡ None → a ≡ answer.Refused name → ⊥
told_all a name none is =
    let some : refused_name a ≡ Some name = ap refused_name is in
    let wrong : None ≡ Some name = sym none ∙ some in
    cc

-- ---- the others

-- the answer of the call, of its name
answered : (m : CoreEffect) (name : Name) → refused_or m.refused answer.Done ≡ answer.Refused name → m.refused ≡ Some name
answered m name is = sym (named m.refused answer.Done refl) ∙ ap refused_name is

-- ---- settings

-- the source is ended, and a media segment has begun
record IsInSegment (name : Name) (a : Surroundings) (f : Feed) : Type 0 where
  named : name ≡ InvalidState
  ended : is_ended a.ready ≡ true
  phase : phase_in f ≡ InMedia

media_phase : (p : Phase) → is_in_media p ≡ true → p ≡ InMedia
media_phase Waiting h = absurd cc
media_phase InInit h = absurd cc
media_phase InMedia h = refl

reopened : (media ended : Bool) (m : Media) (a : Surroundings) (f : Feed) (c : Content) (name : Name) → is_in_media (phase_in f) ≡ media → is_ended a.ready ≡ ended
    → early_refusal (cond media (refused_result InvalidState ended a f c) (settings_result ended m a f c)).reply ≡ None
    → (cond media (refused_result InvalidState ended a f c) (settings_result ended m a f c)).reply.refused ≡ Some name
    → IsInSegment name a f
reopened true true m a f c name in_media is_over none is = record { named = let same : InvalidState ≡ name = cc in sym same; ended = is_over; phase = media_phase (phase_in f) in_media }
reopened true false m a f c name in_media is_over none is = absurd cc
reopened false ended m a f c name in_media is_over none is = absurd cc

-- what is said of a setting that is refused by no early name
abbrev IsLateSetting : Surroundings → Feed → CallResult → Type 0
IsLateSetting a f r = (name : Name) → early_refusal r.reply ≡ None → r.reply.refused ≡ Some name → IsInSegment name a f

by_phase : (m : Media) (a : Surroundings) (f : Feed) (c : Content) → IsLateSetting a f (settings_result_by_phase m a f c)
by_phase m a f c name none is = reopened (is_in_media (phase_in f)) (is_ended a.ready) m a f c name refl refl none is

unless_early : (b : Bool) (n : Name) (r : CallResult) (a : Surroundings) (f : Feed) (c : Content) → IsLateSetting a f r → IsLateSetting a f (cond b (refused_result n false a f c) r)
unless_early true n r a f c h name none is = absurd cc
unless_early false n r a f c h name none is = h name none is

-- ---- appends

for_quota : (full : Bool) (r s : CallResult) (name : Name) → r.reply.refused ≡ Some QuotaExceeded → s.reply.refused ≡ None → (cond full r s).reply.refused ≡ Some name → name ≡ QuotaExceeded
for_quota true r s name quota none is = let both : Some QuotaExceeded ≡ Some name = sym quota ∙ is in cc
for_quota false r s name quota none is = let both : None ≡ Some name = sym none ∙ is in absurd (cc)

after_eviction : (bytes : List ℕ) (position : ℤ) (quota : ℕ) (a : Surroundings) (f : Feed) (c : Content) (name : Name) → (append_result_after_eviction (record { bytes = bytes; position = position; quota = quota }) a f c).reply.refused ≡ Some name → name ≡ QuotaExceeded
after_eviction bytes position quota a f c name is =
    let m : Media = media_after_eviction position (length bytes) quota a.duration c.media in
    let x : Content = with_media m c in
    for_quota (is_full bytes quota f m) (refused_result QuotaExceeded (is_ended a.ready) a f x) (result_with (event_reply (is_ended a.ready) a.duration (UpdateStart ∷ [])) (feed_with bytes f) x) name refl refl is

-- ---- a call on a buffer

never : (name : Name) (o : Option Name) → o ≡ None → o ≡ Some name → ⊥
never name o none some = cc

-- what is left of a refusal that no name told
abbrev IsLateAt : CallView → Name → Surroundings → Feed → Type 0
IsLateAt (SetMode mode) name a f = IsInSegment name a f
IsLateAt (SetOffset t) name a f = IsInSegment name a f
IsLateAt (SetWindowStart t) name a f = ⊥
IsLateAt (SetWindowEnd t) name a f = ⊥
IsLateAt (Remove start end) name a f = ⊥
IsLateAt (calls.Append input) name a f = name ≡ QuotaExceeded
IsLateAt Abort name a f = ⊥
IsLateAt (ChangeType answer) name a f = ⊥

late_at : (call : CallView) (a : Surroundings) (f : Feed) (c : Content) (name : Name) → refusal_of_call call a f c ≡ None → (result_of_call call a f c).reply.refused ≡ Some name → IsLateAt call name a f
late_at (SetMode mode) a f c name none is =
    let wrong : Bool = c.media.settings.generate && not (is_sequence mode) in
    let done : CallResult = settings_result_by_phase (with_mode (is_sequence mode) c.media) a f c in
    unless_early (is_updating f.running) InvalidState (cond wrong (refused_result TypeError false a f c) done) a f c (unless_early wrong TypeError done a f c (by_phase (with_mode (is_sequence mode) c.media) a f c)) name none is
late_at (SetOffset Nan) a f c name none is = absurd (cc)
late_at (SetOffset (At t)) a f c name none is = unless_early (is_updating f.running) InvalidState (settings_result_by_phase (with_offset t c.media) a f c) a f c (by_phase (with_offset t c.media) a f c) name none is
late_at (SetOffset Infinite) a f c name none is = absurd (cc)
late_at (SetWindowStart Nan) a f c name none is = absurd (cc)
late_at (SetWindowStart (At t)) a f c name none is = absurd (never name (window_start_refusal t f c) none (sym (window_start_tells t a f c) ∙ is))
late_at (SetWindowStart Infinite) a f c name none is = absurd (cc)
late_at (SetWindowEnd t) a f c name none is = absurd (never name (window_end_refusal t f c) none (sym (window_end_tells t a f c) ∙ is))
late_at (Remove Nan end) a f c name none is = absurd (cc)
late_at (Remove (At t) end) a f c name none is = absurd (never name (remove_refusal t end a f) none (sym (remove_tells t end a f c) ∙ is))
late_at (Remove Infinite end) a f c name none is = absurd (cc)
late_at (calls.Append None) a f c name none is = absurd (cc)
late_at (calls.Append (Some input)) a f c name none is =
    let did : append_result input a f c ≡ append_result_after_eviction input a f c = ap (λ (o : Option Name). unless_refused o (append_result_after_eviction input a f c) a f c) none in
    after_eviction input.bytes input.position input.quota a f c name (sym (ap (λ (r : CallResult). r.reply.refused) did) ∙ is)
late_at Abort a f c name none is = absurd (never name (abort_refusal a f) none (sym (abort_tells a f c) ∙ is))
late_at (ChangeType answer) a f c name none is = absurd (never name (change_type_refusal_by_answer answer f) none (sym (type_tells answer a f c) ∙ is))

-- ---- the buffer of a number

abbrev IsLateOf : CallView → ℕ → Name → State → Type 0
IsLateOf (SetMode mode) k name st = (name ≡ InvalidState) × IsInSegmentWhenEnded k st
IsLateOf (SetOffset t) k name st = (name ≡ InvalidState) × IsInSegmentWhenEnded k st
IsLateOf (SetWindowStart t) k name st = ⊥
IsLateOf (SetWindowEnd t) k name st = ⊥
IsLateOf (Remove start end) k name st = ⊥
IsLateOf (calls.Append input) k name st = name ≡ QuotaExceeded
IsLateOf Abort k name st = ⊥
IsLateOf (ChangeType answer) k name st = ⊥

in_segment : (k : ℕ) (name : Name) (st : State) (b : BufferState) → slice_get st.buffers k ≡ Some (Some b) → IsInSegment name (surroundings_in k (core_source st.source st.element)) b.feed → (name ≡ InvalidState) × IsInSegmentWhenEnded k st
in_segment k name st b at h = (
  h.named,
  record {
    ended = h.ended;
    phase = ap (λ (o : Option (Option BufferState)). option_map (λ x. phase_in x.feed) (option_flatten o)) at ∙ ap Some h.phase;
  },
)

late_of : (call : CallView) (k : ℕ) (name : Name) (st : State) (b : BufferState) → slice_get st.buffers k ≡ Some (Some b) → IsLateAt call name (surroundings_in k (core_source st.source st.element)) b.feed → IsLateOf call k name st
late_of (SetMode mode) k name st b at h = in_segment k name st b at h
late_of (SetOffset t) k name st b at h = in_segment k name st b at h
late_of (SetWindowStart t) k name st b at h = h
late_of (SetWindowEnd t) k name st b at h = h
late_of (Remove start end) k name st b at h = h
late_of (calls.Append input) k name st b at h = h
late_of Abort k name st b at h = h
late_of (ChangeType answer) k name st b at h = h

late_in : (call : CallView) (k : ℕ) (st : State) (name : Name) (o : Option (Option BufferState)) → slice_get st.buffers k ≡ o
    → refusal_by_slot o (refusal_in_slot call (surroundings_in k (core_source st.source st.element))) ≡ None
    → (result_by_slot o (call_in_slot call (surroundings_in k (core_source st.source st.element))) st.source.state.duration k st.buffers).reply.refused ≡ Some name
    → IsLateOf call k name st
late_in call k st name None at none is = absurd (cc)
late_in call k st name (Some None) at none is = absurd (cc)
late_in call k st name (Some (Some b)) at none is = let a = surroundings_in k (core_source st.source st.element) in late_of call k name st b at (late_at call a b.feed b.content name none is)

buffer_late : (k : ℕ) (call : CallView) (st : State) (name : Name) → buffer_refusal k call (core_of st) ≡ None → refused_or (buffer_effect k call (core_of st)).refused answer.Done ≡ answer.Refused name → IsLateOf call k name st
buffer_late k call st name none is = late_in call k st name (slice_get st.buffers k) refl none (answered (buffer_effect k call (core_of st)) name is)

-- ---- all calls

pub late-refusal : (blobs : List (List ℕ)) (x : Call) (st : State) (name : Name) → call_refusal blobs x st ≡ None → (after_call blobs x st).answer ≡ answer.Refused name → IsLateRefusal x name st
late-refusal blobs (call.SetMode k mode) st name none is = buffer_late k (SetMode mode) st name none is
late-refusal blobs (call.SetTimestampOffset k t) st name none is = buffer_late k (SetOffset t) st name none is
late-refusal blobs (call.AppendBuffer k piece) st name none is = buffer_late k (calls.Append (input_at st.element.player.position st.source.quota (bytes_of blobs piece))) st name none is
late-refusal blobs (call.SetAppendWindowStart k t) st name none is = buffer_late k (SetWindowStart t) st name none is
late-refusal blobs (call.SetAppendWindowEnd k t) st name none is = buffer_late k (SetWindowEnd t) st name none is
late-refusal blobs (call.Abort k) st name none is = buffer_late k Abort st name none is
late-refusal blobs (call.Remove k start end) st name none is = buffer_late k (Remove start end) st name none is
late-refusal blobs (call.ChangeType k text) st name none is = buffer_late k (ChangeType (type_of text)) st name none is
late-refusal blobs call.Attach st name none is = told_all (after_call blobs call.Attach st).answer name none is
late-refusal blobs (call.AddSourceBuffer text) st name none is = told_all (after_call blobs (call.AddSourceBuffer text) st).answer name none is
late-refusal blobs (call.RemoveSourceBuffer k) st name none is = told_all (after_call blobs (call.RemoveSourceBuffer k) st).answer name none is
late-refusal blobs (call.SetDuration d) st name none is = told_all (after_call blobs (call.SetDuration d) st).answer name none is
late-refusal blobs (call.EndOfStream end) st name none is = told_all (after_call blobs (call.EndOfStream end) st).answer name none is
late-refusal blobs (call.SetLiveSeekableRange start end) st name none is = told_all (after_call blobs (call.SetLiveSeekableRange start end) st).answer name none is
late-refusal blobs call.ClearLiveSeekableRange st name none is = told_all (after_call blobs call.ClearLiveSeekableRange st).answer name none is
late-refusal blobs (call.Buffered k) st name none is = told_all (after_call blobs (call.Buffered k) st).answer name none is
late-refusal blobs call.SourceState st name none is = told_all (after_call blobs call.SourceState st).answer name none is
late-refusal blobs (call.Seek t) st name none is = told_all (after_call blobs (call.Seek t) st).answer name none is
late-refusal blobs call.Play st name none is = told_all (after_call blobs call.Play st).answer name none is
late-refusal blobs call.Pause st name none is = told_all (after_call blobs call.Pause st).answer name none is
late-refusal blobs (call.Advance t) st name none is = told_all (after_call blobs (call.Advance t) st).answer name none is
late-refusal blobs call.ElementBuffered st name none is = told_all (after_call blobs call.ElementBuffered st).answer name none is
late-refusal blobs call.Seekable st name none is = told_all (after_call blobs call.Seekable st).answer name none is
