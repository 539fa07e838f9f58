-- A refused call that neither opened the source again nor evicted anything leaves a settled state.
use Rattle.std.proofs.Common.{◌≡◌, ◌∙◌, ℕ, Bool, true, false, List, [], ◌∷◌, refl, sym, ap}
use Rattle.std.specs.Prelude.{Some}
use Rattle.std.proofs.lemmas.List.{append-nil}
use Rattle.mse_base.specs.declared.ticks.Moment.{Moment}
use Rattle.mse_calls.specs.Pieces.{bytes_of}
use Rattle.mse_calls.specs.Ready.{is_ended}
use Rattle.mse_calls.specs.declared.answers.Answer.TheVariants as answer
use Rattle.mse_calls.specs.declared.answers.Name.{Name}
use Rattle.mse_calls.specs.declared.answers.Ready.{Ready}
use Rattle.mse_calls.specs.declared.answers.Ready.TheVariants.{Closed, Opened, Ended}
use Rattle.mse_calls.specs.declared.calls.Call.{Call}
use Rattle.mse_calls.specs.declared.calls.Call.TheVariants as call
use Rattle.mse_calls.specs.declared.events.Event.{Event}
use Rattle.mse_types.specs.Texts.{type_of}
use Rattle.buffer_state.specs.declared.reply.Reply.{Reply}
use Rattle.buffer_state.specs.State.{Surroundings}
use Rattle.buffer_state.specs.Replies.{refused_reply}
use Rattle.buffer_state.specs.AllCalls.{CallView, SetMode, SetOffset, SetWindowStart, SetWindowEnd, Remove, Append, Abort, ChangeType, input_at}
use Rattle.source_buffers.specs.Slots.{result_on_buffer}
use Rattle.media_element.specs.State.{ElementState}
use Rattle.mse_engine.specs.State.{State, core_of, core_source}
use Rattle.mse_engine.specs.Signals.{Tell, step}
use Rattle.mse_engine.specs.Replies.{call_events, ready_again, ready_after, source_after, surroundings_in}
use Rattle.mse_engine.specs.BufferCalls.{buffer_effect}
use Rattle.mse_engine.specs.Calls.{after_call, refused_or}
use Rattle.mse_engine.specs.Refusals.{refused_name}
use Rattle.mse_engine.specs.Settled.{IsNeitherOpenedNorEvicted, IsSettledState}
use Rattle.mse_engine.proofs.CallReplies.{IsCallReply, call-reply, call-stays}
use Rattle.mse_engine.proofs.AskedRefusals.{named}
use Rattle.mse_engine.proofs.RefusedCalls.{no_events, tells_refusal}
use Rattle.mse_engine.proofs.Settled.{settled-still}

-- an ended source that is ended still was not opened again
not_opened : (b : Bool) (ready : Ready) → (b ≡ true → is_ended ready ≡ true) → (is_ended ready ≡ true → is_ended (ready_again b ready) ≡ true) → b ≡ false
not_opened false ready h still = refl
not_opened true Closed h still = absurd (let wrong = h refl in cc)
not_opened true Opened h still = absurd (let wrong = h refl in cc)
not_opened true Ended h still = absurd (let wrong = still refl in cc)

refused_by : (r : Reply) (name : Name) → refused_or r.refused answer.Done ≡ answer.Refused name → r.refused ≡ Some name
refused_by r name is = sym (named r.refused answer.Done refl) ∙ ap refused_name is

buffer_stays : (k : ℕ) (x : CallView) (st : State) (name : Name) → IsSettledState st → refused_or (buffer_effect k x (core_of st)).refused answer.Done ≡ answer.Refused name
    → IsNeitherOpenedNorEvicted st (step (buffer_effect k x (core_of st)).core (buffer_effect k x (core_of st)).signals st.element)
    → step (buffer_effect k x (core_of st)).core (buffer_effect k x (core_of st)).signals st.element ≡ st
buffer_stays k x st name h is seen =
    let e : ElementState = st.element in
    let a : Surroundings = surroundings_in k (core_source st.source e) in
    let d : Moment = st.source.state.duration in
    let m = buffer_effect k x (core_of st) in
    let r : Reply = (result_on_buffer k x a st.buffers).reply in
    let plain : IsCallReply st.source.state.ready d r = call-reply k x a st.buffers in
    let refused : r.refused ≡ Some name = refused_by r name is in
    let told : r ≡ refused_reply name r.reopened d = plain.refused name refused in
    let ready : ready_after r st.source.state.ready ≡ ready_again r.reopened st.source.state.ready = ap (λ (y : Reply). ready_after y st.source.state.ready) told in
    let shut : r.reopened ≡ false = not_opened r.reopened st.source.state.ready plain.reopened (λ ended. ap is_ended (sym ready) ∙ seen.ended ended) in
    let quiet : r ≡ refused_reply name false d = told ∙ ap (λ (b : Bool). refused_reply name b d) shut in
    let buffers : (result_on_buffer k x a st.buffers).buffers ≡ st.buffers = call-stays k x a st.buffers name refused seen.frames in
    let core : m.core ≡ core_of st = λ i. record { source = source_after k (quiet i) (core_source st.source e); buffers = buffers i } in
    let events : call_events k x r ≡ [] = ap (call_events k x) quiet ∙ no_events k x name d in
    let one : step m.core m.signals e ≡ step (core_of st) (Tell [] ∷ []) e = λ i. step (core i) (Tell (events i) ∷ []) e in
    let none : step (core_of st) (Tell [] ∷ []) e ≡ step (core_of st) [] e = ap (λ (q : List Event). step (core_of st) [] (record { player = e.player; queue = q })) (append-nil e.queue) in
    one ∙ (none ∙ settled-still st h)

pub settled-refused : (blobs : List (List ℕ)) (x : Call) (st : State) (name : Name) → IsSettledState st → (after_call blobs x st).answer ≡ answer.Refused name
    → IsNeitherOpenedNorEvicted st (after_call blobs x st).state → (after_call blobs x st).state ≡ st
settled-refused blobs (call.SetMode k mode) st name h is seen = buffer_stays k (SetMode mode) st name h is seen
settled-refused blobs (call.SetTimestampOffset k t) st name h is seen = buffer_stays k (SetOffset t) st name h is seen
settled-refused blobs (call.SetAppendWindowStart k t) st name h is seen = buffer_stays k (SetWindowStart t) st name h is seen
settled-refused blobs (call.SetAppendWindowEnd k t) st name h is seen = buffer_stays k (SetWindowEnd t) st name h is seen
settled-refused blobs (call.AppendBuffer k piece) st name h is seen = buffer_stays k (Append (input_at st.element.player.position st.source.quota (bytes_of blobs piece))) st name h is seen
settled-refused blobs (call.Abort k) st name h is seen = buffer_stays k Abort st name h is seen
settled-refused blobs (call.Remove k start end) st name h is seen = buffer_stays k (Remove start end) st name h is seen
settled-refused blobs (call.ChangeType k text) st name h is seen = buffer_stays k (ChangeType (type_of text)) st name h is seen
settled-refused blobs call.Attach st name h is seen = (tells_refusal blobs call.Attach st name (ap refused_name is)).stays ∙ settled-still st h
settled-refused blobs (call.AddSourceBuffer text) st name h is seen = (tells_refusal blobs (call.AddSourceBuffer text) st name (ap refused_name is)).stays ∙ settled-still st h
settled-refused blobs (call.RemoveSourceBuffer k) st name h is seen = (tells_refusal blobs (call.RemoveSourceBuffer k) st name (ap refused_name is)).stays ∙ settled-still st h
settled-refused blobs (call.SetDuration d) st name h is seen = (tells_refusal blobs (call.SetDuration d) st name (ap refused_name is)).stays ∙ settled-still st h
settled-refused blobs (call.EndOfStream end) st name h is seen = (tells_refusal blobs (call.EndOfStream end) st name (ap refused_name is)).stays ∙ settled-still st h
settled-refused blobs (call.SetLiveSeekableRange start end) st name h is seen = (tells_refusal blobs (call.SetLiveSeekableRange start end) st name (ap refused_name is)).stays ∙ settled-still st h
settled-refused blobs call.ClearLiveSeekableRange st name h is seen = (tells_refusal blobs call.ClearLiveSeekableRange st name (ap refused_name is)).stays ∙ settled-still st h
settled-refused blobs (call.Buffered k) st name h is seen = (tells_refusal blobs (call.Buffered k) st name (ap refused_name is)).stays ∙ settled-still st h
settled-refused blobs call.SourceState st name h is seen = (tells_refusal blobs call.SourceState st name (ap refused_name is)).stays ∙ settled-still st h
settled-refused blobs (call.Seek t) st name h is seen = (tells_refusal blobs (call.Seek t) st name (ap refused_name is)).stays ∙ settled-still st h
settled-refused blobs call.Play st name h is seen = (tells_refusal blobs call.Play st name (ap refused_name is)).stays ∙ settled-still st h
settled-refused blobs call.Pause st name h is seen = (tells_refusal blobs call.Pause st name (ap refused_name is)).stays ∙ settled-still st h
settled-refused blobs (call.Advance t) st name h is seen = (tells_refusal blobs (call.Advance t) st name (ap refused_name is)).stays ∙ settled-still st h
settled-refused blobs call.ElementBuffered st name h is seen = (tells_refusal blobs call.ElementBuffered st name (ap refused_name is)).stays ∙ settled-still st h
settled-refused blobs call.Seekable st name h is seen = (tells_refusal blobs call.Seekable st name (ap refused_name is)).stays ∙ settled-still st h
