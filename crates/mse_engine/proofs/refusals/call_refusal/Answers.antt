use Rattle.std.proofs.Common.{◌≡◌, ◌∙◌, ℕ, List, [], ◌∷◌, refl, sym, ap, subst}
use Rattle.mse_calls.specs.declared.calls.Call.{Call}
use Rattle.mse_calls.specs.declared.calls.Call.TheVariants as call
use Rattle.mse_calls.specs.declared.events.EventKind.TheVariants as kind
use Rattle.mse_calls.specs.declared.events.Target.TheVariants as target
use Rattle.source_state.specs.Calls.{after_attach, after_clear_live}
use Rattle.media_element.specs.Queueing.{event_at}
use Rattle.mse_engine.specs.State.{core_of}
use Rattle.mse_engine.specs.Scenes.{core_view}
use Rattle.mse_engine.specs.Signals.{Tell}
use Rattle.mse_engine.specs.SourceCalls.{add_effect, attach_effect, clear_live_effect, end_effect, remove_effect, set_duration_effect, set_live_effect}
use Rattle.mse_engine.specs.Calls.{advance_effect, play_effect, read_answer, read_effect, seek_effect}
use Rattle.mse_engine.specs.Refusals.{call_refusal}
use Rattle.mse_engine.specs.Standing.{kept_engine}
use Rattle.mse_types.specs.Texts.{type_of}
use Rattle.buffer_state.specs.AllCalls.{ChangeType}
use Rattle.mse_engine.specs.Refusals.{buffer_refusal}
use Rattle.mse_engine.proofs.AskedRefusals.{by_effect, end_name, named, plain_name, play_name, removal_name, same_state, set_duration_name}
use Rattle.mse_engine.proofs.refusals.call_refusal.Goals as goal

pub returns-in-Attach : goal.returns-in-Attach
returns-in-Attach g c st h = subst (λ (x : Call). c.attach_refusal.result ≡ call_refusal c.args.blobs.now x st) (sym c.in-Attach.is) (by_effect c.attach_refusal.result (attach_effect (core_of st)).refused (c.attach_refusal.ensures ∙ plain_name after_attach c.args.source.now.state (Tell (event_at target.Source kind.SourceOpen ∷ []) ∷ []) (core_of st) (same_state (kept_engine c.args.source.now c.args.buffers.now.buffers c.args.element.now.state) st h)))

pub returns-in-AddSourceBuffer : goal.returns-in-AddSourceBuffer
returns-in-AddSourceBuffer g c st h = subst (λ (x : Call). c.add_refusal.result ≡ call_refusal c.args.blobs.now x st) (sym c.in-AddSourceBuffer.is) (by_effect c.add_refusal.result (add_effect c.in-AddSourceBuffer.text (core_of st)).refused (c.add_refusal.ensures (core_of st) (same_state (kept_engine c.args.source.now c.args.buffers.now.buffers c.args.element.now.state) st h) ∙ ap (λ (text : List ℕ). (add_effect text (core_of st)).refused) c.as_str.ensures))

pub returns-in-RemoveSourceBuffer : goal.returns-in-RemoveSourceBuffer
returns-in-RemoveSourceBuffer g c st h = subst (λ (x : Call). c.removal_refusal.result ≡ call_refusal c.args.blobs.now x st) (sym c.in-RemoveSourceBuffer.is) (by_effect c.removal_refusal.result (remove_effect c.in-RemoveSourceBuffer.k (core_of st)).refused (c.removal_refusal.ensures ∙ removal_name c.in-RemoveSourceBuffer.k (kept_engine c.args.source.now c.args.buffers.now.buffers c.args.element.now.state) st h))

pub returns-in-SetDuration : goal.returns-in-SetDuration
returns-in-SetDuration g c st h = subst (λ (x : Call). c.duration_refusal.result ≡ call_refusal c.args.blobs.now x st) (sym c.in-SetDuration.is) (by_effect c.duration_refusal.result (set_duration_effect c.in-SetDuration.d (core_of st)).refused (c.duration_refusal.ensures ∙ set_duration_name c.in-SetDuration.d (kept_engine c.args.source.now c.args.buffers.now.buffers c.args.element.now.state) st h))

pub returns-in-EndOfStream : goal.returns-in-EndOfStream
returns-in-EndOfStream g c st h = subst (λ (x : Call). c.end_refusal.result ≡ call_refusal c.args.blobs.now x st) (sym c.in-EndOfStream.is) (by_effect c.end_refusal.result (end_effect c.in-EndOfStream.field-0 (core_of st)).refused (c.end_refusal.ensures ∙ end_name c.in-EndOfStream.field-0 (kept_engine c.args.source.now c.args.buffers.now.buffers c.args.element.now.state) st h))

pub returns-in-SetLiveSeekableRange : goal.returns-in-SetLiveSeekableRange
returns-in-SetLiveSeekableRange g c st h = subst (λ (x : Call). c.set_live_refusal.result ≡ call_refusal c.args.blobs.now x st) (sym c.in-SetLiveSeekableRange.is) (by_effect c.set_live_refusal.result (set_live_effect c.in-SetLiveSeekableRange.start c.in-SetLiveSeekableRange.end (core_of st)).refused (c.set_live_refusal.ensures (core_of st) (same_state (kept_engine c.args.source.now c.args.buffers.now.buffers c.args.element.now.state) st h)))

pub returns-in-ClearLiveSeekableRange : goal.returns-in-ClearLiveSeekableRange
returns-in-ClearLiveSeekableRange g c st h = subst (λ (x : Call). c.clear_live_refusal.result ≡ call_refusal c.args.blobs.now x st) (sym c.in-ClearLiveSeekableRange.is) (by_effect c.clear_live_refusal.result (clear_live_effect (core_of st)).refused (c.clear_live_refusal.ensures ∙ plain_name after_clear_live c.args.source.now.state [] (core_of st) (same_state (kept_engine c.args.source.now c.args.buffers.now.buffers c.args.element.now.state) st h)))

pub returns-in-SetMode : goal.returns-in-SetMode
returns-in-SetMode g c st h = subst (λ (x : Call). c.buffer_refusal.result ≡ call_refusal c.args.blobs.now x st) (sym c.in-SetMode.is) (c.buffer_refusal.ensures st h)

pub returns-in-SetTimestampOffset : goal.returns-in-SetTimestampOffset
returns-in-SetTimestampOffset g c st h = subst (λ (x : Call). c.buffer_refusal-in-SetTimestampOffset.result ≡ call_refusal c.args.blobs.now x st) (sym c.in-SetTimestampOffset.is) (c.buffer_refusal-in-SetTimestampOffset.ensures st h)

pub returns-in-SetAppendWindowStart : goal.returns-in-SetAppendWindowStart
returns-in-SetAppendWindowStart g c st h = subst (λ (x : Call). c.buffer_refusal-in-SetAppendWindowStart.result ≡ call_refusal c.args.blobs.now x st) (sym c.in-SetAppendWindowStart.is) (c.buffer_refusal-in-SetAppendWindowStart.ensures st h)

pub returns-in-SetAppendWindowEnd : goal.returns-in-SetAppendWindowEnd
returns-in-SetAppendWindowEnd g c st h = subst (λ (x : Call). c.buffer_refusal-in-SetAppendWindowEnd.result ≡ call_refusal c.args.blobs.now x st) (sym c.in-SetAppendWindowEnd.is) (c.buffer_refusal-in-SetAppendWindowEnd.ensures st h)

pub returns-in-AppendBuffer : goal.returns-in-AppendBuffer
returns-in-AppendBuffer g c st h = subst (λ (x : Call). c.append_refusal.result ≡ call_refusal c.args.blobs.now x st) (sym c.in-AppendBuffer.is) (c.append_refusal.ensures st h)

pub returns-in-Abort : goal.returns-in-Abort
returns-in-Abort g c st h = subst (λ (x : Call). c.buffer_refusal-in-Abort.result ≡ call_refusal c.args.blobs.now x st) (sym c.in-Abort.is) (c.buffer_refusal-in-Abort.ensures st h)

pub returns-in-Remove : goal.returns-in-Remove
returns-in-Remove g c st h = subst (λ (x : Call). c.buffer_refusal-in-Remove.result ≡ call_refusal c.args.blobs.now x st) (sym c.in-Remove.is) (c.buffer_refusal-in-Remove.ensures st h)

pub returns-in-ChangeType : goal.returns-in-ChangeType
returns-in-ChangeType g c st h = subst (λ (x : Call). c.buffer_refusal-in-ChangeType.result ≡ call_refusal c.args.blobs.now x st) (sym c.in-ChangeType.is) (c.buffer_refusal-in-ChangeType.ensures st h ∙ (λ i. buffer_refusal c.in-ChangeType.k (ChangeType ((c.read_type.ensures.value ∙ ap type_of c.as_str-in-ChangeType.ensures) i)) (core_of st)))

pub returns-in-Buffered : goal.returns-in-Buffered
returns-in-Buffered g c st h = subst (λ (x : Call). c.read_refusal.result ≡ call_refusal c.args.blobs.now x st) (sym c.in-Buffered.is) (c.read_refusal.ensures (core_of st) h.buffers ∙ sym (named (read_effect c.in-Buffered.k (core_of st)).refused (read_answer st (call.Buffered c.in-Buffered.k)) refl))

pub returns-in-Seek : goal.returns-in-Seek
returns-in-Seek g c st h = subst (λ (x : Call). c.seek_refusal.result ≡ call_refusal c.args.blobs.now x st) (sym c.in-Seek.is) (by_effect c.seek_refusal.result (seek_effect c.in-Seek.t (core_view (core_of st)) st.element).answer (c.seek_refusal.ensures (core_view (core_of st)) st.element))

pub returns-in-Play : goal.returns-in-Play
returns-in-Play g c st h = subst (λ (x : Call). c.play_refusal.result ≡ call_refusal c.args.blobs.now x st) (sym c.in-Play.is) (by_effect c.play_refusal.result (play_effect (core_view (core_of st)) st.element).answer (c.play_refusal.ensures ∙ play_name (kept_engine c.args.source.now c.args.buffers.now.buffers c.args.element.now.state) st h))

pub returns-in-Advance : goal.returns-in-Advance
returns-in-Advance g c st h = subst (λ (x : Call). c.advance_refusal.result ≡ call_refusal c.args.blobs.now x st) (sym c.in-Advance.is) (by_effect c.advance_refusal.result (advance_effect c.in-Advance.t (core_view (core_of st)) st.element).answer (c.advance_refusal.ensures (core_view (core_of st)) st.element))
