-- A change of type that is not refused.
use Rattle.std.proofs.Common.{◌≡◌, false}
use Rattle.std.specs.Prelude.{Result, Ok, Err, IfOk}
use Rattle.mse_types.specs.declared.answer.Container.{Container}
use Rattle.mse_types.specs.declared.answer.TypeAnswer.{TypeAnswer}
use Rattle.mse_types.specs.declared.answer.TypeAnswer.TheVariants.{Supported}
use Rattle.byte_stream.specs.Streams.{StreamView, ready_of}
use Rattle.track_buffers.specs.Media.{Media}
use Rattle.track_buffers.specs.Frames.{flush_result}
use Rattle.buffer_state.specs.declared.running.Running.{Running}
use Rattle.buffer_state.specs.declared.running.Running.TheVariants.{Nothing, Append, Removal}
use Rattle.buffer_state.specs.declared.reply.Reply.{Reply}
use Rattle.buffer_state.specs.State.{Feed, Content, Surroundings, kept_buffer, ready_in, is_updating}
use Rattle.buffer_state.specs.Replies.{CallResult, IsDone}
use Rattle.buffer_state.specs.Calls.{change_type_result_after_flush}
use Rattle.buffer_state.specs.AllCalls.{ChangeType, IsCallDone}

-- what takes the type
abbrev takes : Container → Surroundings → Feed → Content → CallResult
takes container a f c = change_type_result_after_flush container (flush_result (ready_in f) c.media a.duration) a

pub type-changes : {E : Type 0} (r : Running) (answer : TypeAnswer) (container : Container) (a : Surroundings) (s0 s2 : StreamView) (m0 m2 : Media) (result : Result Reply E) → is_updating r ≡ false → Supported container ≡ answer
    → IfOk result (λ reply. IsDone (takes container a) (ready_of s0) a.duration (kept_buffer s0 m0 Nothing) reply (kept_buffer s2 m2 Nothing))
    → IfOk result (λ reply. IsCallDone (ChangeType answer) a (kept_buffer s0 m0 r) reply (kept_buffer s2 m2 r))
type-changes r answer container a s0 s2 m0 m2 (Err e) idle is h = tt
type-changes Nothing answer container a s0 s2 m0 m2 (Ok reply) idle is h = record {
  answered = λ f c s. rw (← is, ← s.running) (h.answered f c s);
  within_duration = h.within_duration;
  changes = h.changes;
  unchanged = h.unchanged;
  no_fall = h.no_fall;
  no_init = h.no_init;
}
type-changes Append answer container a s0 s2 m0 m2 (Ok reply) idle is h = absurd cc
type-changes (Removal start end) answer container a s0 s2 m0 m2 (Ok reply) idle is h = absurd cc
