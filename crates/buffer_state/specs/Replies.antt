-- What a call or a turn answers, and the state behind it.
use Rattle.std.specs.Prelude.{◌≡◌, ℕ, ◌≤◌, Bool, true, false, List, [], ◌∷◌, Option, Some, None, Result, Ok, Err, IfOk, if◌then◌else◌}
use Rattle.mse_base.specs.declared.ticks.Moment.{Moment}
use Rattle.mse_base.specs.Moments.{IsNotAfter}
use Rattle.mse_calls.specs.declared.answers.Name.{Name}
use Rattle.mse_calls.specs.declared.events.EventKind.{EventKind}
use Rattle.mse_calls.specs.declared.events.EventKind.TheVariants.{Error, UpdateEnd}
use Rattle.mse_calls.specs.declared.views.FaultView.{FaultView}
use Rattle.track_buffers.specs.declared.effects.SourceEffect.{SourceEffect}
use Rattle.track_buffers.specs.Media.{Media, AreEndedWithin, no_effect}
use Rattle.track_buffers.specs.Buffered.{buffered_of}
use Rattle.buffer_state.specs.declared.reply.Reply.{Reply}
use Rattle.buffer_state.specs.declared.reply.Turned.{Turned}
use Rattle.buffer_state.specs.declared.reply.Turned.TheVariants.{Did, Quiet, Idle}
use Rattle.buffer_state.specs.State.{Feed, Content, Surroundings, KeptBuffer, Stands}

pub record CallResult : Type 0 where
  pub reply : Reply
  pub feed : Feed
  pub content : Content

-- ---- replies

-- a refusal by a name; nothing comes of the call but that the source was opened again before it
abbrev pub refused_reply : Name → Bool → Moment → Reply
refused_reply name reopened duration = record {
  refused = Some name;
  reopened = reopened;
  duration_changes = 0;
  duration = duration;
  activated = false;
  received_init = false;
  fault = None;
  events = [];
}

-- the name of a refusal behind which nothing came: the source was not opened again before it
abbrev pub early_refusal : Reply → Option Name
early_refusal reply = if reply.reopened then None else reply.refused

-- what comes of a call or a turn at the source, and the events at the buffer
abbrev pub effect_reply : Bool → SourceEffect → List EventKind → Reply
effect_reply reopened e events = record {
  refused = None;
  reopened = reopened;
  duration_changes = e.duration_changes;
  duration = e.duration;
  activated = e.activated;
  received_init = e.received_init;
  fault = None;
  events = events;
}

-- events at the buffer alone
abbrev pub event_reply : Bool → Moment → List EventKind → Reply
event_reply reopened duration events = effect_reply reopened (no_effect duration) events

-- nothing at all, where the duration is this
abbrev pub quiet_reply : Moment → Reply
quiet_reply duration = event_reply false duration []

-- an append error (3.5.3): its events at the buffer, and the end of the source with a decode error
abbrev pub error_reply : FaultView → SourceEffect → Reply
error_reply fault e = record (effect_reply false e (Error ∷ UpdateEnd ∷ [])) { fault = Some fault }

abbrev pub refused_result : Name → Bool → Surroundings → Feed → Content → CallResult
refused_result name reopened a f c = record {
  reply = refused_reply name reopened a.duration;
  feed = f;
  content = c;
}

abbrev pub result_with : Reply → Feed → Content → CallResult
result_with reply f c = record { reply = reply; feed = f; content = c }

-- ---- the code and this

-- the reply is the one that is meant, and what is kept stands for the state that is meant
pub record IsResult (reply : Reply) (k : KeptBuffer) (result : CallResult) : Type 0 where
  pub replies : reply ≡ result.reply
  pub stands : Stands k result.feed result.content

-- a call answers a reply and leaves what is kept, for every feed and content that was stood for
abbrev pub IsBufferAnswer : KeptBuffer → Reply → KeptBuffer → (Feed → Content → CallResult) → Type 0
IsBufferAnswer old reply new call =
    (f : Feed) (c : Content) → Stands old f c → IsResult reply new (call f c)

-- the same of a call that answers one where there is memory
abbrev pub IsBufferAnswerIfOk : {E : Type 0} → KeptBuffer → Result Reply E → KeptBuffer
    → (Feed → Content → CallResult) → Type 0
IsBufferAnswerIfOk old result new call =
    (f : Feed) (c : Content) → Stands old f c → IfOk result (λ reply. IsResult reply new (call f c))

-- where each stored frame ended within the duration, each does so within the duration that is replied
abbrev pub IsStillWithin : Moment → Media → Reply → Media → Type 0
IsStillWithin duration old reply new =
    AreEndedWithin duration old.tracks → AreEndedWithin reply.duration new.tracks

-- A call is done that changes the duration at most so often: it answered what is meant, the duration did not fall, and
-- no initialization segment was received. All but the first is also told where no feed and content are named.
pub record IsDone (meant : Feed → Content → CallResult) (most : ℕ) (duration : Moment)
    (old : KeptBuffer) (reply : Reply) (new : KeptBuffer) : Type 0 where
  pub answered : IsBufferAnswer old reply new meant
  pub within_duration : IsStillWithin duration old.media reply new.media
  pub changes : reply.duration_changes ≤ most
  pub unchanged : most ≡ 0 → reply.duration ≡ duration
  pub no_fall : IsNotAfter duration reply.duration
  pub no_init : reply.received_init ≡ false

-- where an initialization segment was received, the buffered ranges are as before; there are none where it was the first
abbrev pub HasRangesAfterInit : Media → Reply → Media → Type 0
HasRangesAfterInit old reply new =
    reply.received_init ≡ true → (ended : Bool)
    → buffered_of ended new ≡ (if reply.activated then [] else buffered_of ended old)

-- ---- turns

-- the reply that a turn stands for, if something ran: the one that is there behind it, or, where it made none, the quiet
-- one of the duration before it
abbrev pub reply_of : Moment → Reply → Turned → Option Reply
reply_of duration reply Did = Some reply
reply_of duration reply Quiet = Some (quiet_reply duration)
reply_of duration reply Idle = None

-- a turn that made no reply left the one that was there
abbrev pub IsReplyKeptUnlessDid : {E : Type 0} → Result Turned E → Reply → Reply → Type 0
IsReplyKeptUnlessDid (Ok Did) old new = Unit {0}
IsReplyKeptUnlessDid (Ok Quiet) old new = new ≡ old
IsReplyKeptUnlessDid (Ok Idle) old new = new ≡ old
IsReplyKeptUnlessDid (Err e) old new = new ≡ old

-- something ran, or nothing did
abbrev pub IsTurnResult : Option Reply → KeptBuffer → Option CallResult → Type 0
IsTurnResult (Some reply) k None = ⊥
IsTurnResult (Some reply) k (Some result) = IsResult reply k result
IsTurnResult None k None = Unit {0}
IsTurnResult None k (Some result) = ⊥

-- the same of a turn, for every feed and content that was stood for, where there is memory; the moment is the duration
-- before it, and the reply the one that is there behind it
abbrev pub IsTurnIfOk : {E : Type 0} → Moment → Reply → KeptBuffer → Result Turned E → KeptBuffer
    → (Feed → Content → Option CallResult) → Type 0
IsTurnIfOk duration reply old result new turn =
    (f : Feed) (c : Content) → Stands old f c
    → IfOk result (λ turned. IsTurnResult (reply_of duration reply turned) new (turn f c))

-- how often the duration changed in a turn
abbrev pub changes_of : Option Reply → ℕ
changes_of (Some reply) = reply.duration_changes
changes_of None = 0
