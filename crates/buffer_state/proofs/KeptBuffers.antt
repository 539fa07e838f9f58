-- What is kept stands for: only the string is told by a relation, all else is equal.
use Rattle.std.proofs.Common.{subst}
use Rattle.std.specs.Prelude.{Option}
use Rattle.mse_base.specs.declared.track.Presentation.{Presentation}
use Rattle.byte_stream.specs.Readings.{Reading}
use Rattle.byte_stream.specs.Streams.{StreamView, latest_of}
use Rattle.byte_stream.specs.Streams as byte_stream
use Rattle.track_buffers.specs.Media.{Media}
use Rattle.buffer_state.specs.declared.running.Running.{Running}
use Rattle.buffer_state.specs.declared.reply.Reply.{Reply}
use Rattle.buffer_state.specs.State.{Feed, Content, KeptBuffer, Stands}
use Rattle.buffer_state.specs.Replies.{CallResult, IsBufferAnswer, IsResult}

-- the feed of a reading, with what runs
abbrev pub feed_at : Reading → Running → Feed
feed_at r running = record { reading = r; running = running }

-- the content that is kept
abbrev pub content_of : Media → StreamView → Content
content_of media stream = record { media = media; latest = latest_of stream }

-- what holds of each feed with what runs, and of the content that is kept, holds of all that is stood for
pub by_kept : (k : KeptBuffer) (P : Feed → Content → Type 0) → byte_stream.ForEachReading k.stream (λ r. P (feed_at r k.running) (content_of k.media k.stream)) → (f : Feed) (c : Content) → Stands k f c → P f c
by_kept k P go f c s =
    let first : P (feed_at f.reading k.running) (content_of k.media k.stream) = go f.reading s.stream in
    let second : P (feed_at f.reading f.running) (content_of k.media k.stream) = subst (λ (x : Running). P (feed_at f.reading x) (content_of k.media k.stream)) s.running first in
    let third : P (feed_at f.reading f.running) (record { media = c.media; latest = latest_of k.stream }) = subst (λ (m : Media). P (feed_at f.reading f.running) (record { media = m; latest = latest_of k.stream })) s.media second in
    subst (λ (p : Option Presentation). P (feed_at f.reading f.running) (record { media = c.media; latest = p })) s.latest third

-- the same of an answer
pub answers : (old : KeptBuffer) (reply : Reply) (new : KeptBuffer) (call : Feed → Content → CallResult) → byte_stream.ForEachReading old.stream (λ r. IsResult reply new (call (feed_at r old.running) (content_of old.media old.stream))) → IsBufferAnswer old reply new call
answers old reply new call go = by_kept old (λ f c. IsResult reply new (call f c)) go
