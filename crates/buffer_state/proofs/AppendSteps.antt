-- One step of an append, put together of its parts.
use Rattle.std.proofs.Common.{◌≡◌, ◌∙◌, ℕ, true, refl, ap, sym, subst}
use Rattle.std.specs.Prelude.{Option, Some, None, is_some}
use Rattle.mse_base.specs.declared.track.Presentation.{Presentation}
use Rattle.parser_loop.specs.Items.{InitItem, FrameItem, latest_after_any}
use Rattle.byte_stream.specs.Readings.{ByteItem, after_answer}
use Rattle.byte_stream.specs.Readings as reading
use Rattle.byte_stream.specs.Streams.{StreamView, latest_of}
use Rattle.byte_stream.specs.Streams as byte_stream
use Rattle.mse_base.specs.declared.frame.CodedFrame.{CodedFrame}
use Rattle.mse_base.specs.declared.ticks.Moment.{Moment}
use Rattle.track_buffers.specs.declared.effects.MediaFault.{MediaFault}
use Rattle.track_buffers.specs.declared.effects.SourceEffect.{SourceEffect}
use Rattle.track_buffers.specs.declared.effects.MediaEffect.{MediaEffect}
use Rattle.track_buffers.specs.declared.effects.MediaEffect.TheVariants as effects
use Rattle.track_buffers.specs.Media.{Media, MediaResult}
use Rattle.track_buffers.specs.Media as media
use Rattle.track_buffers.specs.Effects.{media_result}
use Rattle.track_buffers.specs.Initialized.{init_fault, init_result, init_result_of, segment_effect}
use Rattle.track_buffers.specs.Frames.{frame_result}
use Rattle.buffer_state.specs.declared.faults.Fault.TheVariants as Fault
use Rattle.buffer_state.specs.declared.running.Running.{Running}
use Rattle.buffer_state.specs.declared.reply.Reply.{Reply}
use Rattle.buffer_state.specs.declared.turns.ItemEffect.{ItemEffect}
use Rattle.buffer_state.specs.declared.turns.ItemEffect.TheVariants as step
use Rattle.buffer_state.specs.State.{Feed, Content, Surroundings, kept_buffer, Stands, feed_after, next_item}
use Rattle.buffer_state.specs.Replies.{CallResult, IsBufferAnswer, IsResult}
use Rattle.buffer_state.specs.Turns.{ItemResult, Done, AppendError, media_item_result, item_result, item_turn_result, append_turn_result}
use Rattle.buffer_state.specs.Steps.{Took, step_result, step_of_item, step_turn, content_at, IsItemRefused}
use Rattle.buffer_state.proofs.KeptBuffers.{answers, feed_at, content_of}

-- a step that did what the item does answers what a turn with the item does
pub step-turns : (oi : Option ByteItem) (st : ItemEffect) (c d : Content) (a : Surroundings) (f : Feed) → step_result st d ≡ step_of_item oi c a.duration → step_turn st a (feed_after oi f) d ≡ append_turn_result oi a f c
step-turns None step.NoItem c d a f e = let same : d ≡ c = cc in ap (λ (x : Content). append_turn_result None a f x) same
step-turns None (step.Done b) c d a f e = absurd (cc)
step-turns None (step.AppendError fault at b) c d a f e = absurd (cc)
step-turns (Some item) step.NoItem c d a f e = absurd (cc)
step-turns (Some item) (step.Done b) c d a f e = let same : Done d b ≡ item_result item c a.duration = cc in ap (λ (t : ItemResult). item_turn_result item t a f) same
step-turns (Some item) (step.AppendError fault at b) c d a f e = let same : AppendError fault at d b ≡ item_result item c a.duration = cc in ap (λ (t : ItemResult). item_turn_result item t a f) same

-- behind the item that was given
pub stands-given : (oi : Option ByteItem) (stream : StreamView) (media : Media) (running : Running) (f : Feed) (c : Content) → byte_stream.Stands stream (after_answer oi f.reading) → media ≡ c.media → latest_of stream ≡ c.latest → running ≡ f.running → Stands (kept_buffer stream media running) (feed_after oi f) c
stands-given None stream media running f c s m l r = record { stream = s; media = m; latest = l; running = r }
stands-given (Some item) stream media running f c s m l r = record { stream = s; media = m; latest = l; running = r }

abbrev pub IsNextOfStream : StreamView → Option ByteItem → Type 0
IsNextOfStream s oi = byte_stream.ForEachReading s (λ r. oi ≡ reading.next_item r)

abbrev pub IsStreamAfter : StreamView → Option ByteItem → StreamView → Type 0
IsStreamAfter s oi t = byte_stream.StandsAfter s (after_answer oi) t

pub append-turns : (s0 s1 s2 : StreamView) (m0 m1 m2 : Media) (r0 r2 : Running) (oi : Option ByteItem) (st : ItemEffect) (reply : Reply) (a : Surroundings) → IsNextOfStream s0 oi → IsStreamAfter s0 oi s1 → latest_of s1 ≡ latest_after_any (latest_of s0) oi
    → ((latest : Option Presentation) → step_result st (record { media = m1; latest = latest_after_any latest oi }) ≡ step_of_item oi (record { media = m0; latest = latest }) a.duration)
    → IsBufferAnswer (kept_buffer s1 m1 r0) reply (kept_buffer s2 m2 r2) (step_turn st a)
    → IsBufferAnswer (kept_buffer s0 m0 r0) reply (kept_buffer s2 m2 r2) (λ f c. append_turn_result (next_item f) a f c)
append-turns s0 s1 s2 m0 m1 m2 r0 r2 oi st reply a gives goes last does done =
    answers (kept_buffer s0 m0 r0) reply (kept_buffer s2 m2 r2) (λ f c. append_turn_result (next_item f) a f c) (λ r s.
    let f : Feed = feed_at r r0 in
    let c : Content = content_of m0 s0 in
    let d : Content = record { media = m1; latest = latest_after_any (latest_of s0) oi } in
    let there : Stands (kept_buffer s1 m1 r0) (feed_after oi f) d = stands-given oi s1 m1 r0 f d (goes r s) refl last refl in
    let is : step_turn st a (feed_after oi f) d ≡ append_turn_result oi a f c = step-turns oi st c d a f (does (latest_of s0)) in
    let read : append_turn_result oi a f c ≡ append_turn_result (next_item f) a f c = ap (λ (o : Option ByteItem). append_turn_result o a f c) (gives r s) in
    subst (λ (x : CallResult). IsResult reply (kept_buffer s2 m2 r2) x) (is ∙ read) (done (feed_after oi f) d there))

-- ---- an item that is refused

-- what comes of it does not depend on whether it was given
error-given : (st : ItemEffect) (o : Option ByteItem) (m : Media) (d : Moment) (a : Surroundings) (f : Feed) (c : Content) → IsItemRefused st o m d → step_turn st a f c ≡ step_turn st a (feed_after o f) c
error-given step.NoItem o m d a f c h = absurd h
error-given (step.Done e) o m d a f c h = absurd h
error-given (step.AppendError fault at e) None m d a f c h = refl
error-given (step.AppendError fault at e) (Some item) m d a f c h = refl

refused-stepped : (st : ItemEffect) (o : Option ByteItem) (m : Media) (d : Moment) (latest : Option Presentation) → IsItemRefused st o m d → step_result st (record { media = m; latest = latest }) ≡ step_of_item o (record { media = m; latest = latest }) d
refused-stepped step.NoItem o m d latest h = absurd h
refused-stepped (step.Done e) o m d latest h = absurd h
refused-stepped (step.AppendError fault at e) o m d latest h = sym (h latest)

pub refusal-turns : (s0 s2 : StreamView) (m0 m2 : Media) (r0 r2 : Running) (st : ItemEffect) (reply : Reply) (a : Surroundings)
    → byte_stream.ForEachReading s0 (λ r. IsItemRefused st (reading.next_item r) m0 a.duration)
    → IsBufferAnswer (kept_buffer s0 m0 r0) reply (kept_buffer s2 m2 r2) (step_turn st a)
    → IsBufferAnswer (kept_buffer s0 m0 r0) reply (kept_buffer s2 m2 r2) (λ f c. append_turn_result (next_item f) a f c)
refusal-turns s0 s2 m0 m2 r0 r2 st reply a refused done =
    answers (kept_buffer s0 m0 r0) reply (kept_buffer s2 m2 r2) (λ f c. append_turn_result (next_item f) a f c) (λ r s.
    let f : Feed = feed_at r r0 in
    let c : Content = content_of m0 s0 in
    let no : IsItemRefused st (next_item f) m0 a.duration = refused r s in
    let there : Stands (kept_buffer s0 m0 r0) f c = record { stream = s; media = refl; latest = refl; running = refl } in
    let is : step_turn st a (feed_after (next_item f) f) c ≡ append_turn_result (next_item f) a f c = step-turns (next_item f) st c c a f (refused-stepped st (next_item f) m0 a.duration (latest_of s0) no) in
    subst (λ (x : CallResult). IsResult reply (kept_buffer s2 m2 r2) x) (error-given st (next_item f) m0 a.duration a f c no ∙ is) (done f c there))

-- ---- what an item does to the media

-- a segment that is not refused
pub accepted-step : (st : ItemEffect) (e : MediaEffect) (p : Presentation) (at : ℕ) (m0 m1 : Media) (latest : Option Presentation) (d : Moment) → init_fault p m0 ≡ None → media_result e m1 ≡ init_result p m0 d
    → step_result st (content_at m1 (Some p) (record { media = m0; latest = latest }) e) ≡ Took (media_item_result (media_result e m1) at (Some p) (record { media = m0; latest = latest }))
    → step_result st (record { media = m1; latest = Some p }) ≡ Took (item_result (InitItem p at) (record { media = m0; latest = latest }) d)
accepted-step st (effects.Done e) p at m0 m1 latest d none is h = h ∙ ap (λ (r : MediaResult). Took (media_item_result r at (Some p) (record { media = m0; latest = latest }))) is
accepted-step st (effects.AppendError fault e) p at m0 m1 latest d none is h =
    let no = is ∙ ap (λ (o : Option MediaFault). init_result_of o p m0 (segment_effect p d)) none in
    absurd cc

-- a frame
pub frame-step : (st : ItemEffect) (e : MediaEffect) (f : CodedFrame) (at : ℕ) (m0 m1 : Media) (latest : Option Presentation) (d : Moment) → media_result e m1 ≡ frame_result f m0 d
    → step_result st (content_at m1 latest (record { media = m0; latest = latest }) e) ≡ Took (media_item_result (media_result e m1) at latest (record { media = m0; latest = latest }))
    → step_result st (record { media = m1; latest = latest }) ≡ Took (item_result (FrameItem f at) (record { media = m0; latest = latest }) d)
frame-step st (effects.Done e) f at m0 m1 latest d is h = h ∙ ap (λ (r : MediaResult). Took (media_item_result r at latest (record { media = m0; latest = latest }))) is
frame-step st (effects.AppendError fault e) f at m0 m1 latest d is h = h ∙ ap (λ (r : MediaResult). Took (media_item_result r at latest (record { media = m0; latest = latest }))) is

-- a frame that breaks the byte stream
pub frame-breaks : (s0 s1 s2 : StreamView) (m0 m1 m2 : Media) (r0 r2 : Running) (f : CodedFrame) (at : ℕ) (fault : MediaFault) (e : SourceEffect) (reply : Reply) (a : Surroundings) → IsNextOfStream s0 (Some (FrameItem f at)) → IsStreamAfter s0 (Some (FrameItem f at)) s1 → latest_of s1 ≡ latest_of s0
    → media.AppendError fault m1 e ≡ frame_result f m0 a.duration
    → IsBufferAnswer (kept_buffer s1 m1 r0) reply (kept_buffer s2 m2 r2) (step_turn (step.AppendError (Fault.Media fault) at e) a)
    → IsBufferAnswer (kept_buffer s0 m0 r0) reply (kept_buffer s2 m2 r2) (λ f c. append_turn_result (next_item f) a f c)
frame-breaks s0 s1 s2 m0 m1 m2 r0 r2 f at fault e reply a gives goes last is done =
    let st : ItemEffect = step.AppendError (Fault.Media fault) at e in
    append-turns s0 s1 s2 m0 m1 m2 r0 r2 (Some (FrameItem f at)) st reply a gives goes last
    (λ latest. frame-step st (effects.AppendError fault e) f at m0 m1 latest a.duration is refl) done

-- a segment that is refused
abbrev pub IsMediaStep : ItemEffect → MediaEffect → ℕ → Type 0
IsMediaStep st e at = (m : Media) (latest : Option Presentation) (c : Content) → step_result st (content_at m latest c e) ≡ Took (media_item_result (media_result e m) at latest c)

refused-by : (st : ItemEffect) (e : MediaEffect) (p : Presentation) (at : ℕ) (fault : MediaFault) (m0 m1 : Media) (d : Moment) → media_result e m1 ≡ media.AppendError fault m0 (segment_effect p d) → init_result p m0 d ≡ media.AppendError fault m0 (segment_effect p d) → IsMediaStep st e at → IsItemRefused st (Some (InitItem p at)) m1 d
refused-by st (effects.Done x) p at fault m0 m1 d is there h = absurd cc
refused-by step.NoItem (effects.AppendError g x) p at fault m0 m1 d is there h = let no = h m1 None (record { media = m1; latest = None }) in absurd cc
refused-by (step.Done y) (effects.AppendError g x) p at fault m0 m1 d is there h = let no = h m1 None (record { media = m1; latest = None }) in absurd cc
refused-by (step.AppendError s i y) (effects.AppendError g x) p at fault m0 m1 d is there h = λ latest.
    let same : m1 ≡ m0 = cc in
    let c : Content = record { media = m1; latest = latest } in
    ap (λ (r : MediaResult). Took (media_item_result r at (Some p) c)) (ap (λ (m : Media). init_result p m d) same ∙ there ∙ sym is) ∙ sym (h m1 (Some p) c)

pub refused-step : (st : ItemEffect) (e : MediaEffect) (p : Presentation) (at : ℕ) (o : Option MediaFault) (m0 m1 : Media) (d : Moment) → o ≡ init_fault p m0 → is_some o ≡ true → media_result e m1 ≡ init_result p m0 d → IsMediaStep st e at → IsItemRefused st (Some (InitItem p at)) m1 d
refused-step st e p at None m0 m1 d has some is h = absurd cc
refused-step st e p at (Some fault) m0 m1 d has some is h =
    let there : init_result p m0 d ≡ media.AppendError fault m0 (segment_effect p d) = ap (λ (o : Option MediaFault). init_result_of o p m0 (segment_effect p d)) (sym has) in
    refused-by st e p at fault m0 m1 d (is ∙ there) there h
