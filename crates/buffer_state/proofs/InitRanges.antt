-- A step in which an initialization segment was received leaves the buffered ranges.
use Rattle.std.proofs.Common.{◌≡◌, ℕ, false, refl, sym, subst}
use Rattle.std.specs.Prelude.{Option, Some, None, IfSome, Result, Ok, Err, IfOk}
use Rattle.mse_base.specs.declared.frame.CodedFrame.{CodedFrame}
use Rattle.mse_base.specs.declared.ticks.Moment.{Moment}
use Rattle.mse_base.specs.declared.track.Presentation.{Presentation}
use Rattle.parser_loop.specs.Items.{InitItem, FrameItem, SegmentEnd, FaultItem}
use Rattle.byte_stream.specs.Readings.{ByteItem}
use Rattle.byte_stream.specs.Streams.{HasReading}
use Rattle.track_buffers.specs.Media.{Media, MediaResult, effect_of}
use Rattle.track_buffers.specs.Media as media
use Rattle.track_buffers.specs.Initialized.{init_result}
use Rattle.track_buffers.specs.Frames.{frame_result}
use Rattle.track_buffers.proofs.Received.{init_leaves, fault_not_received, frame_not_received}
use Rattle.buffer_state.specs.declared.reply.Reply.{Reply}
use Rattle.buffer_state.specs.declared.reply.Turned.{Turned}
use Rattle.buffer_state.specs.State.{Feed, Content, Surroundings, KeptBuffer, Stands, next_item}
use Rattle.buffer_state.specs.Replies.{CallResult, IsBufferAnswer, IsResult, IsTurnIfOk, IsTurnResult, HasRangesAfterInit, reply_of}
use Rattle.buffer_state.specs.Turns.{media_item_result, item_turn_result, append_turn_result}
use Rattle.buffer_state.proofs.KeptBuffers.{feed_at, content_of}

-- what is said of a result where the content was this
abbrev HasResultRangesAsBefore : Content → CallResult → Type 0
HasResultRangesAsBefore c r = HasRangesAfterInit c.media r.reply r.content.media

-- nothing is said where none was received
none_received : (c : Content) (r : CallResult) → r.reply.received_init ≡ false → HasResultRangesAsBefore c r
none_received c r none = λ received. absurd cc

init_turn : (o : MediaResult) (p : Presentation) (at : ℕ) (a : Surroundings) (f : Feed) (c : Content) → init_result p c.media a.duration ≡ o → HasResultRangesAsBefore c (item_turn_result (InitItem p at) (media_item_result o at (Some p) c) a f)
init_turn (media.Done m e) p at a f c is = λ received. init_leaves p c.media m a.duration e is
init_turn (media.AppendError fault m e) p at a f c is =
    none_received c (item_turn_result (InitItem p at) (media_item_result (media.AppendError fault m e) at (Some p) c) a f) (fault_not_received p c.media m a.duration fault e is)

frame_turn : (o : MediaResult) (x : CodedFrame) (at : ℕ) (a : Surroundings) (f : Feed) (c : Content) → (effect_of o).received_init ≡ false → HasResultRangesAsBefore c (item_turn_result (FrameItem x at) (media_item_result o at c.latest c) a f)
frame_turn (media.Done m e) x at a f c none = none_received c (item_turn_result (FrameItem x at) (media_item_result (media.Done m e) at c.latest c) a f) none
frame_turn (media.AppendError fault m e) x at a f c none = none_received c (item_turn_result (FrameItem x at) (media_item_result (media.AppendError fault m e) at c.latest c) a f) none

turn_leaves : (o : Option ByteItem) (a : Surroundings) (f : Feed) (c : Content) → HasResultRangesAsBefore c (append_turn_result o a f c)
turn_leaves None a f c = none_received c (append_turn_result None a f c) refl
turn_leaves (Some (InitItem p at)) a f c = init_turn (init_result p c.media a.duration) p at a f c refl
turn_leaves (Some (FrameItem x at)) a f c = frame_turn (frame_result x c.media a.duration) x at a f c (frame_not_received x c.media a.duration)
turn_leaves (Some SegmentEnd) a f c = none_received c (append_turn_result (Some SegmentEnd) a f c) refl
turn_leaves (Some (FaultItem x at)) a f c = none_received c (append_turn_result (Some (FaultItem x at)) a f c) refl

-- of what is kept, where it stands for some string
leaves_ranges : (old new : KeptBuffer) (reply : Reply) (a : Surroundings) → HasReading old.stream → IsBufferAnswer old reply new (λ f c. append_turn_result (next_item f) a f c) → HasRangesAfterInit old.media reply new.media
leaves_ranges old new reply a some answers =
    let f : Feed = feed_at some.reading old.running in
    let c : Content = content_of old.media old.stream in
    let r : CallResult = append_turn_result (next_item f) a f c in
    let here : Stands old f c = record { stream = some.stands; media = refl; latest = refl; running = refl } in
    let is : IsResult reply new r = answers f c here in
    let leaves : HasRangesAfterInit old.media r.reply r.content.media = turn_leaves (next_item f) a f c in
    let told : HasRangesAfterInit old.media reply r.content.media = subst (λ (x : Reply). HasRangesAfterInit old.media x r.content.media) (sym is.replies) leaves in
    subst (λ (m : Media). HasRangesAfterInit old.media reply m) (sym is.stands.media) told

-- of a turn
turn_by : (o : Option Reply) (old new : KeptBuffer) (a : Surroundings) → HasReading old.stream → ((f : Feed) (c : Content) → Stands old f c → IsTurnResult o new (Some (append_turn_result (next_item f) a f c))) → IfSome o (λ reply. HasRangesAfterInit old.media reply new.media)
turn_by None old new a some turns = tt
turn_by (Some reply) old new a some turns = leaves_ranges old new reply a some turns

pub turn_leaves_ranges : {E : Type 0} (r : Result Turned E) (d : Moment) (reply : Reply) (old new : KeptBuffer) (a : Surroundings) → HasReading old.stream → IsTurnIfOk d reply old r new (λ f c. Some (append_turn_result (next_item f) a f c))
    → IfOk r (λ turned. IfSome (reply_of d reply turned) (λ x. HasRangesAfterInit old.media x new.media))
turn_leaves_ranges (Ok turned) d reply old new a some turns = turn_by (reply_of d reply turned) old new a some turns
turn_leaves_ranges (Err e) d reply old new a some turns = tt
