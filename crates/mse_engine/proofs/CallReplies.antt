-- What a call on a source buffer replies: it brings no initialization segment and no fault, and a refusal tells nothing
-- but that the source was opened again.
use Rattle.std.proofs.Common.{◌≡◌, ◌∙◌, ℤ, ℕ, zero, suc, ◌+◌, Bool, true, false, not, cond, ◌&&◌, ◌||◌, List, [], ◌∷◌, length, map, refl, sym, ap}
use Rattle.std.specs.Prelude.{Option, Some, None, slice_get, slice_set}
use Rattle.mse_base.specs.declared.frame.CodedFrame.{CodedFrame}
use Rattle.mse_base.specs.declared.ticks.Moment.{Moment}
use Rattle.mse_base.specs.declared.ticks.Moment.TheVariants.{Nan, At, Infinite}
use Rattle.mse_calls.specs.Ready.{is_ended}
use Rattle.mse_calls.specs.declared.answers.Name.{Name}
use Rattle.mse_calls.specs.declared.answers.Name.TheVariants.{InvalidState, NotSupported, QuotaExceeded, NoSuchBuffer, TypeError}
use Rattle.mse_calls.specs.declared.answers.Ready.{Ready}
use Rattle.mse_calls.specs.declared.events.EventKind.TheVariants.{UpdateStart}
use Rattle.mse_types.specs.declared.answer.TypeAnswer.{TypeAnswer}
use Rattle.mse_types.specs.declared.answer.TypeAnswer.TheVariants.{Supported, Empty, Unsupported}
use Rattle.frame_rules.specs.declared.answer.Placed.{Placed}
use Rattle.frame_rules.specs.declared.answer.Placed.TheVariants as placed_as
use Rattle.frame_rules.specs.Place.{Placement, is_over_limit, new_placement, placement, placement_in, placement_by_times, placement_at_times, placement_in_track}
use Rattle.frame_rules.specs.declared.timing.Timing.{Timing}
use Rattle.frame_rules.specs.Timing.{timing_of}
use Rattle.track_store.specs.Kept.{bytes_in}
use Rattle.range_removal.specs.Removal.{tracks_after_removal}
use Rattle.eviction.specs.Evicting.{RemovalRange, has_room, ranges_in_order, removal_ranges, sync_times, frames_of, lead_of, tracks_while_full, tracks_after_eviction}
use Rattle.track_store.specs.State.{TrackState}
use Rattle.track_store.specs.declared.tracks.Settings.{Settings}
use Rattle.track_buffers.specs.declared.effects.SourceEffect.{SourceEffect}
use Rattle.track_buffers.specs.Media.{Media, MediaResult, no_effect, effect_of, is_awaiting_first, is_empty_list}
use Rattle.track_buffers.specs.Media as media
use Rattle.track_buffers.specs.Frames.{place_of, placement_result, frame_result_at, frame_result, FlushResult, flush_result_of, flush_result, media_after_eviction, unset_track}
use Rattle.track_buffers.specs.Settings.{with_mode, with_offset}
use Rattle.buffer_state.specs.declared.reply.Reply.{Reply}
use Rattle.buffer_state.specs.State.{Feed, Content, Surroundings, AppendInput, feed_with, is_updating, phase_in, ready_in}
use Rattle.buffer_state.specs.Replies.{CallResult, event_reply, refused_result, refused_reply, result_with}
use Rattle.buffer_state.specs.AllCalls.{CallView, SetMode, SetOffset, SetWindowStart, SetWindowEnd, Remove, Append, Abort, ChangeType, removed_name, result_at, result_of_call}
use Rattle.buffer_state.specs.Calls.{unless_refused, is_sequence, is_in_media, settings_result, settings_result_by_phase, window_start_refusal, window_end_refusal, remove_refusal, is_full, append_refusal, append_result_after_eviction, abort_refusal, abort_result_after_flush, change_type_result_by_answer, change_type_result_after_flush, with_media}
use Rattle.source_buffers.specs.State.{BufferState, BufferStates, media_of}
use Rattle.source_buffers.specs.Slots.{call_in_slot, result_by_slot, result_on_buffer}
use Rattle.mse_engine.specs.Settled.{all_frame_counts, frame_counts}
use Rattle.mse_engine.proofs.Evictions.{none-evicted}

-- ---- track buffers stay as many, at least whether there are any

map_alike : (f : TrackState → TrackState) (ts : List TrackState) → is_empty_list (map f ts) ≡ is_empty_list ts
map_alike f [] = refl
map_alike f (t ∷ ts) = refl

set_alike : (ts : List TrackState) (i : ℕ) (t : TrackState) → is_empty_list (slice_set ts i t) ≡ is_empty_list ts
set_alike [] i t = refl
set_alike (x ∷ ts) zero t = refl
set_alike (x ∷ ts) (suc i) t = refl

in_track_alike : (o : Option TrackState) (w : Timing) (f : CodedFrame) (i : ℕ) (ts : List TrackState) → is_empty_list (placement_in_track o w f i ts).tracks ≡ is_empty_list ts
in_track_alike None w f i ts = refl
in_track_alike (Some t) w f i ts = set_alike ts i _

at_times_alike : (w : Timing) (f : CodedFrame) (i : ℕ) (ts : List TrackState) → is_empty_list (placement_at_times w f i ts).tracks ≡ is_empty_list ts
at_times_alike w f i ts = in_track_alike (slice_get (map _ ts) i) w f i (map _ ts) ∙ map_alike _ ts

by_times_alike : (o : Option Timing) (s : Settings) (f : CodedFrame) (i : ℕ) (ts : List TrackState) → is_empty_list (placement_by_times o s f i ts).tracks ≡ is_empty_list ts
by_times_alike None s f i ts = refl
by_times_alike (Some w) s f i ts = at_times_alike w f i ts

either_alike : (b : Bool) (x y : Placement) (ts : List TrackState) → is_empty_list x.tracks ≡ is_empty_list ts → is_empty_list y.tracks ≡ is_empty_list ts → is_empty_list (cond b x y).tracks ≡ is_empty_list ts
either_alike true x y ts h k = h
either_alike false x y ts h k = k

placed_alike_in : (o : Option TrackState) (ts : List TrackState) (s : Settings) (i : ℕ) (f : CodedFrame) → is_empty_list (placement_in o ts s i f).tracks ≡ is_empty_list ts
placed_alike_in None ts s i f = refl
placed_alike_in (Some t) ts s i f =
    either_alike (is_over_limit t.marks.received (bytes_in ts) (length f.payload)) (new_placement placed_as.Counts ts s) (placement_by_times (timing_of s t.marks f) s f i ts) ts refl (by_times_alike (timing_of s t.marks f) s f i ts)

tracks_by : (b : Bool) (xs ys ts : List TrackState) → is_empty_list xs ≡ is_empty_list ts → is_empty_list ys ≡ is_empty_list ts → is_empty_list (cond b xs ys) ≡ is_empty_list ts
tracks_by true xs ys ts h k = h
tracks_by false xs ys ts h k = k

while_full_alike : (new quota : ℕ) (d : Moment) (rs : List RemovalRange) (ts : List TrackState) → is_empty_list (tracks_while_full new quota d rs ts) ≡ is_empty_list ts
while_full_alike new quota d [] ts = refl
while_full_alike new quota d (r ∷ rs) ts = tracks_by (has_room new quota ts) ts (tracks_while_full new quota d rs (tracks_after_removal r.start r.end d ts)) ts refl (while_full_alike new quota d rs (tracks_after_removal r.start r.end d ts) ∙ map_alike _ ts)

evicted_alike : (position : ℤ) (new quota : ℕ) (d : Moment) (ts : List TrackState) → is_empty_list (tracks_after_eviction position new quota d ts) ≡ is_empty_list ts
evicted_alike position new quota d ts = tracks_by _ ts _ ts refl (while_full_alike new quota d (ranges_in_order position (removal_ranges d (sync_times (frames_of (lead_of ts))))) ts)

-- ---- coded frames

-- no initialization segment was received
pub record IsFrameEffect (old new : Media) (e : SourceEffect) : Type 0 where
  pub received : e.received_init ≡ false
  pub activated : e.activated ≡ false
  pub awaiting : is_awaiting_first new ≡ is_awaiting_first old

abbrev pub media_in : MediaResult → Media
media_in (media.Done m b) = m
media_in (media.AppendError fault m b) = m

raised : (b : Bool) (d e : Moment) (old new : Media) → is_awaiting_first new ≡ is_awaiting_first old → IsFrameEffect old new (cond b (no_effect d) (record { duration_changes = 0 + 1; duration = e; activated = false; received_init = false }))
raised true d e old new h = record { received = refl; activated = refl; awaiting = h }
raised false d e old new h = record { received = refl; activated = refl; awaiting = h }

placed : (a : Placed) (ts : List TrackState) (s : Settings) (m : Media) (d : Moment) → is_empty_list ts ≡ is_awaiting_first m → IsFrameEffect m (media_in (placement_result a ts s m d)) (effect_of (placement_result a ts s m d))
placed placed_as.Stored ts s m d h = raised _ d _ m (record m { tracks = ts; settings = s }) h
placed (placed_as.Dropped why) ts s m d h = record { received = refl; activated = refl; awaiting = h }
placed placed_as.TimeRange ts s m d h = record { received = refl; activated = refl; awaiting = refl }
placed placed_as.Counts ts s m d h = record { received = refl; activated = refl; awaiting = refl }

framed_at : (o : Option ℕ) (f : CodedFrame) (m : Media) (d : Moment) → IsFrameEffect m (media_in (frame_result_at o f m d)) (effect_of (frame_result_at o f m d))
framed_at None f m d = record { received = refl; activated = refl; awaiting = refl }
framed_at (Some i) f m d = let p = placement m.tracks m.settings i f in placed p.answer p.tracks p.settings m d (placed_alike_in (slice_get m.tracks i) m.tracks m.settings i f)

pub framed : (f : CodedFrame) (m : Media) (d : Moment) → IsFrameEffect m (media_in (frame_result f m d)) (effect_of (frame_result f m d))
framed f m d = framed_at (place_of f.track_id m.tracks) f m d

neither : (a b : Bool) → a ≡ false → b ≡ false → (a || b) ≡ false
neither true b h k = absurd cc
neither false b h k = k

flushed_by : (r : MediaResult) (go : Media → Moment → FlushResult) (m : Media) (d : Moment) → IsFrameEffect m (media_in r) (effect_of r)
    → ((n : Media) (e : Moment) → IsFrameEffect n (go n e).media (go n e).effect) → IsFrameEffect m (flush_result_of r go m d).media (flush_result_of r go m d).effect
flushed_by (media.Done n b) go m d h f =
    let behind = f n b.duration in
    record {
      received = neither b.received_init (go n b.duration).effect.received_init h.received behind.received;
      activated = neither b.activated (go n b.duration).effect.activated h.activated behind.activated;
      awaiting = behind.awaiting ∙ h.awaiting;
    }
flushed_by (media.AppendError fault n b) go m d h f = record { received = refl; activated = refl; awaiting = refl }

flushed : (fs : List CodedFrame) (m : Media) (d : Moment) → IsFrameEffect m (flush_result fs m d).media (flush_result fs m d).effect
flushed [] m d = record { received = refl; activated = refl; awaiting = refl }
flushed (f ∷ fs) m d = flushed_by (frame_result f m d) (λ n e. flush_result fs n e) m d (framed f m d) (λ n e. flushed fs n e)

-- ---- calls

-- what comes of a call where the source is in this state, of this duration
pub record IsCallReply (ready : Ready) (d : Moment) (r : Reply) : Type 0 where
  pub received : r.received_init ≡ false
  pub activated : r.activated ≡ false
  pub fault : r.fault ≡ None
  pub reopened : r.reopened ≡ true → is_ended ready ≡ true
  pub refused : (name : Name) → r.refused ≡ Some name → r ≡ refused_reply name r.reopened d

-- what comes of a call on a buffer; where it is refused and evicted nothing, the buffer is as it was
pub record IsCallResult (a : Surroundings) (f : Feed) (c : Content) (r : CallResult) : Type 0 where
  pub reply : IsCallReply a.ready a.duration r.reply
  pub awaiting : is_awaiting_first r.content.media ≡ is_awaiting_first c.media
  pub stays : (name : Name) → r.reply.refused ≡ Some name → frame_counts (Some r.content.media) ≡ frame_counts (Some c.media) → (r.feed ≡ f) × (r.content ≡ c)

plain : (name : Name) (reopened : Bool) (a : Surroundings) (f : Feed) (c : Content) → (reopened ≡ true → is_ended a.ready ≡ true) → IsCallResult a f c (refused_result name reopened a f c)
plain name reopened a f c h = record {
  reply = record { received = refl; activated = refl; fault = refl; reopened = h; refused = λ n e. let same : name ≡ n = cc in ap (λ (x : Name). refused_reply x reopened a.duration) same };
  awaiting = refl;
  stays = λ n e same. (refl, refl);
}

early : (name : Name) (a : Surroundings) (f : Feed) (c : Content) → IsCallResult a f c (refused_result name false a f c)
early name a f c = plain name false a f c (λ e. absurd cc)

-- what is not refused
done : (a : Surroundings) (f : Feed) (c : Content) (r : CallResult) → r.reply.refused ≡ None → r.reply.received_init ≡ false → r.reply.activated ≡ false → r.reply.fault ≡ None → (r.reply.reopened ≡ true → is_ended a.ready ≡ true)
    → is_awaiting_first r.content.media ≡ is_awaiting_first c.media → IsCallResult a f c r
done a f c r none received activated fault reopened awaiting = record {
  reply = record { received = received; activated = activated; fault = fault; reopened = reopened; refused = λ n e. absurd (never r.reply.refused n none e) };
  awaiting = awaiting;
  stays = λ n e same. absurd (never r.reply.refused n none e);
}
  where
    never : (o : Option Name) (n : Name) → o ≡ None → o ≡ Some n → ⊥
    never o n h k = cc

either : (a : Surroundings) (f : Feed) (c : Content) (b : Bool) (x y : CallResult) → IsCallResult a f c x → IsCallResult a f c y → IsCallResult a f c (cond b x y)
either a f c true x y h k = h
either a f c false x y h k = k

unless : (o : Option Name) (r : CallResult) (a : Surroundings) (f : Feed) (c : Content) → IsCallResult a f c r → IsCallResult a f c (unless_refused o r a f c)
unless (Some name) r a f c h = early name a f c
unless None r a f c h = h

by_phase : (m : Media) (a : Surroundings) (f : Feed) (c : Content) → is_awaiting_first m ≡ is_awaiting_first c.media → IsCallResult a f c (settings_result_by_phase m a f c)
by_phase m a f c same =
    either a f c (is_in_media (phase_in f)) (refused_result InvalidState (is_ended a.ready) a f c) (settings_result (is_ended a.ready) m a f c)
    (plain InvalidState (is_ended a.ready) a f c (λ e. e)) (done a f c (settings_result (is_ended a.ready) m a f c) refl refl refl refl (λ e. e) same)

at_time : (t : Moment) (call : ℤ → CallResult) (a : Surroundings) (f : Feed) (c : Content) → ((u : ℤ) → IsCallResult a f c (call u)) → IsCallResult a f c (result_at t call a f c)
at_time Nan call a f c h = early _ a f c
at_time (At u) call a f c h = h u
at_time Infinite call a f c h = early _ a f c

changed : (answer : TypeAnswer) (a : Surroundings) (f : Feed) (c : Content) → IsCallResult a f c (change_type_result_by_answer answer a f c)
changed Empty a f c = early _ a f c
changed Unsupported a f c = either a f c (is_updating f.running) (refused_result InvalidState false a f c) (refused_result NotSupported false a f c) (early InvalidState a f c) (early NotSupported a f c)
changed (Supported container) a f c =
    let flush = flush_result (ready_in f) c.media a.duration in
    let effect = flushed (ready_in f) c.media a.duration in
    let r = change_type_result_after_flush container flush a in
    either a f c (is_updating f.running) (refused_result InvalidState false a f c) r (early InvalidState a f c)
    (done a f c r refl effect.received effect.activated refl (λ e. e) (map_alike unset_track flush.media.tracks ∙ effect.awaiting))

append : (input : AppendInput) (a : Surroundings) (f : Feed) (c : Content) → IsCallResult a f c (append_result_after_eviction input a f c)
append input a f c =
    let m : Media = media_after_eviction input.position (length input.bytes) input.quota a.duration c.media in
    let same : is_awaiting_first m ≡ is_awaiting_first c.media = evicted_alike input.position (length input.bytes) input.quota a.duration c.media.tracks in
    either a f c (is_full input.bytes input.quota f m) (refused_result QuotaExceeded (is_ended a.ready) a f (with_media m c)) (result_with (event_reply (is_ended a.ready) a.duration (UpdateStart ∷ [])) (feed_with input.bytes f) (with_media m c))
    (record {
      reply = (plain QuotaExceeded (is_ended a.ready) a f (with_media m c) (λ e. e)).reply;
      awaiting = same;
      stays = λ n e counts. (refl, ap (λ (x : Media). with_media x c) (none-evicted input.position (length input.bytes) input.quota a.duration c.media counts));
    })
    (done a f c (result_with (event_reply (is_ended a.ready) a.duration (UpdateStart ∷ [])) (feed_with input.bytes f) (with_media m c)) refl refl refl refl (λ e. e) same)

call_result : (call : CallView) (a : Surroundings) (f : Feed) (c : Content) → IsCallResult a f c (result_of_call call a f c)
call_result (SetMode mode) a f c =
    let wrong : Bool = c.media.settings.generate && not (is_sequence mode) in
    let done : CallResult = settings_result_by_phase (with_mode (is_sequence mode) c.media) a f c in
    either a f c (is_updating f.running) (refused_result InvalidState false a f c) (cond wrong (refused_result TypeError false a f c) done) (early InvalidState a f c)
    (either a f c wrong (refused_result TypeError false a f c) done (early TypeError a f c) (by_phase (with_mode (is_sequence mode) c.media) a f c refl))
call_result (SetOffset t) a f c =
    at_time t _ a f c (λ u. either a f c (is_updating f.running) (refused_result InvalidState false a f c) (settings_result_by_phase (with_offset u c.media) a f c) (early InvalidState a f c) (by_phase (with_offset u c.media) a f c refl))
call_result (SetWindowStart t) a f c = at_time t _ a f c (λ u. unless (window_start_refusal u f c) _ a f c (done a f c _ refl refl refl refl (λ e. absurd cc) refl))
call_result (SetWindowEnd t) a f c = unless (window_end_refusal t f c) _ a f c (done a f c _ refl refl refl refl (λ e. absurd cc) refl)
call_result (Remove start end) a f c = at_time start _ a f c (λ u. unless (remove_refusal u end a f) _ a f c (done a f c _ refl refl refl refl (λ e. e) refl))
call_result (Append None) a f c = early _ a f c
call_result (Append (Some input)) a f c = unless (append_refusal a f) (append_result_after_eviction input a f c) a f c (append input a f c)
call_result Abort a f c =
    let flush = flush_result (ready_in f) c.media a.duration in
    let effect = flushed (ready_in f) c.media a.duration in
    unless (abort_refusal a f) (abort_result_after_flush flush a f c) a f c
    (done a f c (abort_result_after_flush flush a f c) refl effect.received effect.activated refl (λ e. absurd cc) (map_alike unset_track flush.media.tracks ∙ effect.awaiting))
call_result (ChangeType answer) a f c = changed answer a f c

-- ---- in all slots

in_slot_reply : (call : CallView) (a : Surroundings) (s : Option BufferState) → IsCallReply a.ready a.duration (call_in_slot call a s).reply
in_slot_reply call a None = record { received = refl; activated = refl; fault = refl; reopened = λ e. absurd cc; refused = λ n e. let same : removed_name call ≡ n = cc in ap (λ (x : Name). refused_reply x false a.duration) same }
in_slot_reply call a (Some b) = (call_result call a b.feed b.content).reply

by_slot : (o : Option (Option BufferState)) (call : CallView) (k : ℕ) (a : Surroundings) (bs : BufferStates) → IsCallReply a.ready a.duration (result_by_slot o (call_in_slot call a) a.duration k bs).reply
by_slot None call k a bs = record { received = refl; activated = refl; fault = refl; reopened = λ e. absurd cc; refused = λ n e. let same : NoSuchBuffer ≡ n = cc in ap (λ (x : Name). refused_reply x false a.duration) same }
by_slot (Some s) call k a bs = in_slot_reply call a s

-- a call on the buffer of a number
pub call-reply : (k : ℕ) (call : CallView) (a : Surroundings) (bs : BufferStates) → IsCallReply a.ready a.duration (result_on_buffer k call a bs).reply
call-reply k call a bs = by_slot (slice_get bs k) call k a bs

pub call-result : (call : CallView) (a : Surroundings) (f : Feed) (c : Content) → IsCallResult a f c (result_of_call call a f c)
call-result call a f c = call_result call a f c

-- ---- a refused call that evicted nothing

in_slot_stays : (call : CallView) (a : Surroundings) (s : Option BufferState) (name : Name) → (call_in_slot call a s).reply.refused ≡ Some name → frame_counts (media_of (call_in_slot call a s).slot) ≡ frame_counts (media_of s) → (call_in_slot call a s).slot ≡ s
in_slot_stays call a None name e same = refl
in_slot_stays call a (Some b) name e same =
    let stays = (call_result call a b.feed b.content).stays name e same in
    λ i. Some (record { feed = stays.0 i; content = stays.1 i })

set_count : (bs : BufferStates) (k : ℕ) (s new : Option BufferState) → slice_get bs k ≡ Some s → all_frame_counts (slice_set bs k new) ≡ all_frame_counts bs → frame_counts (media_of new) ≡ frame_counts (media_of s)
set_count [] k s new at e = absurd cc
set_count (x ∷ bs) zero s new at e =
    let there : x ≡ s = cc in
    let here : frame_counts (media_of new) ≡ frame_counts (media_of x) = cc in
    here ∙ ap (λ (o : Option BufferState). frame_counts (media_of o)) there
set_count (x ∷ bs) (suc k) s new at e = let behind : all_frame_counts (slice_set bs k new) ≡ all_frame_counts bs = cc in set_count bs k s new at behind

set_same : (bs : BufferStates) (k : ℕ) (s : Option BufferState) → slice_get bs k ≡ Some s → slice_set bs k s ≡ bs
set_same [] k s at = refl
set_same (x ∷ bs) zero s at = let there : x ≡ s = cc in ap (λ (o : Option BufferState). o ∷ bs) (sym there)
set_same (x ∷ bs) (suc k) s at = ap (λ (xs : BufferStates). x ∷ xs) (set_same bs k s at)

by_slot_stays : (o : Option (Option BufferState)) (call : CallView) (k : ℕ) (a : Surroundings) (bs : BufferStates) (name : Name) → slice_get bs k ≡ o → (result_by_slot o (call_in_slot call a) a.duration k bs).reply.refused ≡ Some name
    → all_frame_counts (result_by_slot o (call_in_slot call a) a.duration k bs).buffers ≡ all_frame_counts bs → (result_by_slot o (call_in_slot call a) a.duration k bs).buffers ≡ bs
by_slot_stays None call k a bs name at e same = refl
by_slot_stays (Some s) call k a bs name at e same =
    let new : Option BufferState = (call_in_slot call a s).slot in
    let stays : new ≡ s = in_slot_stays call a s name e (set_count bs k s new at same) in
    ap (slice_set bs k) stays ∙ set_same bs k s at

pub call-stays : (k : ℕ) (call : CallView) (a : Surroundings) (bs : BufferStates) (name : Name) → (result_on_buffer k call a bs).reply.refused ≡ Some name → all_frame_counts (result_on_buffer k call a bs).buffers ≡ all_frame_counts bs
    → (result_on_buffer k call a bs).buffers ≡ bs
call-stays k call a bs name e same = by_slot_stays (slice_get bs k) call k a bs name refl e same
