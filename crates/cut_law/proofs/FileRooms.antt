-- A source buffer to which fewer than 2 ^ 62 bytes are appended is not full.
use Rattle.std.proofs.Common.{◌≡◌, ℕ, zero, suc, ◌+◌, ◌≤◌, ◌<◌, ◌^◌, Bool, true, false, ◌||◌, List, [], ◌∷◌, ◌++◌, length, map, set, refl, ap, sym, subst, ◌∙◌, arith, length-append}
use Rattle.std.specs.Prelude.{Option, Some, None, IfSome, slice_get, slice_set, nat_le, if◌then◌else◌}
use Rattle.std.specs.Option.{option_flatten}
use Rattle.std.proofs.lemmas.Bool.Decides.{nat_tests}
use Rattle.std.proofs.lemmas.List.Sums.{sum_by-cons}
use Rattle.mse_base.specs.declared.frame.CodedFrame.{CodedFrame}
use Rattle.mse_base.specs.declared.ticks.Moment.{Moment}
use Rattle.mse_base.specs.declared.track.Presentation.{Presentation}
use Rattle.mse_base.specs.declared.track.TrackInfo.{TrackInfo}
use Rattle.mse_calls.specs.Pieces.{bytes_of}
use Rattle.mse_calls.specs.declared.calls.Call.TheVariants.{AppendBuffer}
use Rattle.mse_calls.specs.declared.calls.Piece.{Piece}
use Rattle.mse_calls.specs.declared.views.FaultView.{FaultView}
use Rattle.call_script.specs.declared.script.StepLine.TheVariants.{Call, Drain}
use Rattle.parser_loop.specs.Items.{InitItem, FrameItem, SegmentEnd, FaultItem}
use Rattle.byte_stream.specs.Readings.{ByteItem}
use Rattle.track_store.specs.declared.store.Stored.{Stored}
use Rattle.track_store.specs.declared.tracks.Settings.{Settings}
use Rattle.track_store.specs.Frames as frames
use Rattle.track_store.specs.Kept.{bytes_in}
use Rattle.track_store.specs.State.{TrackState}
use Rattle.frame_rules.specs.declared.timing.Timing.{Timing}
use Rattle.frame_rules.specs.declared.answer.Placed.{Placed}
use Rattle.frame_rules.specs.declared.answer.Placed.TheVariants as placed_as
use Rattle.frame_rules.specs.Put.{track_after_frame}
use Rattle.frame_rules.specs.Timing.{timing_of}
use Rattle.frame_rules.specs.Place.{Placement, track_after_reset, placement_in_track, placement_by_times, placement_in, placement, is_over_limit, new_placement}
use Rattle.frame_rules.proofs.PutFrames.{used_put}
use Rattle.track_buffers.specs.declared.effects.SourceEffect.{SourceEffect}
use Rattle.track_buffers.specs.declared.effects.MediaFault.{MediaFault}
use Rattle.track_buffers.specs.Media.{Media, MediaResult}
use Rattle.track_buffers.specs.Media as media
use Rattle.track_buffers.specs.Frames.{used_in, frame_result, frame_result_at, place_of, placement_result, unset_track}
use Rattle.track_buffers.specs.Initialized.{init_fault, init_result, init_result_of, media_tracks, new_track, partner_of, segment_effect, track_with_partner, tracks_after}
use Rattle.buffer_state.specs.State.{Feed, Content, is_updating}
use Rattle.buffer_state.specs.Turns.{ItemResult, Done, AppendError, item_result, media_item_result}
use Rattle.source_buffers.specs.State.{BufferState, in_slot}
use Rattle.mse_engine.specs.State.{CoreSource, Core, State, core_of}
use Rattle.mse_engine.specs.Work.{running_in}
use Rattle.cut_law.specs.Plays.{after_line}
use Rattle.cut_law.specs.Room.{HasRoomForCall, HasRoomFor}
use Rattle.cut_law.specs.Cuts.{bytes_of_pieces}
use Rattle.cut_law.specs.Files.{after_piece, IfNoFault, IsRoomBeforeEach}
use Rattle.cut_law.proofs.Halves.{Half, Ran, Whole, Stopped, ran_by, run, effect_source, half_behind, items_left, half_at_end, half_at_end-idle, half_after_append_by, half_after_append, is_refused, append_feed, begin_source}
use Rattle.cut_law.proofs.Drains.{drain_core, append_core, on_slot, appended, at-idle, lowest, lowest-is, append-rests}
use Rattle.cut_law.proofs.Journals.{append_some, line-core}
use Rattle.cut_law.proofs.AwaitedAppends.{parted}
use Rattle.cut_law.specs.FileRooms.{IsHeldBefore, HasRoomForFile}

-- ---- the bytes of the tracks can be counted

abbrev AreCountable : List TrackState → Type 0
AreCountable ts = bytes_in ts < 2 ^ 62

bytes-cons : (t : TrackState) (ts : List TrackState) → bytes_in (t ∷ ts) ≡ frames.bytes_of t.frames + bytes_in ts
bytes-cons t ts = sum_by-cons (λ (u : TrackState). frames.bytes_of u.frames) t ts

-- a step that leaves the frames of each track
bytes-map : (f : TrackState → TrackState) → ((t : TrackState) → (f t).frames ≡ t.frames) → (ts : List TrackState) → bytes_in (map f ts) ≡ bytes_in ts
bytes-map f same [] = refl
bytes-map f same (t ∷ ts) =
    bytes-cons (f t) (map f ts)
    ∙ ap (λ (fs : List Stored). frames.bytes_of fs + bytes_in (map f ts)) (same t)
    ∙ ap (λ n. frames.bytes_of t.frames + n) (bytes-map f same ts)
    ∙ sym (bytes-cons t ts)

bytes-set : (ts : List TrackState) (i : ℕ) (t u : TrackState) (n : ℕ) → slice_get ts i ≡ Some t → frames.bytes_of u.frames ≤ frames.bytes_of t.frames + n → bytes_in (set ts i u) ≤ bytes_in ts + n
bytes-set [] i t u n e h = absurd (cc)
bytes-set (s ∷ ts) zero t u n e h =
    let one : s ≡ t = cc in
    let same : frames.bytes_of s.frames ≡ frames.bytes_of t.frames = ap (λ (x : TrackState). frames.bytes_of x.frames) one in
    let old = bytes-cons s ts in
    let new = bytes-cons u ts in
    omega arith
bytes-set (s ∷ ts) (suc i) t u n e h =
    let rest = bytes-set ts i t u n e h in
    let old = bytes-cons s ts in
    let new = bytes-cons s (set ts i u) in
    omega arith

count-in : (o : Option TrackState) (w : Timing) (f : CodedFrame) (i : ℕ) (ts : List TrackState) → slice_get ts i ≡ o → bytes_in ts + length f.payload < 2 ^ 62 → AreCountable (placement_in_track o w f i ts).tracks
count-in None w f i ts e fits = omega (arith, fits)
count-in (Some t) w f i ts e fits =
    let bytes = bytes-set ts i t (track_after_frame w f t) (length f.payload) e (used_put w f t) in
    omega (arith, bytes, fits)

count-times : (o : Option Timing) (s : Settings) (f : CodedFrame) (i : ℕ) (ts : List TrackState) → bytes_in ts + length f.payload < 2 ^ 62 → AreCountable (placement_by_times o s f i ts).tracks
count-times None s f i ts fits = omega (arith, fits)
count-times (Some w) s f i ts fits =
    let same = bytes-map (track_after_reset w) (λ t. refl) ts in
    count-in (slice_get (map (track_after_reset w) ts) i) w f i (map (track_after_reset w) ts) refl (omega (arith, same, fits))

or-parts : (x y : Bool) → (x || y) ≡ false → y ≡ false
or-parts true y e = absurd (cc)
or-parts false y e = e

below : (n m : ℕ) → nat_le n m ≡ false → m < n
below n m e = grind (arith, nat_tests)

count-by : (t : Bool) (received : ℕ) (x : Option Timing) (s : Settings) (f : CodedFrame) (i : ℕ) (ts : List TrackState) → is_over_limit received (bytes_in ts) (length f.payload) ≡ t → AreCountable ts
    → AreCountable (if t then new_placement placed_as.Counts ts s else placement_by_times x s f i ts).tracks
count-by true received x s f i ts e h = h
count-by false received x s f i ts e h = count-times x s f i ts (below (2 ^ 62) (bytes_in ts + length f.payload) (or-parts _ (nat_le (2 ^ 62) (bytes_in ts + length f.payload)) e))

count-placed : (o : Option TrackState) (ts : List TrackState) (s : Settings) (i : ℕ) (f : CodedFrame) → AreCountable ts → AreCountable (placement_in o ts s i f).tracks
count-placed None ts s i f h = h
count-placed (Some t) ts s i f h = count-by (is_over_limit t.marks.received (bytes_in ts) (length f.payload)) t.marks.received (timing_of s t.marks f) s f i ts refl h

-- ---- items

abbrev IsMediaCountable : MediaResult → Type 0
IsMediaCountable (media.Done m b) = AreCountable m.tracks
IsMediaCountable (media.AppendError fault m b) = AreCountable m.tracks

placed-counts : (a : Placed) (ts : List TrackState) (s : Settings) (m : Media) (d : Moment) → AreCountable ts → AreCountable m.tracks → IsMediaCountable (placement_result a ts s m d)
placed-counts placed_as.Stored ts s m d new old = new
placed-counts (placed_as.Dropped why) ts s m d new old = new
placed-counts placed_as.TimeRange ts s m d new old = old
placed-counts placed_as.Counts ts s m d new old = old

frame-counts : (o : Option ℕ) (f : CodedFrame) (m : Media) (d : Moment) → AreCountable m.tracks → IsMediaCountable (frame_result_at o f m d)
frame-counts None f m d h = h
frame-counts (Some i) f m d h =
    let p : Placement = placement m.tracks m.settings i f in
    placed-counts p.answer p.tracks p.settings m d (count-placed (slice_get m.tracks i) m.tracks m.settings i f h) h

bytes-new : (news : List TrackInfo) → bytes_in (map new_track news) ≡ 0
bytes-new [] = refl
bytes-new (u ∷ news) = bytes-cons (new_track u) (map new_track news) ∙ ap (λ (n : ℕ). 0 + n) (bytes-new news)

partner-frames : (t : TrackState) (o : Option TrackInfo) → (track_with_partner t o).frames ≡ t.frames
partner-frames t None = refl
partner-frames t (Some u) = refl

count-after : (news : List TrackInfo) (ts : List TrackState) → AreCountable ts → AreCountable (tracks_after news ts)
count-after news [] h = let none = bytes-new news in omega (arith, none)
count-after news (t ∷ ts) h =
    let same = bytes-map (λ u. track_with_partner u (partner_of (t ∷ ts) news u)) (λ u. partner-frames u (partner_of (t ∷ ts) news u)) (t ∷ ts) in
    omega (arith, same, h)

init-counts : (o : Option MediaFault) (p : Presentation) (m : Media) (b : SourceEffect) → AreCountable m.tracks → IsMediaCountable (init_result_of o p m b)
init-counts (Some fault) p m b h = h
init-counts None p m b h = count-after (media_tracks p) m.tracks h

abbrev IsItemCountable : ItemResult → Type 0
IsItemCountable (Done c e) = AreCountable c.media.tracks
IsItemCountable (AppendError fault at c e) = AreCountable c.media.tracks

item-by : (r : MediaResult) (at : ℕ) (latest : Option Presentation) (c : Content) → IsMediaCountable r → IsItemCountable (media_item_result r at latest c)
item-by (media.Done m e) at latest c h = h
item-by (media.AppendError fault m e) at latest c h = h

item-counts : (item : ByteItem) (c : Content) (d : Moment) → AreCountable c.media.tracks → IsItemCountable (item_result item c d)
item-counts (InitItem p at) c d h = item-by (init_result p c.media d) at (Some p) c (init-counts (init_fault p c.media) p c.media (segment_effect p d) h)
item-counts (FrameItem f at) c d h = item-by (frame_result f c.media d) at c.latest c (frame-counts (place_of f.track_id c.media.tracks) f c.media d h)
item-counts SegmentEnd c d h = h
item-counts (FaultItem f at) c d h = h

-- ---- a run of items

abbrev IsRunCountable : CoreSource → Ran → Type 0
IsRunCountable s (Whole c t) = AreCountable c.media.tracks × (t.quota ≡ s.quota)
IsRunCountable s (Stopped c t) = AreCountable c.media.tracks × (t.quota ≡ s.quota)

reset-counts : (ts : List TrackState) → AreCountable ts → AreCountable (map unset_track ts)
reset-counts ts h = let same = bytes-map unset_track (λ t. refl) ts in omega (arith, same, h)

ran-on : (k : ℕ) (s : CoreSource) (e : SourceEffect) (r : Ran) → IsRunCountable (effect_source k e s) r → IsRunCountable s r
ran-on k s e (Whole c t) h = h
ran-on k s e (Stopped c t) h = h

run-by : (k : ℕ) (xs : List ByteItem) (s : CoreSource) (t : ItemResult) → IsItemCountable t → ((d : Content) (u : CoreSource) → AreCountable d.media.tracks → IsRunCountable u (run k xs d u)) → IsRunCountable s (ran_by k (λ d u. run k xs d u) s t)
run-by k xs s (Done c e) h f = ran-on k s e (run k xs c (effect_source k e s)) (f c (effect_source k e s) h)
run-by k xs s (AppendError fault at c e) h f = (reset-counts c.media.tracks h, refl)

run-counts : (k : ℕ) (xs : List ByteItem) (c : Content) (s : CoreSource) → AreCountable c.media.tracks → IsRunCountable s (run k xs c s)
run-counts k [] c s h = (h, refl)
run-counts k (x ∷ xs) c s h = run-by k xs s (item_result x c s.state.duration) (item-counts x c s.state.duration h) (λ d u g. run-counts k xs d u g)

-- ---- an append that is worked off

record IsHalfHeld (start quota : ℕ) (h : Half) : Type 0 where
  held : IsHeldBefore start h.buffer
  same : h.source.quota ≡ quota

behind-holds : (start : ℕ) (f : Feed) (count : ℕ) (s : CoreSource) (r : Ran) → length f.reading.string.whole ≤ start → IsRunCountable s r → IsHalfHeld start s.quota (half_behind f count r)
behind-holds start f count s (Whole c t) l h = record { held = record { read = l; used = h.0 }; same = h.1 }
behind-holds start f count s (Stopped c t) l h = record { held = record { read = omega arith; used = h.0 }; same = h.1 }

held-later : (start more : ℕ) (b : BufferState) → IsHeldBefore start b → IsHeldBefore (start + more) b
held-later start more b h = let read = h.read in record { read = omega (arith, read); used = h.used }

append-holds : (t : Bool) (start : ℕ) (bytes : List ℕ) (k : ℕ) (h : Half) → is_updating h.buffer.feed.running ≡ false → IsHeldBefore start h.buffer → IsHalfHeld (start + length bytes) h.source.quota (half_at_end k (half_after_append_by t bytes k h))
append-holds true start bytes k h idle held =
    subst (λ (g : Half). IsHalfHeld (start + length bytes) h.source.quota g) (sym (half_at_end-idle k h idle)) (record { held = held-later start (length bytes) h.buffer held; same = refl })
append-holds false start bytes k h idle held =
    let f : Feed = append_feed h.buffer.feed (h.buffer.feed.reading.string.whole ++ bytes) h.buffer.feed.reading.string.taken in
    let read = held.read in
    let long = length-append h.buffer.feed.reading.string.whole bytes in
    behind-holds (start + length bytes) f (length (items_left f)) (begin_source k h.source) (run k (items_left f) h.buffer.content (begin_source k h.source)) (omega (arith, read, long))
    (run-counts k (items_left f) h.buffer.content (begin_source k h.source) held.used)

-- ---- in the core

get-set : {X : Type 0} (bs : List X) (j : ℕ) (a b : X) → slice_get bs j ≡ Some a → slice_get (slice_set bs j b) j ≡ Some b
get-set [] j a b e = absurd (cc)
get-set (x ∷ bs) zero a b e = refl
get-set (x ∷ bs) (suc j) a b e = get-set bs j a b e

slot-later : (start more : ℕ) (o : Option BufferState) → IfSome o (IsHeldBefore start) → IfSome o (IsHeldBefore (start + more))
slot-later start more None h = tt
slot-later start more (Some b) h = held-later start more b h

holds-later : (start more k : ℕ) (c : Core) → HasRoomForFile start k c → HasRoomForFile (start + more) k c
holds-later start more k c h = record { quota = h.quota; slot = slot-later start more (in_slot k c.buffers) h.slot }

slot-holds : (x : Option (Option BufferState)) (start : ℕ) (bytes : List ℕ) (k : ℕ) (c : Core) → slice_get c.buffers k ≡ x → lowest c.buffers ≡ None → IfSome (option_flatten x) (IsHeldBefore start) → HasRoomForFile start k c
    → HasRoomForFile (start + length bytes) k (on_slot x k (λ n h. half_at_end n (half_after_append bytes n h)) c)
slot-holds None start bytes k c e low held h = holds-later start (length bytes) k c h
slot-holds (Some None) start bytes k c e low held h = holds-later start (length bytes) k c h
slot-holds (Some (Some b)) start bytes k c e low held h =
    let old : Half = record { buffer = b; source = c.source } in
    let new : Half = half_at_end k (half_after_append bytes k old) in
    let holds : IsHalfHeld (start + length bytes) c.source.quota new = append-holds (is_refused old) start bytes k old (at-idle c.buffers k (Some b) low e) held in
    let there : slice_get (slice_set c.buffers k (Some new.buffer)) k ≡ Some (Some new.buffer) = get-set c.buffers k (Some b) (Some new.buffer) e in
    record {
      quota = subst (λ n. 2 ^ 62 ≤ n) (sym holds.same) h.quota;
      slot = subst (λ y. IfSome (option_flatten y) (IsHeldBefore (start + length bytes))) (sym there) holds.held;
    }

core-holds : (start : ℕ) (bytes : List ℕ) (k : ℕ) (c : Core) → lowest c.buffers ≡ None → HasRoomForFile start k c → HasRoomForFile (start + length bytes) k (drain_core (append_core bytes k c))
core-holds start bytes k c low h =
    subst (λ (d : Core). HasRoomForFile (start + length bytes) k d) (sym (appended (slice_get c.buffers k) bytes k c refl low))
    (slot-holds (slice_get c.buffers k) start bytes k c refl low h.slot h)

-- ---- room

not-full : (n quota used m : ℕ) → 2 ^ 62 ≤ quota → used < 2 ^ 62 → m < 2 ^ 62 → (nat_le quota used || nat_le (2 ^ 62) m) ≡ false
not-full n quota used m q u l =
    let no : nat_le quota used ≡ false = grind (arith, nat_tests) in
    let yet : nat_le (2 ^ 62) m ≡ false = grind (arith, nat_tests) in
    ap (λ t. t || nat_le (2 ^ 62) m) no ∙ yet

room-for : (o : Option BufferState) (quota start : ℕ) (bytes : List ℕ) → 2 ^ 62 ≤ quota → IfSome o (IsHeldBefore start) → start + length bytes < 2 ^ 62 → HasRoomFor (Some bytes) quota o
room-for None quota start bytes q h l = tt
room-for (Some b) quota start bytes q h l =
    let read = h.read in
    not-full 0 quota (used_in b.content.media) (length b.feed.reading.string.whole + length bytes) q h.used (omega (arith, read, l))

unless : (o : Option FaultView) (P : Type 0) → P → IfNoFault o P
unless None P h = h
unless (Some fault) P h = tt

pub piece-core : (blobs : List (List ℕ)) (k : ℕ) (st : State) (piece : Piece) → HasRoomForCall blobs (core_of st) (AppendBuffer k piece) → core_of (after_piece blobs k st piece) ≡ drain_core (append_some (bytes_of blobs piece) k (core_of st))
piece-core blobs k st piece room =
    line-core blobs (after_line blobs st (Call (AppendBuffer k piece))) Drain tt ∙ ap (λ c. drain_core c) (line-core blobs st (Call (AppendBuffer k piece)) room)

-- just before a piece of these bytes
pub piece-room : (blobs : List (List ℕ)) (k : ℕ) (c : Core) (piece : Piece) (start : ℕ) (some : List ℕ) → bytes_of blobs piece ≡ Some some → start + length some < 2 ^ 62 → HasRoomForFile start k c → HasRoomForCall blobs c (AppendBuffer k piece)
piece-room blobs k c piece start some e l h =
    subst (λ x. HasRoomFor x c.source.quota (in_slot k c.buffers)) (sym e) (room-for (in_slot k c.buffers) c.source.quota start some h.quota h.slot l)

rooms : (pieces : List Piece) (blobs : List (List ℕ)) (k : ℕ) (st : State) (start : ℕ) (bytes : List ℕ) → bytes_of_pieces blobs pieces ≡ Some bytes → start + length bytes < 2 ^ 62
    → lowest st.buffers ≡ None → HasRoomForFile start k (core_of st) → IsRoomBeforeEach blobs k st pieces
rooms [] blobs k st start bytes e short low h = tt
rooms (piece ∷ pieces) blobs k st start bytes e short low h =
    let p = parted (bytes_of blobs piece) (bytes_of_pieces blobs pieces) bytes e in
    let long : length bytes ≡ length p.first + length p.more = ap (λ (xs : List ℕ). length xs) (sym p.bytes_are) ∙ length-append p.first p.more in
    let room : HasRoomForCall blobs (core_of st) (AppendBuffer k piece) = piece-room blobs k (core_of st) piece start p.first p.first_is (omega (arith, long, short)) h in
    let new : State = after_piece blobs k st piece in
    let core : core_of new ≡ drain_core (append_core p.first k (core_of st)) = piece-core blobs k st piece room ∙ ap (λ x. drain_core (append_some x k (core_of st))) p.first_is in
    let rests : lowest new.buffers ≡ None = ap (λ (c : Core). lowest c.buffers) core ∙ append-rests p.first k (core_of st) low in
    let held : HasRoomForFile (start + length p.first) k (core_of new) = subst (λ (c : Core). HasRoomForFile (start + length p.first) k c) (sym core) (core-holds start p.first k (core_of st) low h) in
    let few : start + length p.first + length p.more < 2 ^ 62 = omega (arith, long, short) in
    unless st.source.fault _ (room, rooms pieces blobs k new (start + length p.first) p.more p.more_is few rests held)

pub file-rooms : (blobs : List (List ℕ)) (k : ℕ) (st : State) (start : ℕ) (bytes : List ℕ) (pieces : List Piece) → bytes_of_pieces blobs pieces ≡ Some bytes → start + length bytes < 2 ^ 62
    → running_in st ≡ None → HasRoomForFile start k (core_of st) → IsRoomBeforeEach blobs k st pieces
file-rooms blobs k st start bytes pieces e short idle h = rooms pieces blobs k st start bytes e short (sym (lowest-is st.buffers) ∙ idle) h
