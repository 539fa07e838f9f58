-- A coded frame that comes next is of a video or audio track of the latest presentation, and so finds its track buffer.
use Rattle.std.proofs.Common.{◌≡◌, ◌∙◌, ℕ, pos, Bool, true, false, cond, List, [], ◌∷◌, filter, find, refl, sym, ap, subst}
use Rattle.std.specs.Prelude.{Option, Some, None, Ok, IsSome, IfSome, IsSomeAnd, IsTrue, slice_get}
use Rattle.std.specs.List.{All}
use Rattle.std.specs.Option.{option_map}
use Rattle.std.proofs.lemmas.List.Elements.{All-get_or}
use Rattle.std.proofs.lemmas.Option.{slice_get-map, slice_get_within, get_or_from_slice_get}
use lib.Chars.{codes}
use Rattle.mse_base.specs.declared.frame.CodedFrame.{CodedFrame}
use Rattle.mse_base.specs.declared.track.Presentation.{Presentation}
use Rattle.mse_base.specs.declared.track.TrackInfo.{TrackInfo}
use Rattle.mse_base.specs.Moments.{is_media}
use Rattle.mse_base.specs.Presentation.{has_id}
use Rattle.mse_types.specs.declared.answer.Container.{Container}
use Rattle.mse_types.specs.declared.answer.Container.TheVariants.{Mp4, Adts}
use Rattle.bmff_boxes.specs.Children.{payload_of}
use Rattle.bmff_boxes.specs.Reading.{need}
use Rattle.bmff_boxes.specs.Rows.{row_of, first_of, all_of}
use Rattle.bmff_boxes.proofs.ReadingLaws.{through}
use Rattle.bmff_fragment.specs.declared.fault.MoofFault.TheVariants.{Size, NoTraf}
use Rattle.bmff_fragment.specs.declared.slot.Slot.{Slot}
use Rattle.bmff_fragment.specs.Plans.{plan_of}
use Rattle.bmff_fragment.proofs.SlotTracks.{IsMedia, media_trafs}
use Rattle.parser_loop.specs.Items.{Item, InitItem, FrameItem, SegmentEnd, FaultItem, with_fault}
use Rattle.parser_loop.specs.Parse.{ParserView}
use Rattle.parser_loop.specs.StringReadings.{StringReading}
use Rattle.segment_walk.specs.Segments as segment
use Rattle.segment_walk.proofs.Announced.{frame-announced}
use Rattle.segment_walk.proofs.Boxes.{latest-boxes}
use Rattle.segment_stream.proofs.StreamLaws as segment_stream
use Rattle.adts_stream.specs.Frames.{presentation_of}
use Rattle.adts_stream.specs.Frames as frame
use Rattle.adts_stream.specs.Walk.{WalkState}
use Rattle.adts_stream.proofs.FrameLaws.{view-frames}
use Rattle.adts_stream.proofs.Places.{item-place}
use Rattle.adts_stream.proofs.SeenFrames.{frame-seen}
use Rattle.adts_stream.proofs.StreamLaws.{is-state}
use Rattle.byte_stream.specs.declared.next.ByteFault.{ByteFault}
use Rattle.byte_stream.specs.declared.next.ByteFault.TheVariants.{Segments, Frames}
use Rattle.byte_stream.specs.Readings as reading
use Rattle.byte_stream.specs.Streams.{ParserState, OfSegments, OfFrames, StandsIn, latest_kept}
use Rattle.track_store.specs.State.{TrackState}
use Rattle.track_buffers.specs.Frames.{place_of}
use Rattle.track_buffers.specs.Initialized.{is_media_track, media_tracks}
use Rattle.track_buffers.specs.Numbers.{HasBuffers, IsOfMediaTrack}
use Rattle.track_buffers.proofs.InitTracks.{frame_found}
use Rattle.buffer_state.specs.State.{Feed, Content, KeptBuffer, Stands, next_item}
use Rattle.buffer_state.specs.Finding.{IsOfContainer, HasBuffersForFrames}

-- the coded frame is of a video or audio track of this presentation, which is there
record IsOfLatest (o : Option Presentation) (x : CodedFrame) : Type 0 where
  p : Presentation
  is : o ≡ Some p
  media : IsOfMediaTrack x p

-- ---- in a string of segments

plan_media : (tracks : List TrackInfo) (moof : List ℕ) (slots : List Slot) → plan_of tracks moof ≡ Ok slots → All (IsMedia tracks) slots
unfolding plan_of
plan_media tracks moof slots e =
    let a = through (need Size (payload_of moof)) _ slots e in
    let b = through (need Size (row_of a.value)) _ slots a.then in
    let c = through (need NoTraf (first_of (codes "traf") b.value)) _ slots b.then in
    media_trafs tracks 0 (pos 0) (all_of (codes "traf") b.value) slots c.then

among_step : (b m : Bool) (u : TrackInfo) (us : List TrackInfo) (id : ℕ) → has_id id u ≡ b → is_media_track u ≡ m → IsSomeAnd (cond b (Some u) (find (has_id id) us)) (λ t. IsTrue (is_media t.kind)) → (IsSomeAnd (find (has_id id) us) (λ t. IsTrue (is_media t.kind)) → IsSome (find (has_id id) (filter is_media_track us))) → IsSome (find (has_id id) (cond m (u ∷ filter is_media_track us) (filter is_media_track us)))
among_step true true u us id e k h rest = subst (λ b. IsSome (cond b (Some u) (find (has_id id) (filter is_media_track us)))) (sym e) refl
among_step true false u us id e k h rest = absurd cc
among_step false true u us id e k h rest = subst (λ b. IsSome (cond b (Some u) (find (has_id id) (filter is_media_track us)))) (sym e) (rest h)
among_step false false u us id e k h rest = rest h

-- a track of the number that is video or audio is among those
among_media : (us : List TrackInfo) (id : ℕ) → IsSomeAnd (find (has_id id) us) (λ t. IsTrue (is_media t.kind)) → IsSome (find (has_id id) (filter is_media_track us))
among_media [] id h = absurd h
among_media (u ∷ us) id h = among_step (has_id id u) (is_media_track u) u us id refl refl h (among_media us id)

of_segments : (r : StringReading) (x : CodedFrame) (at : ℕ) → segment.next_item r ≡ Some (FrameItem x at) → IsOfLatest (segment.latest_before r) x
of_segments r x at e =
    let h = frame-announced r x at e in
    let p : Presentation = h.announced.presentation in
    let all = plan_media p.tracks (segment.box_at r.whole h.moof) h.slots h.announced.plan in
    let own : IsMedia p.tracks h.slot =
    subst (IsMedia p.tracks) (get_or_from_slice_get h.slots h.place h.slot h.slot h.is_slot) (All-get_or (IsMedia p.tracks) h.slots h.place h.slot (slice_get_within h.slots h.place h.slot h.is_slot) all) in
    record {
      p = p;
      is = h.announced.is_latest;
      media = subst (λ (n : ℕ). IsSome (find (has_id n) (media_tracks p))) (sym h.track) (among_media p.tracks h.slot.track_id own);
    }

-- ---- in a string of ADTS frames

-- such a presentation has one track, which is audio and has the number of each frame
of_one_track : (o : Option Presentation) (x : CodedFrame) → IsSome o → x.track_id ≡ 1 → IfSome o (IsOfContainer Adts) → IsOfLatest o x
of_one_track None x some id h = absurd cc
of_one_track (Some p) x some id h = record {
  p = p;
  is = refl;
  media = subst (λ (q : Presentation). IsOfMediaTrack x q) (sym h.1) (subst (λ (n : ℕ). IsSome (find (has_id n) (media_tracks (presentation_of h.0)))) (sym id) refl);
}

-- ---- in either

frame_there : {F : Type 0} (g : F → ByteFault) (o : Option (Item F)) (x : CodedFrame) (at : ℕ) → option_map (with_fault g) o ≡ Some (FrameItem x at) → o ≡ Some (FrameItem x at)
frame_there g None x at e = absurd cc
frame_there g (Some (InitItem p i)) x at e = absurd cc
frame_there g (Some (FrameItem y i)) x at e = cc
frame_there g (Some SegmentEnd) x at e = absurd cc
frame_there g (Some (FaultItem y i)) x at e = absurd cc

of_latest : (k : ParserState) (container : Container) (r : StringReading) (x : CodedFrame) (at : ℕ) → StandsIn k container r → IfSome (latest_kept k) (IsOfContainer container) → slice_get (reading.items_of container r.before r.whole) r.taken ≡ Some (FrameItem x at) → IsOfLatest (latest_kept k) x
of_latest (OfSegments kept) Mp4 r x at h own e =
    let items = segment.items_of_string r.before r.whole in
    let there = frame_there (λ f. Segments f) (slice_get items r.taken) x at (sym (slice_get-map reading.of_segments items r.taken) ∙ e) in
    subst (λ (o : Option Presentation). IsOfLatest o x) (latest-boxes r ∙ sym (segment_stream.stands-latest kept r h)) (of_segments r x at there)
of_latest (OfFrames kept) Adts r x at h own e =
    let items = frame.items_of_string r.before r.whole in
    let there = frame_there (λ f. Frames f) (slice_get items r.taken) x at (sym (slice_get-map reading.of_frames items r.taken) ∙ e) in
    let seen = ap (λ (v : ParserView). v.latest) (view-frames r) ∙ sym (ap (λ (s : WalkState). s.last) (is-state kept r h)) in
    let some = subst (λ (o : Option Presentation). IsSome o) seen (frame-seen r x at there) in
    of_one_track kept.last x some (ap (λ (y : CodedFrame). y.track_id) (item-place r.before r.whole r.taken (FrameItem x at) there).is) own
of_latest (OfSegments kept) Adts r x at h own e = absurd h
of_latest (OfFrames kept) Mp4 r x at h own e = absurd h

found_by : (o : Option Presentation) (x : CodedFrame) (ts : List TrackState) → IsOfLatest o x → IfSome o (λ p. HasBuffers p ts) → IsSome (place_of x.track_id ts)
found_by o x ts h own = frame_found h.p ts x (subst (λ (q : Option Presentation). IfSome q (λ p. HasBuffers p ts)) h.is own) h.media

pub frame_finds : (k : KeptBuffer) (f : Feed) (c : Content) (x : CodedFrame) (at : ℕ) → Stands k f c → HasBuffersForFrames f c → next_item f ≡ Some (FrameItem x at) → IsSome (place_of x.track_id c.media.tracks)
frame_finds k f c x at s h e =
    let own = subst (λ (o : Option Presentation). IfSome o (IsOfContainer f.reading.container)) (sym s.latest) h.of_container in
    found_by c.latest x c.media.tracks (subst (λ (o : Option Presentation). IsOfLatest o x) s.latest (of_latest k.stream.parser f.reading.container f.reading.string x at s.stream.parser own e)) h.buffers
