-- What the calls of each parser say of the byte stream.
use Rattle.std.proofs.Common.{◌≡◌, ℕ, ◌+◌, List, length, Option, Some, None, Result, Ok, Err, IfOk, slice_get, refl, ap, sym, ◌∙◌, subst, arith}
use Rattle.std.specs.Prelude.{IfSome}
use Rattle.std.specs.Option.{option_map}
use Rattle.std.proofs.lemmas.List.{length-append}
use Rattle.std.proofs.lemmas.Option.{slice_get-map}
use Rattle.mse_base.specs.declared.frame.CodedFrame.{CodedFrame}
use Rattle.mse_base.specs.declared.track.Presentation.{Presentation}
use Rattle.mse_types.specs.declared.answer.Container.{Container}
use Rattle.mse_types.specs.declared.answer.Container.TheVariants.{Mp4, Adts}
use Rattle.parser_loop.specs.Walk.{count_after}
use Rattle.parser_loop.specs.Items.{Item, FrameItem, latest_after_any, with_fault}
use Rattle.parser_loop.specs.StringReadings.{StringReading}
use Rattle.parser_loop.specs.StringReadings as string
use Rattle.parser_loop.proofs.ItemLaws.{with-latest}
use Rattle.segment_walk.specs.Segments as segment
use Rattle.segment_walk.specs.Tables.{SegmentItem}
use Rattle.segment_stream.specs.Streams as segment_stream
use Rattle.adts_stream.specs.Frames as frame
use Rattle.adts_stream.specs.Streams as frame_stream
use Rattle.byte_stream.specs.declared.next.ByteFault.{ByteFault}
use Rattle.byte_stream.specs.declared.next.ByteFault.TheVariants.{Segments, Frames}
use Rattle.byte_stream.specs.declared.parser.Parser.TheVariants as parser
use Rattle.byte_stream.specs.Readings.{ByteItem, of_segments, of_frames, items_of, items_in, with_bytes, after_answer, after_reset}
use Rattle.byte_stream.specs.Streams.{OfSegments, OfFrames, StandsIn, ForEachReading, StandsAfter, stream_view}
use Rattle.byte_stream.proofs.KeptStreams.{latest-segments, latest-frames}

count-mapped : {A B : Type 0} (f : A → B) (n : ℕ) (o : Option A) → count_after n (option_map f o) ≡ count_after n o
count-mapped f n None = refl
count-mapped f n (Some item) = refl

-- ---- an item that was shown

in-segments : (s : segment_stream.SegmentView) (x : Option SegmentItem) (o : Option ByteItem) (at : ℕ → ℕ) → o ≡ option_map of_segments x → segment_stream.ForEachReading s (λ r. x ≡ slice_get (segment.items_of_string r.before r.whole) (at r.taken)) → (container : Container) (r : StringReading) → s.fed ≡ length r.whole → StandsIn (OfSegments s.kept) container r → o ≡ slice_get (items_of container r.before r.whole) (at r.taken)
in-segments s x o at e f Mp4 r g h = e ∙ ap (option_map of_segments) (f r (record { kept = h; fed = g })) ∙ sym (slice_get-map of_segments (segment.items_of_string r.before r.whole) (at r.taken))
in-segments s x o at e f Adts r g h = absurd h

pub seen-segments : (s : segment_stream.SegmentView) (x : Option SegmentItem) (o : Option ByteItem) (at : ℕ → ℕ) → o ≡ option_map of_segments x → segment_stream.ForEachReading s (λ r. x ≡ slice_get (segment.items_of_string r.before r.whole) (at r.taken)) → ForEachReading (stream_view (parser.Segments s)) (λ r. o ≡ slice_get (items_in r) (at r.string.taken))
seen-segments s x o at e f r h = in-segments s x o at e f r.container r.string h.fed h.parser

in-frames : (s : frame_stream.AdtsView) (x : Option frame.AdtsItem) (o : Option ByteItem) (at : ℕ → ℕ) → o ≡ option_map of_frames x → frame_stream.ForEachReading s (λ r. x ≡ slice_get (frame.items_of_string r.before r.whole) (at r.taken)) → (container : Container) (r : StringReading) → s.fed ≡ length r.whole → StandsIn (OfFrames s.state) container r → o ≡ slice_get (items_of container r.before r.whole) (at r.taken)
in-frames s x o at e f Adts r g h = e ∙ ap (option_map of_frames) (f r (record { kept = h; fed = g })) ∙ sym (slice_get-map of_frames (frame.items_of_string r.before r.whole) (at r.taken))
in-frames s x o at e f Mp4 r g h = absurd h

pub seen-frames : (s : frame_stream.AdtsView) (x : Option frame.AdtsItem) (o : Option ByteItem) (at : ℕ → ℕ) → o ≡ option_map of_frames x → frame_stream.ForEachReading s (λ r. x ≡ slice_get (frame.items_of_string r.before r.whole) (at r.taken)) → ForEachReading (stream_view (parser.Frames s)) (λ r. o ≡ slice_get (items_in r) (at r.string.taken))
seen-frames s x o at e f r h = in-frames s x o at e f r.container r.string h.fed h.parser

-- where none was shown, there is none
nothing-shown : {F : Type 0} (g : F → ByteFault) (x : Option (Item F)) (o : Option ByteItem) → o ≡ option_map (with_fault g) x → o ≡ None → x ≡ None
nothing-shown g None o e h = refl
nothing-shown g (Some item) o e h = absurd (cc)

-- the latest presentation is the same behind both
same-latest : {F : Type 0} (g : F → ByteFault) (last new : Option Presentation) (x : Option (Item F)) (o : Option ByteItem) → o ≡ option_map (with_fault g) x → new ≡ latest_after_any last x → new ≡ latest_after_any last o
same-latest g last new None o e h = h ∙ sym (ap (latest_after_any last) e)
same-latest g last new (Some item) o e h = h ∙ sym (ap (latest_after_any last) e ∙ with-latest g last item)

pub latest-segments-next : (s t : segment_stream.SegmentView) (x : Option SegmentItem) (o : Option ByteItem) → o ≡ option_map of_segments x → t.kept.state.last ≡ latest_after_any s.kept.state.last x → t.kept.state.last ≡ latest_after_any s.kept.state.last o
latest-segments-next s t x o e h = same-latest (λ f. Segments f) s.kept.state.last t.kept.state.last x o e h

pub latest-frames-next : (s t : frame_stream.AdtsView) (x : Option frame.AdtsItem) (o : Option ByteItem) → o ≡ option_map of_frames x → t.state.last ≡ latest_after_any s.state.last x → t.state.last ≡ latest_after_any s.state.last o
latest-frames-next s t x o e h = same-latest (λ f. Frames f) s.state.last t.state.last x o e h

pub dry-segments : (s t : segment_stream.SegmentView) (x : Option SegmentItem) (o : Option ByteItem) → o ≡ option_map of_segments x → (x ≡ None → t ≡ s) → o ≡ None → stream_view (parser.Segments t) ≡ stream_view (parser.Segments s)
dry-segments s t x o e f h = ap (λ (v : segment_stream.SegmentView). stream_view (parser.Segments v)) (f (nothing-shown (λ f. Segments f) x o e h))

pub dry-frames : (s t : frame_stream.AdtsView) (x : Option frame.AdtsItem) (o : Option ByteItem) → o ≡ option_map of_frames x → (x ≡ None → t ≡ s) → o ≡ None → stream_view (parser.Frames t) ≡ stream_view (parser.Frames s)
dry-frames s t x o e f h = ap (λ (v : frame_stream.AdtsView). stream_view (parser.Frames v)) (f (nothing-shown (λ f. Frames f) x o e h))

-- ---- behind it

after-segments : (s t : segment_stream.SegmentView) (x : Option SegmentItem) (o : Option ByteItem) → o ≡ option_map of_segments x → segment_stream.StandsAfter s (string.after_answer x) t → (container : Container) (r : StringReading) → s.fed ≡ length r.whole → StandsIn (OfSegments s.kept) container r → StandsIn (OfSegments t.kept) container (string.after_answer o r)
after-segments s t x o e f Mp4 r g h = subst (λ k. segment_stream.IsKeptFor t.kept (record { before = r.before; whole = r.whole; taken = k })) (sym (ap (count_after r.taken) e ∙ count-mapped of_segments r.taken x)) (f r (record { kept = h; fed = g })).kept
after-segments s t x o e f Adts r g h = absurd h

pub behind-segments : (s t : segment_stream.SegmentView) (x : Option SegmentItem) (o : Option ByteItem) → o ≡ option_map of_segments x → t.fed ≡ s.fed → segment_stream.StandsAfter s (string.after_answer x) t → StandsAfter (stream_view (parser.Segments s)) (after_answer o) (stream_view (parser.Segments t))
behind-segments s t x o e g f r h = record { parser = after-segments s t x o e f r.container r.string h.fed h.parser; fed = g ∙ h.fed }

after-frames : (s t : frame_stream.AdtsView) (x : Option frame.AdtsItem) (o : Option ByteItem) → o ≡ option_map of_frames x → frame_stream.StandsAfter s (string.after_answer x) t → (container : Container) (r : StringReading) → s.fed ≡ length r.whole → StandsIn (OfFrames s.state) container r → StandsIn (OfFrames t.state) container (string.after_answer o r)
after-frames s t x o e f Adts r g h = subst (λ k. frame_stream.IsKeptFor t.state (record { before = r.before; whole = r.whole; taken = k })) (sym (ap (count_after r.taken) e ∙ count-mapped of_frames r.taken x)) (f r (record { kept = h; fed = g })).kept
after-frames s t x o e f Mp4 r g h = absurd h

pub behind-frames : (s t : frame_stream.AdtsView) (x : Option frame.AdtsItem) (o : Option ByteItem) → o ≡ option_map of_frames x → t.fed ≡ s.fed → frame_stream.StandsAfter s (string.after_answer x) t → StandsAfter (stream_view (parser.Frames s)) (after_answer o) (stream_view (parser.Frames t))
behind-frames s t x o e g f r h = record { parser = after-frames s t x o e f r.container r.string h.fed h.parser; fed = g ∙ h.fed }

-- ---- a frame that was given

pub frame-in-segments : {E : Type 0} (result : Result (CodedFrame × ℕ) E) (s : segment_stream.SegmentView) → segment_stream.ForEachReading s (λ r. IfOk result (λ x. Some (FrameItem x.0 x.1) ≡ slice_get (segment.items_of_string r.before r.whole) r.taken)) → ForEachReading (stream_view (parser.Segments s)) (λ r. IfOk result (λ x. Some (FrameItem x.0 x.1) ≡ slice_get (items_in r) r.string.taken))
frame-in-segments (Ok x) s f = seen-segments s (Some (FrameItem x.0 x.1)) (Some (FrameItem x.0 x.1)) (λ n. n) refl f
frame-in-segments (Err e) s f = λ r h. tt

pub frame-behind-segments : {E : Type 0} (result : Result (CodedFrame × ℕ) E) (s t : segment_stream.SegmentView) → t.fed ≡ s.fed → IfOk result (λ x. segment_stream.StandsAfter s (string.after_answer {I = SegmentItem} (Some (FrameItem x.0 x.1))) t) → IfOk result (λ x. StandsAfter (stream_view (parser.Segments s)) (after_answer (Some (FrameItem x.0 x.1))) (stream_view (parser.Segments t)))
frame-behind-segments (Ok x) s t g f = behind-segments s t (Some (FrameItem x.0 x.1)) (Some (FrameItem x.0 x.1)) refl g f
frame-behind-segments (Err e) s t g f = tt

-- ---- bytes are appended

more-segments : (s t : segment_stream.SegmentView) (bytes : List ℕ) → segment_stream.StandsAfter s (string.with_bytes bytes) t → (container : Container) (r : StringReading) → s.fed ≡ length r.whole → StandsIn (OfSegments s.kept) container r → StandsIn (OfSegments t.kept) container (string.with_bytes bytes r)
more-segments s t bytes f Mp4 r g h = (f r (record { kept = h; fed = g })).kept
more-segments s t bytes f Adts r g h = absurd h

offered-segments : (s t : segment_stream.SegmentView) (o : Option (List ℕ)) → IfSome o (λ bytes. segment_stream.StandsAfter s (string.with_bytes bytes) t) → IfSome o (λ bytes. t.fed ≡ s.fed + length bytes) → IfSome o (λ bytes. StandsAfter (stream_view (parser.Segments s)) (with_bytes bytes) (stream_view (parser.Segments t)))
offered-segments s t None f g = tt
offered-segments s t (Some bytes) f g = λ r h. record { parser = more-segments s t bytes f r.container r.string h.fed h.parser; fed = omega (arith, g, h.fed, length-append r.string.whole bytes) }

pub accept-segments : (s t : segment_stream.SegmentView) → IfSome s.offered (λ bytes. segment_stream.StandsAfter s (string.with_bytes bytes) t) → IfSome s.offered (λ bytes. t.fed ≡ s.fed + length bytes) → IfSome s.offered (λ bytes. StandsAfter (stream_view (parser.Segments s)) (with_bytes bytes) (stream_view (parser.Segments t)))
accept-segments s t f g = offered-segments s t s.offered f g

more-frames : (s t : frame_stream.AdtsView) (bytes : List ℕ) → frame_stream.StandsAfter s (string.with_bytes bytes) t → (container : Container) (r : StringReading) → s.fed ≡ length r.whole → StandsIn (OfFrames s.state) container r → StandsIn (OfFrames t.state) container (string.with_bytes bytes r)
more-frames s t bytes f Adts r g h = (f r (record { kept = h; fed = g })).kept
more-frames s t bytes f Mp4 r g h = absurd h

offered-frames : (s t : frame_stream.AdtsView) (o : Option (List ℕ)) → IfSome o (λ bytes. frame_stream.StandsAfter s (string.with_bytes bytes) t) → IfSome o (λ bytes. t.fed ≡ s.fed + length bytes) → IfSome o (λ bytes. StandsAfter (stream_view (parser.Frames s)) (with_bytes bytes) (stream_view (parser.Frames t)))
offered-frames s t None f g = tt
offered-frames s t (Some bytes) f g = λ r h. record { parser = more-frames s t bytes f r.container r.string h.fed h.parser; fed = omega (arith, g, h.fed, length-append r.string.whole bytes) }

pub accept-frames : (s t : frame_stream.AdtsView) → IfSome s.offered (λ bytes. frame_stream.StandsAfter s (string.with_bytes bytes) t) → IfSome s.offered (λ bytes. t.fed ≡ s.fed + length bytes) → IfSome s.offered (λ bytes. StandsAfter (stream_view (parser.Frames s)) (with_bytes bytes) (stream_view (parser.Frames t)))
accept-frames s t f g = offered-frames s t s.offered f g

-- ---- a reset

anew-segments : (s t : segment_stream.SegmentView) → segment_stream.ForEachReading s (λ r. segment_stream.Stands t (string.after_reset (segment.items_of_string r.before r.whole) r)) → (container : Container) (r : StringReading) → s.fed ≡ length r.whole → StandsIn (OfSegments s.kept) container r → StandsIn (OfSegments t.kept) container (string.after_reset (items_of container r.before r.whole) r)
anew-segments s t f Mp4 r g h = subst (λ last. segment_stream.IsKeptFor t.kept (string.string_from last)) (sym (latest-segments r)) (f r (record { kept = h; fed = g })).kept
anew-segments s t f Adts r g h = absurd h

pub reset-segments : (s t : segment_stream.SegmentView) → segment_stream.ForEachReading s (λ r. segment_stream.Stands t (string.after_reset (segment.items_of_string r.before r.whole) r)) → t.fed ≡ 0 → StandsAfter (stream_view (parser.Segments s)) after_reset (stream_view (parser.Segments t))
reset-segments s t f g = λ r h. record { parser = anew-segments s t f r.container r.string h.fed h.parser; fed = g }

anew-frames : (s t : frame_stream.AdtsView) → frame_stream.ForEachReading s (λ r. frame_stream.Stands t (string.after_reset (frame.items_of_string r.before r.whole) r)) → (container : Container) (r : StringReading) → s.fed ≡ length r.whole → StandsIn (OfFrames s.state) container r → StandsIn (OfFrames t.state) container (string.after_reset (items_of container r.before r.whole) r)
anew-frames s t f Adts r g h = subst (λ last. frame_stream.IsKeptFor t.state (string.string_from last)) (sym (latest-frames r)) (f r (record { kept = h; fed = g })).kept
anew-frames s t f Mp4 r g h = absurd h

pub reset-frames : (s t : frame_stream.AdtsView) → frame_stream.ForEachReading s (λ r. frame_stream.Stands t (string.after_reset (frame.items_of_string r.before r.whole) r)) → t.fed ≡ 0 → StandsAfter (stream_view (parser.Frames s)) after_reset (stream_view (parser.Frames t))
reset-frames s t f g = λ r h. record { parser = anew-frames s t f r.container r.string h.fed h.parser; fed = g }
