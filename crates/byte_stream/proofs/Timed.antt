-- An initialization segment that a stream shows says how long its media last.
use Rattle.std.proofs.Common.{◌≡◌, ℕ, Option, Some, None, slice_get, Result, Ok, Err, IfOk, IfSome, refl, sym, subst}
use Rattle.std.specs.Option.{option_map}
use Rattle.std.proofs.lemmas.Option.{slice_get-map}
use Rattle.mse_types.specs.declared.answer.Container.{Container}
use Rattle.mse_types.specs.declared.answer.Container.TheVariants.{Mp4, Adts}
use Rattle.parser_loop.specs.Items.{Item, InitItem, FrameItem, SegmentEnd, FaultItem, IsTimed, answer_item, with_fault}
use Rattle.parser_loop.specs.StringReadings.{StringReading}
use Rattle.parser_loop.specs.declared.next.Next.{Next}
use Rattle.segment_walk.specs.Segments as segment
use Rattle.segment_stream.proofs.StreamLaws as segment_stream
use Rattle.adts_stream.specs.Frames as frame
use Rattle.adts_stream.proofs.StreamLaws as frame_stream
use Rattle.byte_stream.specs.declared.next.ByteFault.{ByteFault}
use Rattle.byte_stream.specs.Readings.{ByteItem, of_segments, of_frames, items_of, items_in}
use Rattle.byte_stream.specs.Streams.{StreamView, ForEachReading, HasReading}

timed-with : {F : Type 0} (g : F → ByteFault) (item : Item F) → IsTimed item → IsTimed (with_fault g item)
timed-with g (InitItem p at) h = h
timed-with g (FrameItem f at) h = tt
timed-with g SegmentEnd h = tt
timed-with g (FaultItem f at) h = tt

timed-mapped : {F : Type 0} (g : F → ByteFault) (o : Option (Item F)) → IfSome o IsTimed → IfSome (option_map (with_fault g) o) IsTimed
timed-mapped g None h = tt
timed-mapped g (Some item) h = timed-with g item h

timed-of : (container : Container) (r : StringReading) (i : ℕ) → IfSome (slice_get (items_of container r.before r.whole) i) IsTimed
timed-of Mp4 r i =
    let items = segment.items_of_string r.before r.whole in
    subst (λ (o : Option ByteItem). IfSome o IsTimed) (sym (slice_get-map of_segments items i)) (timed-mapped _ (slice_get items i) (segment_stream.timed-of r i (slice_get items i) refl))
timed-of Adts r i =
    let items = frame.items_of_string r.before r.whole in
    subst (λ (o : Option ByteItem). IfSome o IsTimed) (sym (slice_get-map of_frames items i)) (timed-mapped _ (slice_get items i) (frame_stream.timed-of r i (slice_get items i) refl))

pub timed-answer : {E : Type 0} (result : Result (Next ByteFault) E) (s : StreamView) (at : ℕ → ℕ) → HasReading s → ForEachReading s (λ r. IfOk result (λ next. answer_item next ≡ slice_get (items_in r) (at r.string.taken))) → IfOk result (λ next. IfSome (answer_item next) IsTimed)
timed-answer (Ok next) s at h f = subst (λ (o : Option ByteItem). IfSome o IsTimed) (sym (f h.reading h.stands)) (timed-of h.reading.container h.reading.string (at h.reading.string.taken))
timed-answer (Err e) s at h f = tt
