-- What it says of what is kept that a stream stands for a reading.
use Rattle.std.proofs.Common.{◌≡◌, ◌≤◌, length, take, drop, ap, sym, ◌∙◌, arith}
use Rattle.std.proofs.lemmas.List.{take-map, drop-map, length-map}
use Rattle.mse_types.specs.declared.answer.Container.{Container}
use Rattle.mse_types.specs.declared.answer.Container.TheVariants.{Mp4, Adts}
use Rattle.parser_loop.specs.Items.{leading_frames, latest_after_all}
use Rattle.parser_loop.specs.StringReadings.{StringReading}
use Rattle.parser_loop.proofs.ItemLaws.{with-latest-all, with-frames}
use Rattle.segment_walk.specs.Segments as segment
use Rattle.segment_walk.proofs.Boxes.{items-boxes}
use Rattle.segment_stream.proofs.StreamLaws as segment_stream
use Rattle.adts_stream.specs.Frames as frame
use Rattle.adts_stream.proofs.StreamLaws as frame_stream
use Rattle.byte_stream.specs.declared.next.ByteFault.TheVariants.{Segments, Frames}
use Rattle.byte_stream.specs.Readings.{of_segments, of_frames, items_of, view_of}
use Rattle.byte_stream.specs.Streams.{ParserState, OfSegments, OfFrames, StandsIn, latest_kept, ready_kept, phase_kept, held_kept}

pub latest-segments : (r : StringReading) → latest_after_all r.before (take r.taken (items_of Mp4 r.before r.whole)) ≡ latest_after_all r.before (take r.taken (segment.items_of_string r.before r.whole))
latest-segments r =
    let items = segment.items_of_string r.before r.whole in
    ap (latest_after_all r.before) (take-map of_segments r.taken items) ∙ with-latest-all (λ f. Segments f) r.before (take r.taken items)

pub latest-frames : (r : StringReading) → latest_after_all r.before (take r.taken (items_of Adts r.before r.whole)) ≡ latest_after_all r.before (take r.taken (frame.items_of_string r.before r.whole))
latest-frames r =
    let items = frame.items_of_string r.before r.whole in
    ap (latest_after_all r.before) (take-map of_frames r.taken items) ∙ with-latest-all (λ f. Frames f) r.before (take r.taken items)

pub latest-is : (k : ParserState) (container : Container) (r : StringReading) → StandsIn k container r → latest_kept k ≡ latest_after_all r.before (take r.taken (items_of container r.before r.whole))
latest-is (OfSegments kept) Mp4 r h = segment_stream.stands-latest kept r h ∙ sym (latest-segments r)
latest-is (OfFrames kept) Adts r h = frame_stream.stands-latest kept r h ∙ sym (latest-frames r)
latest-is (OfSegments kept) Adts r h = absurd h
latest-is (OfFrames kept) Mp4 r h = absurd h

pub given-is : (k : ParserState) (container : Container) (r : StringReading) → StandsIn k container r → r.taken ≤ length (items_of container r.before r.whole)
given-is (OfSegments kept) Mp4 r h = omega (arith, h.taken, ap length (items-boxes r.before r.whole), length-map (segment.items_of_string r.before r.whole) of_segments)
given-is (OfFrames kept) Adts r h = omega (arith, frame_stream.stands-given kept r h, length-map (frame.items_of_string r.before r.whole) of_frames)
given-is (OfSegments kept) Adts r h = absurd h
given-is (OfFrames kept) Mp4 r h = absurd h

pub ready-is : (k : ParserState) (container : Container) (r : StringReading) → StandsIn k container r → ready_kept k ≡ length (leading_frames (drop r.taken (items_of container r.before r.whole)))
ready-is (OfSegments kept) Mp4 r h =
    let items = segment.items_of_string r.before r.whole in
    segment_stream.stands-count kept r h ∙ sym (ap (λ xs. length (leading_frames xs)) (drop-map of_segments r.taken items) ∙ ap length (with-frames (λ f. Segments f) (drop r.taken items)))
ready-is (OfFrames kept) Adts r h =
    let items = frame.items_of_string r.before r.whole in
    frame_stream.stands-ready kept r h ∙ sym (ap (λ xs. length (leading_frames xs)) (drop-map of_frames r.taken items) ∙ ap length (with-frames (λ f. Frames f) (drop r.taken items)))
ready-is (OfSegments kept) Adts r h = absurd h
ready-is (OfFrames kept) Mp4 r h = absurd h

pub phase-is : (k : ParserState) (container : Container) (r : StringReading) → StandsIn k container r → phase_kept k ≡ (view_of container r).phase
phase-is (OfSegments kept) Mp4 r h = segment_stream.stands-phase kept r h
phase-is (OfFrames kept) Adts r h = frame_stream.stands-phase kept r h
phase-is (OfSegments kept) Adts r h = absurd h
phase-is (OfFrames kept) Mp4 r h = absurd h

pub held-is : (k : ParserState) (container : Container) (r : StringReading) → StandsIn k container r → held_kept k ≡ (view_of container r).held
held-is (OfSegments kept) Mp4 r h = segment_stream.stands-held kept r h
held-is (OfFrames kept) Adts r h = frame_stream.stands-held kept r h
held-is (OfSegments kept) Adts r h = absurd h
held-is (OfFrames kept) Mp4 r h = absurd h
