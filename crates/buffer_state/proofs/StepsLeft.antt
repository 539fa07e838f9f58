-- The steps that are left become fewer.
use Rattle.std.proofs.Common.{◌≡◌, ◌∙◌, ◌+◌, ◌-◌, ◌<◌, ◌≤◌, ◌++◌, length, drop, sym, ap, arith, length-append, length-drop}
use Rattle.std.proofs.lemmas.List.{length-map}
use Rattle.std.specs.Prelude.{Option, Some, None, map}
use Rattle.mse_base.specs.declared.ticks.Moment.{Moment}
use Rattle.mse_types.specs.declared.answer.Container.{Container}
use Rattle.mse_types.specs.declared.answer.Container.TheVariants.{Mp4, Adts}
use Rattle.parser_loop.specs.Walk.{items_from, stay_at}
use Rattle.parser_loop.specs.StringReadings.{StringReading, after_answer}
use Rattle.parser_loop.proofs.Lookaheads.{stands-items}
use Rattle.segment_walk.specs.Moves.{segments}
use Rattle.segment_walk.specs.Strings as segment_string
use Rattle.segment_walk.proofs.WalkLaws as segment_laws
use Rattle.segment_walk.proofs.Boxes.{items-boxes}
use Rattle.adts_stream.specs.Walk.{adts}
use Rattle.adts_stream.specs.Walk as frame_walk
use Rattle.adts_stream.proofs.WalkLaws as frame_laws
use Rattle.adts_stream.proofs.FrameLaws.{items-frames}
use Rattle.byte_stream.specs.Readings.{ByteItem, items_of, items_in, of_segments, of_frames}
use Rattle.byte_stream.specs.Streams.{StreamView, StandsIn, OfSegments, OfFrames, HasReading}
use Rattle.byte_stream.specs.Streams as byte_stream
use Rattle.track_buffers.specs.Media.{Media}
use Rattle.buffer_state.specs.declared.running.Running.{Running}
use Rattle.buffer_state.specs.declared.running.Running.TheVariants.{Append}
use Rattle.buffer_state.specs.declared.turns.ItemEffect.{ItemEffect}
use Rattle.buffer_state.specs.declared.turns.ItemEffect.TheVariants as step
use Rattle.buffer_state.specs.State.{Content, kept_buffer}
use Rattle.buffer_state.specs.Steps.{IsLeftByStep, step_result, step_of_item}
use Rattle.buffer_state.specs.StepsLeft.{items_left, steps_left}
use Rattle.buffer_state.proofs.AppendSteps.{IsStreamAfter}

-- the items that are left are those of the string but for the ones that were given
pub left : (k : byte_stream.ParserState) (container : Container) (r : StringReading) → StandsIn k container r → items_left k + r.taken ≡ length (items_of container r.before r.whole)
left (OfSegments k) Mp4 r h =
    let items = segment_string.walk_items r.before r.whole in
    let parts : drop r.taken items ≡ k.items ++ items_from segments k.state = stands-items segments segment_laws.is_walk k (segment_string.start r.before r.whole) r.taken h in
    let lengths : length items - r.taken ≡ length k.items + length (items_from segments k.state) = sym (length-drop r.taken items) ∙ ap length parts ∙ length-append k.items (items_from segments k.state) in
    let taken : r.taken ≤ length items = h.taken in
    let mapped : length (items_of Mp4 r.before r.whole) ≡ length items = ap (λ xs. length (map of_segments xs)) (sym (items-boxes r.before r.whole)) ∙ length-map items of_segments in
    omega arith
left (OfFrames s) Adts r h =
    let items = items_from adts (frame_walk.start r.before r.whole) in
    let parts : drop r.taken items ≡ items_from adts s = stands-items adts frame_laws.is_walk (stay_at s) (frame_walk.start r.before r.whole) r.taken h in
    let lengths : length items - r.taken ≡ length (items_from adts s) = sym (length-drop r.taken items) ∙ ap length parts in
    let taken : r.taken ≤ length items = h.taken in
    let mapped : length (items_of Adts r.before r.whole) ≡ length items = ap (λ xs. length (map of_frames xs)) (items-frames r.before r.whole) ∙ length-map items of_frames in
    omega arith
left (OfSegments k) Adts r h = absurd h
left (OfFrames s) Mp4 r h = absurd h

-- an item that is given is one less
one-less : (s t : StreamView) (item : ByteItem) → HasReading s → IsStreamAfter s (Some item) t → items_left t.parser + 1 ≡ items_left s.parser
one-less s t item some goes =
    let read : StringReading = some.reading.string in
    let before : items_left s.parser + read.taken ≡ length (items_in some.reading) = left s.parser some.reading.container read some.stands.parser in
    let after : items_left t.parser + (read.taken + 1) ≡ length (items_in some.reading) = left t.parser some.reading.container (after_answer (Some item) read) (goes some.reading some.stands).parser in
    omega arith

pub fewer : (s0 s1 s2 : StreamView) (m0 m2 : Media) (r2 : Running) (oi : Option ByteItem) (st : ItemEffect) (c d : Content) (duration : Moment) → HasReading s0 → IsStreamAfter s0 oi s1 → step_result st d ≡ step_of_item oi c duration → IsLeftByStep st s1 Append s2 r2 → steps_left (kept_buffer s2 m2 r2) < steps_left (kept_buffer s0 m0 Append)
fewer s0 s1 s2 m0 m2 r2 oi step.NoItem c d duration some goes e leaves = rw leaves (omega arith)
fewer s0 s1 s2 m0 m2 r2 None (step.Done b) c d duration some goes e leaves = absurd (cc)
fewer s0 s1 s2 m0 m2 r2 (Some item) (step.Done b) c d duration some goes e leaves =
    let one : items_left s1.parser + 1 ≡ items_left s0.parser = one-less s0 s1 item some goes in
    rw (leaves.0, leaves.1) (omega arith)
fewer s0 s1 s2 m0 m2 r2 oi (step.AppendError fault at b) c d duration some goes e leaves = rw leaves (omega arith)

-- where an item was given, and the append goes on
pub fewer-given : (s t : StreamView) (m n : Media) (running : Running) (item : ByteItem) → running ≡ Append → HasReading s → IsStreamAfter s (Some item) t → steps_left (kept_buffer t n running) < steps_left (kept_buffer s m running)
fewer-given s t m n running item appends some goes =
    let one : items_left t.parser + 1 ≡ items_left s.parser = one-less s t item some goes in
    rw appends (omega arith)
