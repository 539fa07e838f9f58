-- Where a coded frame is ready, the next item is one.
use Rattle.std.proofs.Common.{◌≡◌, ℕ, zero, suc, ◌<◌, pos, ◌≤ℤ◌, List, [], ◌∷◌, length, drop, refl, sym, subst, arith}
use Rattle.std.specs.Prelude.{Option, Some, None, slice_get, Result, Ok, Err, IfOk}
use Rattle.std.specs.Option.{option_map}
use Rattle.mse_base.specs.declared.frame.CodedFrame.{CodedFrame}
use Rattle.parser_loop.specs.Items.{InitItem, FrameItem, SegmentEnd, FaultItem, leading_frames, answer_item}
use Rattle.parser_loop.specs.declared.next.Next.{Next}
use Rattle.parser_loop.specs.declared.next.Next.TheVariants as next
use Rattle.adts_stream.specs.declared.next.AdtsFault.{AdtsFault}
use Rattle.byte_stream.specs.Readings.{Reading, ByteItem, of_frames, items_in, ready_at, next_item}
use Rattle.byte_stream.specs.Streams.{StreamView, HasReading, ForEachReading, ready_of}
use Rattle.byte_stream.proofs.KeptStreams.{ready-is}
use Rattle.byte_stream.proofs.Lasting.{lasting-item}

abbrev pub IsFrame : Option ByteItem → Type 0
IsFrame None = ⊥
IsFrame (Some (InitItem p at)) = ⊥
IsFrame (Some (FrameItem f at)) = Unit {0}
IsFrame (Some SegmentEnd) = ⊥
IsFrame (Some (FaultItem f at)) = ⊥

front : (items : List ByteItem) (n : ℕ) → 0 < length (leading_frames (drop n items)) → IsFrame (slice_get items n)
front [] zero h = absurd (omega arith)
front [] (suc n) h = absurd (omega arith)
front (InitItem p at ∷ items) zero h = absurd (omega arith)
front (FrameItem f at ∷ items) zero h = tt
front (SegmentEnd ∷ items) zero h = absurd (omega arith)
front (FaultItem f at ∷ items) zero h = absurd (omega arith)
front (item ∷ items) (suc n) h = front items n h

-- of what is next in a stream with a frame that is ready
pub next-frame : (s : StreamView) (o : Option ByteItem) → 0 < ready_of s → HasReading s → ForEachReading s (λ r. o ≡ next_item r) → IsFrame o
next-frame s o ready some is =
    let r : Reading = some.reading in
    let known : ready_of s ≡ length (ready_at r) = ready-is s.parser r.container r.string some.stands.parser in
    let more : 0 < length (ready_at r) = omega (arith, known, ready) in
    subst IsFrame (sym (is r some.stands)) (front (items_in r) r.string.taken more)

-- an answer of a stream of ADTS frames that is no frame
pub no-frame : (x : Next AdtsFault) → ((f : CodedFrame) (at : ℕ) → x ≡ next.Frame f at → ⊥) → IsFrame (option_map of_frames (answer_item x)) → ⊥
no-frame (next.Init p at) other h = h
no-frame (next.Frame f at) other h = other f at refl
no-frame next.SegmentEnd other h = h
no-frame (next.Fault f at) other h = h
no-frame next.Dry other h = h

-- a frame that is next lasts
pub frame-lasts : {E : Type 0} (result : Result (CodedFrame × ℕ) E) (s : StreamView) → HasReading s → ForEachReading s (λ r. IfOk result (λ x. Some (FrameItem x.0 x.1) ≡ next_item r)) → IfOk result (λ x. pos 0 ≤ℤ x.0.dur)
frame-lasts (Ok x) s some is = lasting-item some.reading (Some (FrameItem x.0 x.1)) (is some.reading some.stands)
frame-lasts (Err e) s some is = tt
