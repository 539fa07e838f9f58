-- No coded frame of a string lasts a negative time.
use Rattle.std.proofs.Common.{◌≡◌, ℕ, zero, suc, Bool, true, false, List, [], ◌∷◌, length, take, Option, Some, None, is_some, slice_get, Result, Ok, Err, IfOk, IfSome, refl, sym, subst}
use Rattle.std.specs.Prelude.{All}
use Rattle.std.proofs.lemmas.List.Elements.{All-nil, All-cons, All-map, All-get_or}
use Rattle.std.proofs.lemmas.Option.{slice_get_within, get_or_from_slice_get}
use Rattle.mse_base.specs.declared.track.Presentation.{Presentation}
use Rattle.mse_types.specs.declared.answer.Container.{Container}
use Rattle.mse_types.specs.declared.answer.Container.TheVariants.{Mp4, Adts}
use Rattle.bmff_init.specs.declared.fault.InitFault.{InitFault}
use Rattle.bmff_init.specs.Movies.{init_of}
use Rattle.bmff_fragment.specs.declared.fault.MoofFault.{MoofFault}
use Rattle.bmff_fragment.specs.declared.slot.Slot.{Slot}
use Rattle.bmff_fragment.specs.Plans.{plan_of}
use Rattle.parser_loop.specs.Parse.{IfMoved}
use Rattle.parser_loop.specs.Walk.{Move, Stop, Pass, Give, StreamKind, items_by, items_in, items_from}
use Rattle.mse_base.specs.declared.frame.Phase.{Phase}
use Rattle.segment_walk.specs.declared.kinds.BoxStep.{BoxStep}
use Rattle.segment_walk.specs.declared.kinds.BoxStep.TheVariants as step
use Rattle.segment_walk.specs.Moves as segment
use Rattle.segment_walk.specs.Tables.{SegmentItem}
use Rattle.segment_walk.proofs.Boxes.{items-boxes}
use Rattle.segment_walk.specs.Moves.{WalkMode, Between, Skipping, Within, open_of, move_of_init, move_of_slots, move_of_moof, move_of_step, step_of, move_over_byte, segments}
use Rattle.segment_walk.specs.Strings as segment_string
use Rattle.segment_walk.proofs.WalkLaws.{going, IsStepOfMode, HasSlot, good-step}
use Rattle.parser_loop.specs.declared.next.Next.{Next}
use Rattle.parser_loop.specs.Items.{InitItem, FrameItem, SegmentEnd, FaultItem, answer_item}
use Rattle.segment_walk.specs.Segments as segment_items
use Rattle.adts_stream.specs.Frames as frame
use Rattle.adts_stream.proofs.Places.{IsAt, item-place}
use Rattle.adts_stream.proofs.Lasting.{coded-lasts}
use Rattle.byte_stream.specs.declared.next.ByteFault.{ByteFault}
use Rattle.byte_stream.specs.Readings.{Reading, ByteItem, of_segments, of_frames, items_of, items_in as reading_items, IsLasting}
use Rattle.byte_stream.specs.Streams.{StreamView, ForEachReading, HasReading}
use Rattle.byte_stream.proofs.Durations.{IsLastingSlot, plan-lasts}

kept-by : {S I : Type 0} (P : S → Type 0) (Q : I → Type 0) (go : S → List I) (m : Move S I) → IfMoved P Q m → ((t : S) → P t → All Q (go t)) → All Q (items_by go m)
kept-by P Q go Stop h f = All-nil Q
kept-by P Q go (Pass t) h f = f t h
kept-by P Q go (Give item t) h f = All-cons Q item (go t) h.0 (f t h.1)

kept-in : {S I : Type 0} (k : StreamKind S I) (P : S → Type 0) (Q : I → Type 0) → ((s : S) → P s → IfMoved P Q (k.move s)) → (n : ℕ) (s : S) → P s → All Q (items_in k n s)
kept-in k P Q f zero s h = All-nil Q
kept-in k P Q f (suc n) s h = kept-by P Q (items_in k n) (k.move s) (f s h) (λ t g. kept-in k P Q f n t g)

kept-from : {S I : Type 0} (k : StreamKind S I) (P : S → Type 0) (Q : I → Type 0) → ((s : S) → P s → IfMoved P Q (k.move s)) → (s : S) → P s → All Q (items_from k s)
unfolding items_from
kept-from k P Q f s h = kept-in k P Q f (suc (k.size s)) s h

-- ---- segments: the slots of an open movie fragment last

abbrev HasLastingSlots : WalkMode → Type 0
HasLastingSlots (Between begun) = Unit {0}
HasLastingSlots (Skipping to left) = Unit {0}
HasLastingSlots (Within o) = All IsLastingSlot o.slots

abbrev IsLastingSegmentItem : SegmentItem → Type 0
IsLastingSegmentItem item = IsLasting (of_segments item)

abbrev IsLastingMove : Move segment.WalkState SegmentItem → Type 0
IsLastingMove m = IfMoved (λ (s : segment.WalkState). HasLastingSlots s.mode) IsLastingSegmentItem m

open-lasts : (m : WalkMode) → HasLastingSlots m → All IsLastingSlot (open_of m).slots
open-lasts (Between begun) h = All-nil IsLastingSlot
open-lasts (Skipping to left) h = All-nil IsLastingSlot
open-lasts (Within o) h = h

slot-lasts : (m : WalkMode) (slot : Slot) → HasLastingSlots m → HasSlot m slot → IsLastingSlot slot
slot-lasts (Between begun) slot h g = absurd g
slot-lasts (Skipping to left) slot h g = absurd g
slot-lasts (Within o) slot h g = subst IsLastingSlot (get_or_from_slice_get o.slots o.taken slot slot g) (All-get_or IsLastingSlot o.slots o.taken slot (slice_get_within o.slots o.taken slot g) h)

keeps-init : (s : segment.WalkState) (len : ℕ) (r : Result Presentation InitFault) → HasLastingSlots s.mode → IsLastingMove (move_of_init s len r)
keeps-init s len (Ok p) h = (tt, tt)
keeps-init s len (Err f) h = (tt, h)

keeps-opened : (s : segment.WalkState) (len : ℕ) (r : Result (List Slot) MoofFault) → HasLastingSlots s.mode → ((slots : List Slot) → r ≡ Ok slots → All IsLastingSlot slots) → IsLastingMove (move_of_slots s len r)
keeps-opened s len (Ok slots) h f = f slots refl
keeps-opened s len (Err e) h f = (tt, h)

keeps-planned : (s : segment.WalkState) (len : ℕ) (with : Option Presentation) → HasLastingSlots s.mode → IsLastingMove (move_of_moof s len with)
keeps-planned s len None h = (tt, h)
keeps-planned s len (Some p) h = keeps-opened s len (plan_of p.tracks (take len s.rest)) h (λ slots e. plan-lasts p.tracks (take len s.rest) slots e)

keeps-act : (s : segment.WalkState) (n : ℕ) (st : BoxStep) → HasLastingSlots s.mode → IsStepOfMode s.mode n st → IsLastingMove (move_of_step s st)
keeps-act s n (step.Wait w) h f = tt
keeps-act s n (step.Skip to len) h f = tt
keeps-act s n (step.ReadInit len) h f = keeps-init s len (init_of (take len s.rest)) h
keeps-act s n (step.ReadMoof len) h f = keeps-planned s len s.last h
keeps-act s n (step.EnterData start end) h f = open-lasts s.mode h
keeps-act s n (step.NextBox at) h f = open-lasts s.mode h
keeps-act s n (step.GiveFrame slot) h f = (slot-lasts s.mode slot h f.0, open-lasts s.mode h)
keeps-act s n (step.EndSegment end) h f = (tt, tt)
keeps-act s n (step.Fail g at) h f = (tt, h)

keeps-byte : (s : segment.WalkState) (to : Phase) (left : ℕ) (rest : List ℕ) → IsLastingMove (move_over_byte s to left rest)
keeps-byte s to left [] = tt
keeps-byte s to left (x ∷ rest) = tt

keeps-segment : (last : Option Presentation) (m : WalkMode) (offset : ℕ) (rest : List ℕ) (failed : Bool) → let s : segment.WalkState = record { last = last; mode = m; offset = offset; rest = rest; failed = failed } in HasLastingSlots m → IsLastingMove (segment.move_unless s failed)
keeps-segment last m offset rest true h = tt
keeps-segment last (Between begun) offset rest false h = keeps-act (going last (Between begun) offset rest) (length rest) (step_of (is_some last) rest (Between begun)) h (good-step (is_some last) rest [] (Between begun)).0
keeps-segment last (Skipping to zero) offset rest false h = tt
keeps-segment last (Skipping to (suc left)) offset rest false h = keeps-byte (going last (Skipping to (suc left)) offset rest) to left rest
keeps-segment last (Within o) offset rest false h = keeps-act (going last (Within o) offset rest) (length rest) (step_of (is_some last) rest (Within o)) h (good-step (is_some last) rest [] (Within o)).0

segments-last : (before : Option Presentation) (whole : List ℕ) → All IsLastingSegmentItem (segment_string.walk_items before whole)
segments-last before whole = kept-from segments (λ (s : segment.WalkState). HasLastingSlots s.mode) IsLastingSegmentItem (λ s h. keeps-segment s.last s.mode s.offset s.rest s.failed h) (segment_string.start before whole) tt

-- ---- ADTS frames: the frame of a header lasts

abbrev IsLastingAdtsItem : frame.AdtsItem → Type 0
IsLastingAdtsItem item = IsLasting (of_frames item)

placed-lasts : (b : List ℕ) (item : frame.AdtsItem) → IsAt b item → IsLastingAdtsItem item
placed-lasts b (InitItem p at) h = tt
placed-lasts b (FrameItem f at) h = coded-lasts b at f h
placed-lasts b SegmentEnd h = tt
placed-lasts b (FaultItem f at) h = tt

all-of : {A : Type 0} (P : A → Type 0) (items : List A) → ((n : ℕ) (item : A) → slice_get items n ≡ Some item → P item) → All P items
all-of P [] f = All-nil P
all-of P (x ∷ items) f = All-cons P x items (f 0 x refl) (all-of P items (λ n item e. f (suc n) item e))

frames-last : (before : Option Presentation) (whole : List ℕ) → All IsLastingAdtsItem (frame.items_of_string before whole)
frames-last before whole = all-of IsLastingAdtsItem (frame.items_of_string before whole) (λ n item e. placed-lasts whole item (item-place before whole n item e))

-- ---- either container

pub items-last : (container : Container) (before : Option Presentation) (whole : List ℕ) → All IsLasting (items_of container before whole)
items-last Mp4 before whole = All-map IsLasting of_segments (segment_items.items_of_string before whole) (subst (λ items. All IsLastingSegmentItem items) (items-boxes before whole) (segments-last before whole))
items-last Adts before whole = All-map IsLasting of_frames (frame.items_of_string before whole) (frames-last before whole)

-- ---- what a stream shows

lasting-one : (items : List ByteItem) (k : ℕ) (o : Option ByteItem) → All IsLasting items → o ≡ slice_get items k → IfSome o IsLasting
lasting-one items k None h e = tt
lasting-one items k (Some item) h e = subst IsLasting (get_or_from_slice_get items k item item (sym e)) (All-get_or IsLasting items k item (slice_get_within items k item (sym e)) h)

-- the item that is next
pub lasting-item : (r : Reading) (o : Option ByteItem) → o ≡ slice_get (reading_items r) r.string.taken → IfSome o IsLasting
lasting-item r o e = lasting-one (reading_items r) r.string.taken o (items-last r.container r.string.before r.string.whole) e

pub shows-lasting : {E : Type 0} (result : Result (Next ByteFault) E) (s : StreamView) (at : ℕ → ℕ) → HasReading s → ForEachReading s (λ r. IfOk result (λ x. answer_item x ≡ slice_get (reading_items r) (at r.string.taken))) → IfOk result (λ x. IfSome (answer_item x) IsLasting)
shows-lasting (Ok x) s at h f = let r = h.reading in lasting-one (reading_items r) (at r.string.taken) (answer_item x) (items-last r.container r.string.before r.string.whole) (f r h.stands)
shows-lasting (Err e) s at h f = tt
