-- What stands in a string at the offset of an item, in either container.
use Rattle.std.proofs.Common.{◌≡◌, ℕ, suc, ◌+◌, ◌≤◌, List, ◌++◌, length, map, slice_get, slice_range, Option, Some, None, refl, ap, sym, ◌∙◌}
use Rattle.std.specs.Option.{option_map}
use Rattle.std.proofs.lemmas.List.{length-map}
use Rattle.std.proofs.lemmas.Option.{slice_get-map}
use Rattle.mse_base.specs.declared.frame.CodedFrame.{CodedFrame}
use Rattle.mse_base.specs.declared.track.Presentation.{Presentation}
use Rattle.mse_types.specs.declared.answer.Container.{Container}
use Rattle.mse_types.specs.declared.answer.Container.TheVariants.{Mp4, Adts}
use Rattle.parser_loop.specs.Items.{Item, InitItem, FrameItem, SegmentEnd, FaultItem, IsPrefix, with_fault}
use Rattle.parser_loop.specs.Parse.{IsSuffix}
use Rattle.parser_loop.specs.StringReadings.{StringReading}
use Rattle.parser_loop.proofs.ItemLaws.{is-prefix, with-prefix}
use Rattle.parser_loop.proofs.Walks.{prefix}
use Rattle.segment_walk.specs.Segments as segment
use Rattle.segment_walk.proofs.Boxes.{items-prefix}
use Rattle.segment_walk.proofs.Places as segment_places
use Rattle.adts_stream.specs.Frames as frame
use Rattle.adts_stream.specs.Walk.{adts, start}
use Rattle.adts_stream.proofs.WalkLaws.{is_walk}
use Rattle.adts_stream.proofs.FrameLaws.{items-frames}
use Rattle.adts_stream.proofs.Places as frame_places
use Rattle.byte_stream.specs.declared.next.ByteFault.{ByteFault}
use Rattle.byte_stream.specs.declared.next.ByteFault.TheVariants.{Segments, Frames}
use Rattle.byte_stream.specs.Readings.{ByteItem, of_segments, of_frames, items_of, view_of, IsInitIn}

-- ---- an item by the one that it is of

record HasItemOf {F : Type 0} (g : F → ByteFault) (x : Option (Item F)) (y : ByteItem) : Type 0 where
  item : Item F
  was : x ≡ Some item
  is : with_fault g item ≡ y

behind : {F : Type 0} (g : F → ByteFault) (x : Option (Item F)) (y : ByteItem) → option_map (with_fault g) x ≡ Some y → HasItemOf g x y
behind g None y e = absurd (cc)
behind g (Some item) y e = record { item = item; was = refl; is = cc }

of-init : {F : Type 0} (g : F → ByteFault) (item : Item F) (p : Presentation) (at : ℕ) → with_fault g item ≡ InitItem p at → item ≡ InitItem p at
of-init g (InitItem q i) p at e = cc
of-init g (FrameItem f i) p at e = absurd (cc)
of-init g SegmentEnd p at e = absurd (cc)
of-init g (FaultItem f i) p at e = absurd (cc)

of-frame : {F : Type 0} (g : F → ByteFault) (item : Item F) (f : CodedFrame) (at : ℕ) → with_fault g item ≡ FrameItem f at → item ≡ FrameItem f at
of-frame g (InitItem q i) f at e = absurd (cc)
of-frame g (FrameItem h i) f at e = cc
of-frame g SegmentEnd f at e = absurd (cc)
of-frame g (FaultItem h i) f at e = absurd (cc)

-- its fault has another name
record IsFaultAt {F : Type 0} (item : Item F) (at : ℕ) : Type 0 where
  fault : F
  is : item ≡ FaultItem fault at

of-fault : {F : Type 0} (g : F → ByteFault) (item : Item F) (f : ByteFault) (at : ℕ) → with_fault g item ≡ FaultItem f at → IsFaultAt item at
of-fault g (InitItem q i) f at e = absurd (cc)
of-fault g (FrameItem h i) f at e = absurd (cc)
of-fault g SegmentEnd f at e = absurd (cc)
of-fault g (FaultItem h i) f at e = let k : i ≡ at = cc in record { fault = h; is = ap (FaultItem h) k }

item-of : {F : Type 0} (g : F → ByteFault) (items : List (Item F)) (n : ℕ) (y : ByteItem) → slice_get (map (with_fault g) items) n ≡ Some y → HasItemOf g (slice_get items n) y
item-of g items n y e = behind g (slice_get items n) y (sym (slice_get-map (with_fault g) items n) ∙ e)

init-of : {F : Type 0} (g : F → ByteFault) (items : List (Item F)) (n : ℕ) (p : Presentation) (at : ℕ) → slice_get (map (with_fault g) items) n ≡ Some (InitItem p at) → slice_get items n ≡ Some (InitItem p at)
init-of g items n p at e = let b = item-of g items n (InitItem p at) e in b.was ∙ ap Some (of-init g b.item p at b.is)

frame-of : {F : Type 0} (g : F → ByteFault) (items : List (Item F)) (n : ℕ) (f : CodedFrame) (at : ℕ) → slice_get (map (with_fault g) items) n ≡ Some (FrameItem f at) → slice_get items n ≡ Some (FrameItem f at)
frame-of g items n f at e = let b = item-of g items n (FrameItem f at) e in b.was ∙ ap Some (of-frame g b.item f at b.is)

-- ---- in either container

pub init-place : (container : Container) (before : Option Presentation) (whole : List ℕ) (n at : ℕ) (p : Presentation) → slice_get (items_of container before whole) n ≡ Some (InitItem p at) → IsInitIn container whole at p
init-place Mp4 before whole n at p e = segment_places.item-place before whole n (InitItem p at) (init-of (λ f. Segments f) (segment.items_of_string before whole) n p at e)
init-place Adts before whole n at p e = frame_places.item-place before whole n (InitItem p at) (init-of (λ f. Frames f) (frame.items_of_string before whole) n p at e)

pub frame-place : (container : Container) (before : Option Presentation) (whole : List ℕ) (n at : ℕ) (f : CodedFrame) → slice_get (items_of container before whole) n ≡ Some (FrameItem f at) → f.payload ≡ slice_range whole at (at + length f.payload)
frame-place Mp4 before whole n at f e = (segment_places.item-place before whole n (FrameItem f at) (frame-of (λ f. Segments f) (segment.items_of_string before whole) n f at e)).0
frame-place Adts before whole n at f e = frame_places.payload-is whole at f (frame_places.item-place before whole n (FrameItem f at) (frame-of (λ f. Frames f) (frame.items_of_string before whole) n f at e))

pub frame-there : (container : Container) (before : Option Presentation) (whole : List ℕ) (n at : ℕ) (f : CodedFrame) → slice_get (items_of container before whole) n ≡ Some (FrameItem f at) → at + length f.payload ≤ length whole
frame-there Mp4 before whole n at f e = (segment_places.item-place before whole n (FrameItem f at) (frame-of (λ f. Segments f) (segment.items_of_string before whole) n f at e)).1
frame-there Adts before whole n at f e = frame_places.payload-there whole at f (frame_places.item-place before whole n (FrameItem f at) (frame-of (λ f. Frames f) (frame.items_of_string before whole) n f at e))

pub fault-last : (container : Container) (before : Option Presentation) (whole : List ℕ) (n at : ℕ) (f : ByteFault) → slice_get (items_of container before whole) n ≡ Some (FaultItem f at) → suc n ≡ length (items_of container before whole)
fault-last Mp4 before whole n at f e =
    let b = item-of (λ f. Segments f) (segment.items_of_string before whole) n (FaultItem f at) e in
    let a = of-fault (λ f. Segments f) b.item f at b.is in
    segment_places.fault-last before whole n a.fault at (b.was ∙ ap Some a.is) ∙ sym (length-map (segment.items_of_string before whole) of_segments)
fault-last Adts before whole n at f e =
    let b = item-of (λ f. Frames f) (frame.items_of_string before whole) n (FaultItem f at) e in
    let a = of-fault (λ f. Frames f) b.item f at b.is in
    frame_places.fault-last before whole n at a.fault (b.was ∙ ap Some a.is) ∙ sym (length-map (frame.items_of_string before whole) of_frames)

pub held-suffix : (container : Container) (r : StringReading) → IsSuffix (view_of container r).held r.whole
held-suffix Mp4 r = segment_places.held-suffix r
held-suffix Adts r = frame_places.held-suffix r

pub items-begin : (container : Container) (before : Option Presentation) (b c : List ℕ) → IsPrefix (items_of container before b) (items_of container before (b ++ c))
items-begin Mp4 before b c = with-prefix (λ f. Segments f) (segment.items_of_string before b) (segment.items_of_string before (b ++ c)) (items-prefix before b c)
items-begin Adts before b c =
    let p : IsPrefix (frame.items_of_string before b) (frame.items_of_string before (b ++ c)) = rw (items-frames before b, items-frames before (b ++ c)) (is-prefix adts (λ _. refl) _ _ (prefix adts is_walk (start before b) c)) in
    with-prefix (λ f. Frames f) (frame.items_of_string before b) (frame.items_of_string before (b ++ c)) p
