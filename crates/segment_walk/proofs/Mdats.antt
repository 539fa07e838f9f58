-- What an mdat gives, slot by slot: each frame is followed by what comes with the slots behind it.
use Rattle.std.proofs.Common.{◌≡◌, ℕ, ◌+◌, ltb, leb, cond, if◌then◌else◌, Bool, true, false, List, [], ◌∷◌, length, refl, ap}
use Rattle.mse_base.specs.declared.frame.Phase.TheVariants.{Waiting}
use Rattle.bmff_fragment.specs.declared.slot.Slot.{Slot}
use Rattle.segment_walk.specs.declared.kinds.StreamFault.TheVariants as fault
use Rattle.parser_loop.specs.Items.{SegmentEnd}
use Rattle.parser_loop.specs.Parse.{ParserView, NoItem, ItemThen}
use Rattle.segment_walk.specs.Tables.{SegmentItem}
use Rattle.segment_walk.specs.Segments.{SegmentParse, Onwards, OpenFragment, NoFragment, InFragment, MdatFrames, BytesMissing, MdatMissing, Outside, with_frame, no_frame, with_slots, is_inside, frame_item_at, mdat_frames, parse_once_there, parse_of_fault, parse_of_frames, parse_of_mdat}

-- `next` is what comes with the slots left
abbrev pub parse_of_slots : List ℕ → ParserView → OpenFragment → (List Slot → SegmentParse) → List Slot → SegmentParse
parse_of_slots b now f next [] = next []
parse_of_slots b now f next (s ∷ slots) =
    if is_inside f.moof f.payloads s then
    parse_once_there b (f.moof + s.end) now
    (ItemThen now (frame_item_at b f.moof s) (parse_of_slots b now f next slots))
    else (if ltb (f.moof + s.start) f.end
    then parse_of_fault now fault.OutsideMdat (f.moof + s.start)
    else next (s ∷ slots))

-- at the end of an mdat: the media segment ends there if no slot is left
abbrev pub parse_of_data_end : Onwards → ParserView → OpenFragment → List Slot → SegmentParse
parse_of_data_end onwards now f [] = ItemThen now SegmentEnd (onwards now.latest (NoFragment Waiting) f.end)
parse_of_data_end onwards now f (s ∷ slots) = onwards now.latest (InFragment (with_slots f (s ∷ slots))) f.end

abbrev pub parse_at_data_end : Onwards → List ℕ → ParserView → OpenFragment → List Slot → SegmentParse
parse_at_data_end onwards b now f slots = parse_once_there b f.end now (parse_of_data_end onwards now f slots)

slot-by : (onwards : Onwards) (b : List ℕ) (now : ParserView) (f : OpenFragment) (s : Slot) (slots : List Slot) (item : SegmentItem) (at : ℕ) (r : MdatFrames) (parse : SegmentParse) (inside there late : Bool) → parse_of_frames onwards b now f r ≡ parse
    → parse_of_frames onwards b now f (cond inside (cond there (with_frame item r) (no_frame (s ∷ slots) BytesMissing)) (cond late (no_frame (s ∷ slots) (Outside at)) (no_frame (s ∷ slots) MdatMissing)))
    ≡ cond inside (cond there (ItemThen now item parse) (NoItem now)) (cond late (parse_of_fault now fault.OutsideMdat at) (parse_at_data_end onwards b now f (s ∷ slots)))
slot-by onwards b now f s slots item at r parse true true late e = ap (ItemThen now item) e
slot-by onwards b now f s slots item at r parse true false late e = refl
slot-by onwards b now f s slots item at r parse false there true e = refl
slot-by onwards b now f s slots item at r parse false there false e = refl

slots-mdat : (onwards : Onwards) (b : List ℕ) (now : ParserView) (f : OpenFragment) (slots : List Slot) → parse_of_frames onwards b now f (mdat_frames b f slots) ≡ parse_of_slots b now f (parse_at_data_end onwards b now f) slots
slots-mdat onwards b now f [] = refl
slots-mdat onwards b now f (s ∷ slots) =
    slot-by onwards b now f s slots (frame_item_at b f.moof s) (f.moof + s.start) (mdat_frames b f slots) _ (is_inside f.moof f.payloads s) (leb (f.moof + s.end) (length b)) (ltb (f.moof + s.start) f.end) (slots-mdat onwards b now f slots)

-- what an mdat gives is what its slots give one after the other
pub mdat-slots : (onwards : Onwards) (b : List ℕ) (now : ParserView) (f : OpenFragment) → parse_of_mdat onwards b now f ≡ parse_of_slots b now f (parse_at_data_end onwards b now f) f.slots
mdat-slots onwards b now f = slots-mdat onwards b now f f.slots
