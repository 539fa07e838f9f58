-- What a string of initialization and media segments gives (Media Source Extensions, 3.5.1, segment parser loop; ISO
-- BMFF byte stream format), told by its top-level boxes: its items, and what is seen of the parser before each. It is a
-- recursion on the boxes of the whole string, and knows no pieces. All places are offsets in the string.
use Rattle.std.specs.Prelude.{◌≡◌, ℕ, zero, suc, ◌+◌, ◌^◌, nat_lt, nat_le, Bool, false, ◌&&◌, ◌||◌, if◌then◌else◌, List, [], ◌∷◌, ◌++◌, length, drop, slice_get, slice_range, Option, Some, None, Result, Ok, Err}
use Rattle.mse_base.specs.declared.frame.CodedFrame.{CodedFrame}
use Rattle.mse_base.specs.declared.frame.Phase.{Phase}
use Rattle.mse_base.specs.declared.frame.Phase.TheVariants.{Waiting, InMedia}
use Rattle.mse_base.specs.declared.track.Presentation.{Presentation}
use Rattle.bmff_boxes.specs.declared.box_header.Header.{Header}
use Rattle.bmff_boxes.specs.declared.box_header.Header.TheVariants as head
use Rattle.bmff_boxes.specs.Headers.{header_of}
use Rattle.bmff_init.specs.declared.fault.InitFault.{InitFault}
use Rattle.bmff_init.specs.Movies.{init_of}
use Rattle.bmff_fragment.specs.declared.fault.MoofFault.{MoofFault}
use Rattle.bmff_fragment.specs.declared.slot.Slot.{Slot}
use Rattle.bmff_fragment.specs.Plans.{plan_of}
use Rattle.parser_loop.specs.Items.{InitItem, FrameItem, SegmentEnd, FaultItem, leading_frames}
use Rattle.parser_loop.specs.Parse.{Parse, NoItem, ItemThen, ParserView, items_of, seen_before}
use Rattle.parser_loop.specs.StringReadings.{StringReading}
use Rattle.segment_walk.specs.declared.kinds.StreamFault.{StreamFault}
use Rattle.segment_walk.specs.declared.kinds.StreamFault.TheVariants as fault
use Rattle.segment_walk.specs.declared.kinds.TopLevelBox.{TopLevelBox}
use Rattle.segment_walk.specs.declared.kinds.TopLevelBox.TheVariants.{FileType, SegmentType, Movie, MovieFragment, MediaData, Other}
use Rattle.segment_walk.specs.declared.kinds.DataRange.{DataRange}
use Rattle.segment_walk.specs.Tables.{SegmentItem, BoxUse, PassOver, ReadMovie, ReadFragment, box_type, size_fault, greatest_size, box_use}

-- A movie fragment whose coded frames have not all come: the offset of its moof, the slots of these frames, the
-- payloads of the mdats behind it up to here, and the end of the last of these, or the offset of the moof.
pub record OpenFragment : Type 0 where
  pub moof : ℕ
  pub slots : List Slot
  pub payloads : List DataRange
  pub end : ℕ

-- before a box: no movie fragment is open in this append state, or this movie fragment is open
pub data Context : Type 0 where
  NoFragment : Phase → Context
  InFragment : OpenFragment → Context

-- The bytes are held from the box on, and of an open movie fragment from its moof on.
abbrev pub view_at : List ℕ → Option Presentation → Context → ℕ → ParserView
view_at b last (NoFragment phase) at = record { phase = phase; latest = last; held = drop at b }
view_at b last (InFragment f) at = record { phase = InMedia; latest = last; held = drop f.moof b }

-- no byte is held
abbrev pub view_without_bytes : Phase → Option Presentation → ParserView
view_without_bytes phase last = record { phase = phase; latest = last; held = [] }

abbrev pub SegmentParse : Type 0
SegmentParse = Parse ParserView SegmentItem

-- what the boxes from an offset on give, by the latest presentation and by what came before
abbrev pub Onwards : Type 0
Onwards = Option Presentation → Context → ℕ → SegmentParse

-- this comes once the string reaches `end`; until then no item comes, and this is seen
abbrev pub parse_once_there : List ℕ → ℕ → ParserView → SegmentParse → SegmentParse
parse_once_there b end now parse = if nat_le end (length b) then parse else NoItem now

-- no item follows a fault
abbrev pub parse_of_fault : ParserView → StreamFault → ℕ → SegmentParse
parse_of_fault now f at =
    ItemThen now (FaultItem f at) (NoItem (view_without_bytes now.phase now.latest))

-- a top-level box: what it is, its offset, and where its payload begins and ends
pub record TopBox : Type 0 where
  pub kind : TopLevelBox
  pub at : ℕ
  pub start : ℕ
  pub end : ℕ

-- ---- where no movie fragment is open

abbrev pub parse_of_moov : Onwards → ParserView → TopBox → Result Presentation InitFault
    → SegmentParse
parse_of_moov onwards now box (Ok p) =
    ItemThen now (InitItem p box.at) (onwards (Some p) (NoFragment Waiting) box.end)
parse_of_moov onwards now box (Err f) = parse_of_fault now (fault.Init f) box.at

abbrev pub fragment_behind : TopBox → List Slot → OpenFragment
fragment_behind moof slots = record { moof = moof.at; slots = slots; payloads = []; end = moof.at }

abbrev pub parse_of_moof : Onwards → ParserView → TopBox → Result (List Slot) MoofFault
    → SegmentParse
parse_of_moof onwards now box (Ok slots) =
    onwards now.latest (InFragment (fragment_behind box slots)) box.end
parse_of_moof onwards now box (Err f) = parse_of_fault now (fault.Moof f) box.at

-- of a box that is passed over no byte is held
abbrev pub parse_of_use : Onwards → List ℕ → ParserView → TopBox → BoxUse → SegmentParse
parse_of_use onwards b now box (PassOver phase) =
    parse_once_there b box.end (view_without_bytes phase now.latest)
    (onwards now.latest (NoFragment phase) box.end)
parse_of_use onwards b now box ReadMovie =
    parse_once_there b box.end now
    (parse_of_moov onwards now box (init_of (slice_range b box.at box.end)))
parse_of_use onwards b now box (ReadFragment p) =
    parse_once_there b box.end now
    (parse_of_moof onwards now box (plan_of p.tracks (slice_range b box.at box.end)))

-- a fault comes as soon as the header is there
abbrev pub parse_outside : Onwards → List ℕ → ParserView → TopBox → Result BoxUse StreamFault
    → SegmentParse
parse_outside onwards b now box (Err f) = parse_of_fault now f box.at
parse_outside onwards b now box (Ok usage) =
    if nat_lt (box.at + greatest_size box.kind) box.end
    then parse_of_fault now fault.TooLarge box.at
    else parse_of_use onwards b now box usage

-- ---- in a movie fragment

-- the data of the slot lie inside one of the payloads
abbrev pub is_inside : ℕ → List DataRange → Slot → Bool
is_inside moof [] s = false
is_inside moof (k ∷ ks) s =
    (nat_le k.start (moof + s.start) && nat_le (moof + s.end) k.end) || is_inside moof ks s

-- the coded frame of a slot is the part of the string at its place
abbrev pub frame_item_at : List ℕ → ℕ → Slot → SegmentItem
frame_item_at b moof s = FrameItem (record {
  track_id = s.track_id;
  pts = s.pts;
  dts = s.dts;
  dur = s.dur;
  sync = s.sync;
  payload = slice_range b (moof + s.start) (moof + s.end);
}) (moof + s.start)

-- Why an mdat gives no further coded frame: all were given; or the data of the next slot are not all there, or are to
-- lie in an mdat that is still to come, or lie in none: they begin at this offset, before the end of the last mdat.
pub data FramesEnd : Type 0 where
  AllGiven : FramesEnd
  BytesMissing : FramesEnd
  MdatMissing : FramesEnd
  Outside : ℕ → FramesEnd

-- what an mdat gives: coded frames, in order of their slots, the slots that are left, and why no further frame comes
pub record MdatFrames : Type 0 where
  pub frames : List SegmentItem
  pub left : List Slot
  pub end : FramesEnd

abbrev pub with_frame : SegmentItem → MdatFrames → MdatFrames
with_frame frame r = record { frames = frame ∷ r.frames; left = r.left; end = r.end }

abbrev pub no_frame : List Slot → FramesEnd → MdatFrames
no_frame left end = record { frames = []; left = left; end = end }

-- by the slots that are left of a fragment, to whose payloads that of the mdat belongs
abbrev pub mdat_frames : List ℕ → OpenFragment → List Slot → MdatFrames
mdat_frames b f [] = no_frame [] AllGiven
mdat_frames b f (s ∷ slots) =
    if is_inside f.moof f.payloads s then
    (if nat_le (f.moof + s.end) (length b)
    then with_frame (frame_item_at b f.moof s) (mdat_frames b f slots)
    else no_frame (s ∷ slots) BytesMissing)
    else (if nat_lt (f.moof + s.start) f.end then no_frame (s ∷ slots) (Outside (f.moof + s.start))
    else no_frame (s ∷ slots) MdatMissing)

-- the fragment once the header of an mdat is there, whose payload is known from then on
abbrev pub fragment_with : OpenFragment → TopBox → OpenFragment
fragment_with f mdat = record {
  moof = f.moof;
  slots = f.slots;
  payloads = f.payloads ++ (record { start = mdat.start; end = mdat.end }) ∷ [];
  end = mdat.end;
}

abbrev pub with_slots : OpenFragment → List Slot → OpenFragment
with_slots f slots = record {
  moof = f.moof;
  slots = slots;
  payloads = f.payloads;
  end = f.end;
}

-- What follows the frames of the mdat that ends at f.end. Where all were given the media segment ends with it; where
-- the data of a slot are still to come, a further mdat must.
abbrev pub parse_behind_frames : Onwards → List ℕ → ParserView → OpenFragment → List Slot → FramesEnd
    → SegmentParse
parse_behind_frames onwards b now f left AllGiven =
    parse_once_there b f.end now
    (ItemThen now SegmentEnd (onwards now.latest (NoFragment Waiting) f.end))
parse_behind_frames onwards b now f left BytesMissing = NoItem now
parse_behind_frames onwards b now f left MdatMissing =
    parse_once_there b f.end now (onwards now.latest (InFragment (with_slots f left)) f.end)
parse_behind_frames onwards b now f left (Outside at) = parse_of_fault now fault.OutsideMdat at

-- items that come one after the other, before each of which the same is seen, and what follows
abbrev pub parse_of_items : ParserView → List SegmentItem → SegmentParse → SegmentParse
parse_of_items now [] parse = parse
parse_of_items now (item ∷ items) parse = ItemThen now item (parse_of_items now items parse)

abbrev pub parse_of_frames : Onwards → List ℕ → ParserView → OpenFragment → MdatFrames
    → SegmentParse
parse_of_frames onwards b now f r =
    parse_of_items now r.frames (parse_behind_frames onwards b now f r.left r.end)

-- behind the header of an mdat that ends the payloads of the fragment
abbrev pub parse_of_mdat : Onwards → List ℕ → ParserView → OpenFragment → SegmentParse
parse_of_mdat onwards b now f = parse_of_frames onwards b now f (mdat_frames b f f.slots)

-- a movie fragment with its data is held in memory whole
abbrev pub parse_unless_large : ParserView → OpenFragment → TopBox → SegmentParse → SegmentParse
parse_unless_large now f box parse =
    if nat_lt (f.moof + 2 ^ 27) box.end then parse_of_fault now fault.TooLarge box.at else parse

-- no other segment may begin in a movie fragment
abbrev pub parse_inside : Onwards → List ℕ → ParserView → OpenFragment → TopBox → SegmentParse
parse_inside onwards b now f box = elim box.kind as (λ _. SegmentParse) [
  | FileType ↦ parse_of_fault now fault.InSegment box.at
  | SegmentType ↦ parse_of_fault now fault.InSegment box.at
  | Movie ↦ parse_of_fault now fault.InSegment box.at
  | MovieFragment ↦ parse_of_fault now fault.InSegment box.at
  | MediaData ↦
      parse_unless_large now f box (parse_of_mdat onwards b now (fragment_with f box))
  | Other ↦
      parse_unless_large now f box
      (parse_once_there b box.end now (onwards now.latest (InFragment f) box.end))
]

-- ---- the string

abbrev pub parse_of_box : Onwards → List ℕ → ParserView → Context → TopBox → SegmentParse
parse_of_box onwards b now (NoFragment phase) box =
    parse_outside onwards b now box (box_use phase box.kind now.latest)
parse_of_box onwards b now (InFragment f) box = parse_inside onwards b now f box

-- the box of a header at an offset
abbrev pub box_behind : ℕ → List ℕ → ℕ → ℕ → TopBox
box_behind at kind head len = record {
  kind = box_type kind;
  at = at;
  start = at + head;
  end = at + len;
}

-- what comes at a header at an offset; `whole` is what comes with the box behind it
abbrev pub parse_of_header : ParserView → ℕ → (TopBox → SegmentParse) → Header → SegmentParse
parse_of_header now at whole head.Short = NoItem now
parse_of_header now at whole (head.Bad f) = parse_of_fault now (size_fault f) at
parse_of_header now at whole (head.Whole kind start len) = whole (box_behind at kind start len)

-- what at most n boxes from an offset on give
abbrev pub parse_of_boxes : ℕ → List ℕ → Onwards
parse_of_boxes zero b last before at = NoItem (view_at b last before at)
parse_of_boxes (suc n) b last before at =
    parse_of_header (view_at b last before at) at
    (parse_of_box (parse_of_boxes n b) b (view_at b last before at) before)
    (header_of (drop at b))

-- What the whole string gives, where the presentation `last` was left by what came before. It has no more boxes than
-- bytes.
unfoldable pub segment_parse : Option Presentation → List ℕ → SegmentParse
segment_parse last b = parse_of_boxes (suc (length b)) b last (NoFragment Waiting) 0

-- all items of the string
abbrev pub items_of_string : Option Presentation → List ℕ → List SegmentItem
items_of_string last b = items_of (segment_parse last b)

-- the next item of a reading, and the one that stands i places after it; none where the string has none there
abbrev pub next_item : StringReading → Option SegmentItem
next_item r = slice_get (items_of_string r.before r.whole) r.taken

abbrev pub item_ahead : StringReading → ℕ → Option SegmentItem
item_ahead r i = slice_get (items_of_string r.before r.whole) (r.taken + i)

-- Just before the next item of a reading, or at the end of its string where there is none: where the segment parser
-- loop is (Media Source Extensions, append state), the latest presentation, and the bytes of the string that are held
-- in memory.
abbrev pub phase_before : StringReading → Phase
phase_before r = (seen_before r.taken (segment_parse r.before r.whole)).phase

abbrev pub latest_before : StringReading → Option Presentation
latest_before r = (seen_before r.taken (segment_parse r.before r.whole)).latest

abbrev pub held_before : StringReading → List ℕ
held_before r = (seen_before r.taken (segment_parse r.before r.whole)).held

-- how many of the next items are coded frames, up to the first that is none
abbrev pub ready_before : StringReading → ℕ
ready_before r = length (leading_frames (drop r.taken (items_of_string r.before r.whole)))

-- ---- the box at an offset

-- its bytes, or none where it is not whole
abbrev pub box_by : List ℕ → ℕ → Header → List ℕ
box_by b at head.Short = []
box_by b at (head.Bad f) = []
box_by b at (head.Whole kind start len) =
    if nat_le (at + len) (length b) then slice_range b at (at + len) else []

abbrev pub box_at : List ℕ → ℕ → List ℕ
box_at b at = box_by b at (header_of (drop at b))

-- its type, where its header is there and right
abbrev pub type_by : Header → Option TopLevelBox
type_by head.Short = None
type_by (head.Bad f) = None
type_by (head.Whole kind start len) = Some (box_type kind)

abbrev pub type_at : List ℕ → ℕ → Option TopLevelBox
type_at b at = type_by (header_of (drop at b))

-- ---- the moof that announces a coded frame

-- the slots are those of the moof at an offset of the string, by the tracks of the latest presentation
pub record AreSlotsOfMoof (last : Option Presentation) (b : List ℕ) (moof : ℕ) (slots : List Slot)
    : Type 0 where
  pub presentation : Presentation
  pub is_latest : last ≡ Some presentation
  pub is_moof : type_at b moof ≡ Some MovieFragment
  pub plan : plan_of presentation.tracks (box_at b moof) ≡ Ok slots

-- the frame at an offset is that of such a slot, which tells its track, its times, its sync mark and where its bytes lie
pub record IsFrameOfMoof (last : Option Presentation) (b : List ℕ) (frame : CodedFrame)
    (offset : ℕ) : Type 0 where
  pub moof : ℕ
  pub slots : List Slot
  pub announced : AreSlotsOfMoof last b moof slots
  pub place : ℕ
  pub slot : Slot
  pub is_slot : slice_get slots place ≡ Some slot
  pub track : frame.track_id ≡ slot.track_id
  pub pts : frame.pts ≡ slot.pts
  pub dts : frame.dts ≡ slot.dts
  pub dur : frame.dur ≡ slot.dur
  pub sync : frame.sync ≡ slot.sync
  pub start : offset ≡ moof + slot.start
  pub payload : frame.payload ≡ slice_range b (moof + slot.start) (moof + slot.end)
