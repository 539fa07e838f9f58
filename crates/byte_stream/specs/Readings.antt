-- A string of a byte stream that is read, whichever its container is: what it gives, and how a reading changes.
use Rattle.std.specs.Prelude.{◌≡◌, ℕ, pos, ◌+◌, ◌≤ℤ◌, List, take, drop, map, slice_get, Option, None, Ok}
use Rattle.mse_base.specs.declared.frame.CodedFrame.{CodedFrame}
use Rattle.mse_base.specs.declared.frame.Phase.{Phase}
use Rattle.mse_base.specs.declared.track.Presentation.{Presentation}
use Rattle.mse_types.specs.declared.answer.Container.{Container}
use Rattle.mse_types.specs.declared.answer.Container.TheVariants.{Mp4, Adts}
use Rattle.bmff_init.specs.Movies.{init_of}
use Rattle.parser_loop.specs.Items.{Item, InitItem, FrameItem, SegmentEnd, FaultItem, with_fault, leading_frames, latest_after_all}
use Rattle.parser_loop.specs.Parse.{ParserView, seen_before}
use Rattle.parser_loop.specs.StringReadings.{StringReading}
use Rattle.parser_loop.specs.StringReadings as string
use Rattle.segment_walk.specs.Segments as segment
use Rattle.segment_walk.specs.Tables.{SegmentItem}
use Rattle.adts_stream.specs.Frames as frame
use Rattle.adts_stream.specs.Places.{IsInitAt}
use Rattle.byte_stream.specs.declared.next.ByteFault.{ByteFault}
use Rattle.byte_stream.specs.declared.next.ByteFault.TheVariants.{Segments, Frames}

-- The container, and the reading of its string: the presentation that the last reset left, all bytes since then, and
-- how many items were given.
pub record Reading : Type 0 where
  pub container : Container
  pub string : StringReading

-- ---- what a string gives

abbrev pub ByteItem : Type 0
ByteItem = Item ByteFault

-- an item of a string of segments, and one of a string of ADTS frames
abbrev pub of_segments : SegmentItem → ByteItem
of_segments item = with_fault (λ f. Segments f) item

abbrev pub of_frames : frame.AdtsItem → ByteItem
of_frames item = with_fault (λ f. Frames f) item

-- all items, told by the top-level boxes or by the ADTS frames of the whole string
abbrev pub items_of : Container → Option Presentation → List ℕ → List ByteItem
items_of Mp4 before whole = map of_segments (segment.items_of_string before whole)
items_of Adts before whole = map of_frames (frame.items_of_string before whole)

-- what is seen of the parser just before the next item, or at the end of the string where there is none
abbrev pub view_of : Container → StringReading → ParserView
view_of Mp4 r = seen_before r.taken (segment.segment_parse r.before r.whole)
view_of Adts r = seen_before r.taken (frame.string_parse r.before r.whole)

-- ---- what a reading gives

abbrev pub items_in : Reading → List ByteItem
items_in r = items_of r.container r.string.before r.string.whole

-- the item that comes next, and the one that stands i places after it
abbrev pub next_item : Reading → Option ByteItem
next_item r = slice_get (items_in r) r.string.taken

abbrev pub item_ahead : Reading → ℕ → Option ByteItem
item_ahead r i = slice_get (items_in r) (r.string.taken + i)

-- the items that were not given yet
abbrev pub items_ahead : Reading → List ByteItem
items_ahead r = drop r.string.taken (items_in r)

-- the coded frames that come next, up to the first item that is none
abbrev pub ready_at : Reading → List CodedFrame
ready_at r = leading_frames (items_ahead r)

-- before the next item: where the segment parser loop is (append state), and the bytes that are held in memory
abbrev pub phase_at : Reading → Phase
phase_at r = (view_of r.container r.string).phase

abbrev pub held_at : Reading → List ℕ
held_at r = (view_of r.container r.string).held

-- the presentation of the last initialization segment that was given, or the one that the last reset left
abbrev pub latest_at : Reading → Option Presentation
latest_at r = latest_after_all r.string.before (take r.string.taken (items_in r))

-- ---- how a reading changes

-- the empty string, with what presentation a reset left
abbrev pub reading_from : Container → Option Presentation → Reading
reading_from container before = record { container = container; string = string.string_from before }

-- the empty string, with no presentation from before
abbrev pub new_reading : Container → Reading
new_reading container = reading_from container None

-- bytes are appended
abbrev pub with_bytes : List ℕ → Reading → Reading
with_bytes bytes r = record { container = r.container; string = string.with_bytes bytes r.string }

-- the next item was asked for, and this was given, or none
abbrev pub after_answer : Option ByteItem → Reading → Reading
after_answer item r = record { container = r.container; string = string.after_answer item r.string }

-- the parser state was reset: the presentation stays
abbrev pub after_reset : Reading → Reading
after_reset r = record {
  container = r.container;
  string = string.after_reset (items_in r) r.string;
}

-- ---- what items say

-- the coded frame of an item does not end before it begins
abbrev pub IsLasting : ByteItem → Type 0
IsLasting (InitItem p offset) = Unit {0}
IsLasting (FrameItem coded offset) = pos 0 ≤ℤ coded.dur
IsLasting SegmentEnd = Unit {0}
IsLasting (FaultItem f offset) = Unit {0}

-- a presentation is what the box at an offset reads as, or that of the ADTS frame there
abbrev pub IsInitIn : Container → List ℕ → ℕ → Presentation → Type 0
IsInitIn Mp4 whole at p = init_of (segment.box_at whole at) ≡ Ok p
IsInitIn Adts whole at p = IsInitAt whole at p
