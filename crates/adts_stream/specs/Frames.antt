-- What a whole string of ADTS frames gives, frame by frame (Media Source Extensions, 3.5.1, segment parser loop, on the
-- MPEG audio byte stream format). Each frame is a media segment; an initialization segment is made up where a frame has
-- another sampling frequency than the latest presentation, or there is none. The coded frames have no times of their own: they are generated.
use Rattle.std.specs.Prelude.{ℕ, zero, suc, ◌+◌, pos, nat_le, ◌==◌, Bool, true, false, if◌then◌else◌, List, [], ◌∷◌, length, take, drop, slice_get, Option, Some, None}
use lib.Chars.{codes}
use Rattle.mse_base.specs.declared.frame.CodedFrame.{CodedFrame}
use Rattle.mse_base.specs.declared.frame.Phase.{Phase}
use Rattle.mse_base.specs.declared.frame.Phase.TheVariants.{Waiting, InMedia}
use Rattle.mse_base.specs.declared.ticks.Moment.TheVariants.{Infinite}
use Rattle.mse_base.specs.declared.track.Kind.TheVariants.{Audio}
use Rattle.mse_base.specs.declared.track.TrackInfo.{TrackInfo}
use Rattle.mse_base.specs.declared.track.Presentation.{Presentation}
use Rattle.parser_loop.specs.Items.{Item, InitItem, FrameItem, SegmentEnd, FaultItem, leading_frames}
use Rattle.parser_loop.specs.StringReadings.{StringReading}
use Rattle.parser_loop.specs.Parse.{Parse, NoItem, ItemThen, ParserView, items_of, seen_before}
use Rattle.adts_stream.specs.declared.next.AdtsFault.{AdtsFault}
use Rattle.adts_stream.specs.declared.header.FrameHeader.{FrameHeader}
use Rattle.adts_stream.specs.declared.header.Found.{Found}
use Rattle.adts_stream.specs.declared.header.Found.TheVariants as found
use Rattle.adts_stream.specs.Headers.{found_at}

abbrev pub AdtsItem : Type 0
AdtsItem = Item AdtsFault

abbrev pub AdtsParse : Type 0
AdtsParse = Parse ParserView AdtsItem

-- ---- what the items are

-- an audio track of AAC, whose media time counts samples
abbrev pub track_of : ℕ → TrackInfo
track_of rate = record {
  id = 1;
  kind = Audio;
  codec = codes "mp4a";
  scale = rate;
  media_shift = pos 0;
  empty_shift = pos 0;
  default_duration = 0;
  default_size = 0;
  default_flags = 0;
}

abbrev pub presentation_of : ℕ → Presentation
presentation_of rate = record { scale = 0; duration = Infinite; tracks = track_of rate ∷ [] }

abbrev pub has_scale : List TrackInfo → ℕ → Bool
has_scale [] rate = false
has_scale (t ∷ ts) rate = t.scale == rate

-- there is a presentation, and its track has this many samples in a second
abbrev pub has_rate : Option Presentation → ℕ → Bool
has_rate None rate = false
has_rate (Some p) rate = has_scale p.tracks rate

-- the frame at the front of the bytes, header and all
abbrev pub coded_frame : FrameHeader → List ℕ → CodedFrame
coded_frame h rest = record {
  track_id = 1;
  pts = pos 0;
  dts = pos 0;
  dur = h.duration;
  sync = true;
  payload = take h.len rest;
}

-- ---- the string, frame by frame

-- What is seen of the parser: it waits for a media segment, or it is in one, once the header of a frame was accepted;
-- the bytes are those that it holds.
abbrev pub view_waiting : Option Presentation → List ℕ → ParserView
view_waiting latest held = record { phase = Waiting; latest = latest; held = held }

abbrev pub view_in_media : Option Presentation → List ℕ → ParserView
view_in_media latest held = record { phase = InMedia; latest = latest; held = held }

-- The frame at an offset, once all its bytes are there, and then the end of its media segment. Its bytes are held up
-- to there. `next` goes on with the presentation from the offset behind it.
abbrev pub frame_parse : (Option Presentation → ℕ → AdtsParse) → List ℕ → Option Presentation → ℕ
    → FrameHeader → AdtsParse
frame_parse next b latest at h =
    let now = view_in_media latest (drop at b) in
    if nat_le (at + h.len) (length b)
    then ItemThen now (FrameItem (coded_frame h (drop at b)) at)
    (ItemThen now SegmentEnd (next latest (at + h.len)))
    else NoItem now

-- What stands at an offset. A header that is not whole is held. Of a tag nothing is held, and it is passed over once
-- all its bytes are there. A fault is the last item, and nothing is held behind it. A frame of a sampling frequency that
-- the latest presentation does not have gives a presentation first.
abbrev pub found_parse : (Option Presentation → ℕ → AdtsParse) → List ℕ → Option Presentation → ℕ
    → Found → AdtsParse
found_parse next b latest at found.Nothing = NoItem (view_waiting latest (drop at b))
found_parse next b latest at (found.Tag n) =
    if nat_le (at + n) (length b) then next latest (at + n) else NoItem (view_waiting latest [])
found_parse next b latest at (found.Fault f) =
    ItemThen (view_waiting latest (drop at b)) (FaultItem f at) (NoItem (view_waiting latest []))
found_parse next b latest at (found.Frame h) =
    if has_rate latest h.rate then frame_parse next b latest at h
    else ItemThen (view_waiting latest (drop at b)) (InitItem (presentation_of h.rate) at)
    (frame_parse next b (Some (presentation_of h.rate)) at h)

-- at most n tags and frames from an offset on
abbrev pub parse_at : ℕ → List ℕ → Option Presentation → ℕ → AdtsParse
parse_at zero b latest at = NoItem (view_waiting latest (drop at b))
parse_at (suc n) b latest at = found_parse (parse_at n b) b latest at (found_at (drop at b))

-- The whole string, read from its first byte on, where the presentation `last` was left by what came before: it has no
-- more tags and frames than bytes.
unfoldable pub string_parse : Option Presentation → List ℕ → AdtsParse
string_parse last b = parse_at (suc (length b)) b last 0

-- ---- its items, and what is seen before each

-- all items of the string
abbrev pub items_of_string : Option Presentation → List ℕ → List AdtsItem
items_of_string last b = items_of (string_parse last b)

-- the next item of a reading, and the one that stands i places after it; none where the string has none there
abbrev pub next_item : StringReading → Option AdtsItem
next_item r = slice_get (items_of_string r.before r.whole) r.taken

abbrev pub item_ahead : StringReading → ℕ → Option AdtsItem
item_ahead r i = slice_get (items_of_string r.before r.whole) (r.taken + i)

-- what is seen of the parser just before the next item of a reading, or at the end where there is none
abbrev pub view_before : StringReading → ParserView
view_before r = seen_before r.taken (string_parse r.before r.whole)

abbrev pub phase_before : StringReading → Phase
phase_before r = (view_before r).phase

abbrev pub held_before : StringReading → List ℕ
held_before r = (view_before r).held

-- how many of the items that come next are coded frames, up to the first that is none
abbrev pub ready_before : StringReading → ℕ
ready_before r = length (leading_frames (drop r.taken (items_of_string r.before r.whole)))
