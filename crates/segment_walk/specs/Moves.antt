-- The moves of the parser, by which the code goes over a string that comes in pieces: a device of the proof, which has
-- the states that the code has. What a string gives is told in Segments.antt, and `boxes_law` says that the walk by
-- these moves gives the same.
use Rattle.std.specs.Prelude.{ℕ, zero, suc, ◌+◌, ◌-◌, ◌*◌, ◌^◌, nat_lt, nat_le, Bool, true, false, ◌&&◌, ◌||◌, if◌then◌else◌, List, [], ◌∷◌, ◌++◌, length, take, drop, slice_range, slice_get, Option, Some, None, is_some, Result, Ok, Err}
use Rattle.mse_base.specs.declared.frame.CodedFrame.{CodedFrame}
use Rattle.mse_base.specs.declared.track.Presentation.{Presentation}
use Rattle.bmff_boxes.specs.declared.box_header.Header.{Header}
use Rattle.bmff_boxes.specs.declared.box_header.Header.TheVariants as head
use Rattle.bmff_boxes.specs.Headers.{header_of}
use Rattle.bmff_init.specs.declared.fault.InitFault.{InitFault}
use Rattle.bmff_init.specs.Movies.{init_of}
use Rattle.bmff_fragment.specs.declared.fault.MoofFault.{MoofFault}
use Rattle.bmff_fragment.specs.declared.slot.Slot.{Slot}
use Rattle.bmff_fragment.specs.Plans.{plan_of}
use Rattle.parser_loop.specs.Items.{InitItem, FrameItem, SegmentEnd, FaultItem, is_fault, is_frame}
use Rattle.parser_loop.specs.Walk.{Move, Stop, Pass, Give, StreamKind}
use Rattle.segment_walk.specs.declared.kinds.StreamFault.{StreamFault}
use Rattle.segment_walk.specs.declared.kinds.StreamFault.TheVariants as fault
use Rattle.segment_walk.specs.declared.kinds.TopLevelBox.{TopLevelBox}
use Rattle.segment_walk.specs.declared.kinds.TopLevelBox.TheVariants.{FileType, SegmentType, Movie, MovieFragment, MediaData, Other}
use Rattle.mse_base.specs.declared.frame.Phase.{Phase}
use Rattle.mse_base.specs.declared.frame.Phase.TheVariants.{Waiting, InInit, InMedia}
use Rattle.segment_walk.specs.declared.kinds.WalkPlace.{WalkPlace}
use Rattle.segment_walk.specs.declared.kinds.WalkPlace.TheVariants.{AtBox, InData}
use Rattle.segment_walk.specs.declared.kinds.DataRange.{DataRange}
use Rattle.segment_walk.specs.declared.kinds.BoxStep.{BoxStep}
use Rattle.segment_walk.specs.declared.kinds.BoxStep.TheVariants as step
use Rattle.segment_walk.specs.Tables.{SegmentItem, box_type, size_fault, greatest_size}

-- An open movie fragment: the slots of its samples and how many of them were taken, the payloads of the mdats that
-- were met and the end of the last of these, and the place of the walk. All places are counted from the first byte
-- of the moof.
pub record Open : Type 0 where
  pub slots : List Slot
  pub taken : ℕ
  pub known : List DataRange
  pub end : ℕ
  pub place : WalkPlace

-- Before a top-level box; in a box that is passed over, with the number of bytes to its end and the append state
-- behind its header; in a movie fragment.
pub data WalkMode : Type 0 where
  Between : Phase → WalkMode
  Skipping : Phase → ℕ → WalkMode
  Within : Open → WalkMode

-- The state of the walk: the presentation of the last initialization segment, the bytes of the string from `offset`
-- on, which in a movie fragment is the first byte of its moof, and whether a fault was met.
pub record WalkState : Type 0 where
  pub last : Option Presentation
  pub mode : WalkMode
  pub offset : ℕ
  pub rest : List ℕ
  pub failed : Bool

-- ---- what comes next, by the bytes that are there

-- once there are `len` bytes
abbrev pub step_if_there : ℕ → ℕ → BoxStep → BoxStep
step_if_there n len st = if nat_lt n len then step.Wait len else st

-- a box that is out of place where no movie fragment is open; `ready` says that an initialization segment came
abbrev pub place_fault : Bool → Phase → TopLevelBox → Option StreamFault
place_fault ready Waiting Movie = Some fault.MoovPlace
place_fault ready InMedia Movie = Some fault.MoovPlace
place_fault ready InInit MovieFragment = Some fault.MoofPlace
place_fault false Waiting MovieFragment = Some fault.NoInit
place_fault false InMedia MovieFragment = Some fault.NoInit
place_fault ready phase kind = None

-- A box in its place. `ftyp` begins an initialization segment and `styp` a media segment; `moov` and `moof` are read
-- once they are whole; all others are passed over.
abbrev pub step_at_box : Phase → TopLevelBox → ℕ → ℕ → BoxStep
step_at_box Waiting FileType n len = step.Skip InInit len
step_at_box InMedia FileType n len = step.Skip InInit len
step_at_box Waiting SegmentType n len = step.Skip InMedia len
step_at_box InInit Movie n len = step_if_there n len (step.ReadInit len)
step_at_box phase MovieFragment n len = step_if_there n len (step.ReadMoof len)
step_at_box phase kind n len = step.Skip phase len

abbrev pub judge_between : Phase → TopLevelBox → ℕ → ℕ → Option StreamFault → BoxStep
judge_between phase kind n len (Some f) = step.Fail f 0
judge_between phase kind n len None =
    if nat_lt (greatest_size kind) len then step.Fail fault.TooLarge 0
    else step_at_box phase kind n len

-- a box by its header, of which and behind which n bytes are there
abbrev pub box_between : Bool → Phase → ℕ → Header → BoxStep
box_between ready phase n head.Short = step.Wait 0
box_between ready phase n (head.Bad f) = step.Fail (size_fault f) 0
box_between ready phase n (head.Whole kind start len) =
    judge_between phase (box_type kind) n len (place_fault ready phase (box_type kind))

-- A box at a place of a movie fragment. No other segment may begin. The payload of an mdat is known once its header
-- is there; all others are passed over.
abbrev pub judge_within : ℕ → ℕ → TopLevelBox → ℕ → ℕ → BoxStep
judge_within n at FileType start len = step.Fail fault.InSegment at
judge_within n at SegmentType start len = step.Fail fault.InSegment at
judge_within n at Movie start len = step.Fail fault.InSegment at
judge_within n at MovieFragment start len = step.Fail fault.InSegment at
judge_within n at MediaData start len =
    if nat_lt (2 ^ 27) (at + len) then step.Fail fault.TooLarge at
    else step.EnterData (at + start) (at + len)
judge_within n at Other start len =
    if nat_lt (2 ^ 27) (at + len) then step.Fail fault.TooLarge at
    else step_if_there n (at + len) (step.NextBox (at + len))

abbrev pub box_within : ℕ → ℕ → Header → BoxStep
box_within n at head.Short = step.Wait 0
box_within n at (head.Bad f) = step.Fail (size_fault f) at
box_within n at (head.Whole kind start len) = judge_within n at (box_type kind) start len

-- at the end of an mdat: the media segment ends there if no slot is left
abbrev pub step_in_data : Bool → ℕ → BoxStep
step_in_data true end = step.EndSegment end
step_in_data false end = step.NextBox end

abbrev pub place_step : List ℕ → Bool → WalkPlace → BoxStep
place_step rest done (AtBox at) = box_within (length rest) at (header_of (drop at rest))
place_step rest done (InData end) = step_if_there (length rest) end (step_in_data done end)

-- the slot lies inside the payload of an mdat
abbrev pub is_in_ranges : List DataRange → Slot → Bool
is_in_ranges [] s = false
is_in_ranges (k ∷ ks) s = (nat_le k.start s.start && nat_le s.end k.end) || is_in_ranges ks s

-- and ends within n bytes
abbrev pub is_ready : ℕ → List DataRange → Slot → Bool
is_ready n known s = is_in_ranges known s && nat_le s.end n

-- The next slot comes before the next box: its frame is given once its bytes are there. A slot that lies in no mdat
-- up to the last, and begins before the end of that one, will never lie in one.
abbrev pub slot_step : List ℕ → List DataRange → ℕ → WalkPlace → Option Slot → BoxStep
slot_step rest known end place None = place_step rest true place
slot_step rest known end place (Some slot) =
    if is_in_ranges known slot then step_if_there (length rest) slot.end (step.GiveFrame slot)
    else (if nat_lt slot.start end then step.Fail fault.OutsideMdat slot.start
    else place_step rest false place)

unfoldable pub step_of : Bool → List ℕ → WalkMode → BoxStep
step_of ready rest (Between phase) = box_between ready phase (length rest) (header_of rest)
step_of ready rest (Skipping to left) = step.Wait 0
step_of ready rest (Within o) = slot_step rest o.known o.end o.place (slice_get o.slots o.taken)

-- ---- what a step does

-- a fault at a place behind `offset`: no byte is looked at any more
abbrev pub move_of_fault : WalkState → StreamFault → ℕ → Move WalkState SegmentItem
move_of_fault s f at =
    Give (FaultItem f (s.offset + at))
    (record { last = s.last; mode = s.mode; offset = s.offset; rest = []; failed = true })

-- behind the first n bytes, where no segment was begun
abbrev pub state_past : WalkState → Option Presentation → ℕ → WalkState
state_past s last n = record {
  last = last;
  mode = Between Waiting;
  offset = s.offset + n;
  rest = drop n s.rest;
  failed = false;
}

abbrev pub state_in : WalkState → WalkMode → WalkState
state_in s mode = record {
  last = s.last;
  mode = mode;
  offset = s.offset;
  rest = s.rest;
  failed = false;
}

abbrev pub move_of_init : WalkState → ℕ → Result Presentation InitFault → Move WalkState SegmentItem
move_of_init s len (Ok p) = Give (InitItem p s.offset) (state_past s (Some p) len)
move_of_init s len (Err f) = move_of_fault s (fault.Init f) 0

-- a movie fragment whose moof has `len` bytes
abbrev pub open_mode : List Slot → ℕ → WalkMode
open_mode slots len =
    Within (record { slots = slots; taken = 0; known = []; end = 0; place = AtBox len })

abbrev pub move_of_slots : WalkState → ℕ → Result (List Slot) MoofFault → Move WalkState SegmentItem
move_of_slots s len (Ok slots) = Pass (state_in s (open_mode slots len))
move_of_slots s len (Err f) = move_of_fault s (fault.Moof f) 0

abbrev pub move_of_moof : WalkState → ℕ → Option Presentation → Move WalkState SegmentItem
move_of_moof s len None = move_of_fault s fault.NoInit 0
move_of_moof s len (Some p) = move_of_slots s len (plan_of p.tracks (take len s.rest))

-- the movie fragment that is open, or an empty one
abbrev pub open_of : WalkMode → Open
open_of (Between phase) = record { slots = []; taken = 0; known = []; end = 0; place = AtBox 0 }
open_of (Skipping to left) = record { slots = []; taken = 0; known = []; end = 0; place = AtBox 0 }
open_of (Within o) = o

abbrev pub in_data : Open → ℕ → ℕ → WalkMode
in_data o start end =
    Within
    (record {
      slots = o.slots;
      taken = o.taken;
      known = o.known ++ (record { start = start; end = end }) ∷ [];
      end = end;
      place = InData end;
    })

abbrev pub at_box : Open → ℕ → WalkMode
at_box o at =
    Within
    (record { slots = o.slots; taken = o.taken; known = o.known; end = o.end; place = AtBox at })

abbrev pub with_slot_taken : Open → WalkMode
with_slot_taken o =
    Within
    (record { slots = o.slots; taken = o.taken + 1; known = o.known; end = o.end; place = o.place })

-- the coded frame of a slot, with the bytes that lie there
abbrev pub coded_frame : List ℕ → Slot → CodedFrame
coded_frame rest slot = record {
  track_id = slot.track_id;
  pts = slot.pts;
  dts = slot.dts;
  dur = slot.dur;
  sync = slot.sync;
  payload = slice_range rest slot.start slot.end;
}

abbrev pub frame_of : List ℕ → ℕ → Slot → SegmentItem
frame_of rest offset slot = FrameItem (coded_frame rest slot) (offset + slot.start)

abbrev pub move_of_step : WalkState → BoxStep → Move WalkState SegmentItem
move_of_step s (step.Wait n) = Stop
move_of_step s (step.Skip to len) = Pass (state_in s (Skipping to len))
move_of_step s (step.ReadInit len) = move_of_init s len (init_of (take len s.rest))
move_of_step s (step.ReadMoof len) = move_of_moof s len s.last
move_of_step s (step.EnterData start end) = Pass (state_in s (in_data (open_of s.mode) start end))
move_of_step s (step.NextBox at) = Pass (state_in s (at_box (open_of s.mode) at))
move_of_step s (step.GiveFrame slot) =
    Give (frame_of s.rest s.offset slot) (state_in s (with_slot_taken (open_of s.mode)))
move_of_step s (step.EndSegment end) = Give SegmentEnd (state_past s s.last end)
move_of_step s (step.Fail f at) = move_of_fault s f at

-- a byte of a box that is passed over: it is let go as soon as it is there
abbrev pub move_over_byte : WalkState → Phase → ℕ → List ℕ → Move WalkState SegmentItem
move_over_byte s to left [] = Stop
move_over_byte s to left (x ∷ rest) =
    Pass
    (record
    { last = s.last; mode = Skipping to left; offset = s.offset + 1; rest = rest; failed = false })

abbrev pub mode_move : WalkState → WalkMode → Move WalkState SegmentItem
mode_move s (Between phase) = move_of_step s (step_of (is_some s.last) s.rest (Between phase))
mode_move s (Skipping to zero) = Pass (state_in s (Between to))
mode_move s (Skipping to (suc left)) = move_over_byte s to left s.rest
mode_move s (Within o) = move_of_step s (step_of (is_some s.last) s.rest (Within o))

abbrev pub move_unless : WalkState → Bool → Move WalkState SegmentItem
move_unless s true = Stop
move_unless s false = mode_move s s.mode

-- ---- the walk

abbrev pub place_offset : WalkPlace → ℕ
place_offset (AtBox at) = at
place_offset (InData end) = end

abbrev pub place_size : WalkPlace → ℕ
place_size (AtBox at) = 1
place_size (InData end) = 2

-- What each move lowers: the bytes that are not walked over, each of which stands for more moves than a movie
-- fragment has slots, which are at most 2^20.
abbrev pub size_by : ℕ → WalkMode → ℕ
size_by n (Between phase) = 1048580 * n + 1
size_by n (Skipping to zero) = 1048580 * n + 2
size_by n (Skipping to (suc left)) = 1048580 * n
size_by n (Within o) =
    1048580 * (n - place_offset o.place) + (length o.slots - o.taken) + place_size o.place

abbrev pub size_unless : WalkState → Bool → ℕ
size_unless s true = 0
size_unless s false = suc (size_by (length s.rest) s.mode)

-- behind a fault more bytes are let go
abbrev pub more_unless : WalkState → List ℕ → Bool → WalkState
more_unless s c true = s
more_unless s c false = record {
  last = s.last;
  mode = s.mode;
  offset = s.offset;
  rest = s.rest ++ c;
  failed = false;
}

-- a fault ends the walk; coded frames may be taken ahead
abbrev pub segments : StreamKind WalkState SegmentItem
segments = record {
  move = λ s. move_unless s s.failed;
  size = λ s. size_unless s s.failed;
  more = λ s c. more_unless s c s.failed;
  ends = is_fault;
  runs = is_frame;
}
