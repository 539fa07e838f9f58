-- The walk that the code makes over frames and tags, move by move: a device of the proof. `frames_law` says that it
-- gives the items of the string, and shows before each what is seen of the parser.
use Rattle.std.specs.Prelude.{ℕ, zero, suc, ◌+◌, ◌-◌, ◌*◌, nat_lt, Bool, true, false, if◌then◌else◌, List, [], ◌∷◌, ◌++◌, length, drop, Option, Some}
use Rattle.mse_base.specs.declared.frame.Phase.{Phase}
use Rattle.mse_base.specs.declared.frame.Phase.TheVariants.{Waiting, InMedia}
use Rattle.mse_base.specs.declared.track.Presentation.{Presentation}
use Rattle.parser_loop.specs.Walk.{Move, Stop, Pass, Give, StreamKind, state_at}
use Rattle.parser_loop.specs.Items.{InitItem, FrameItem, SegmentEnd, FaultItem, is_fault}
use Rattle.parser_loop.specs.Parse.{ParserView}
use Rattle.parser_loop.specs.StringReadings.{StringReading}
use Rattle.adts_stream.specs.declared.header.FrameHeader.{FrameHeader}
use Rattle.adts_stream.specs.declared.header.Found.{Found}
use Rattle.adts_stream.specs.declared.header.Found.TheVariants as found
use Rattle.adts_stream.specs.declared.position.ParsePoint.{ParsePoint}
use Rattle.adts_stream.specs.declared.position.ParsePoint.TheVariants.{AtHeader, InTag, AtFrame, AtEnd}
use Rattle.adts_stream.specs.Headers.{found_at}
use Rattle.adts_stream.specs.Frames.{AdtsItem, presentation_of, has_rate, coded_frame}

-- The state of the walk: the presentation of the last initialization segment, which item comes next, the bytes of the
-- string from `offset` on, and whether a fault was met.
pub record WalkState : Type 0 where
  pub last : Option Presentation
  pub point : ParsePoint
  pub offset : ℕ
  pub rest : List ℕ
  pub failed : Bool

-- ---- the moves

abbrev pub state_in : WalkState → ParsePoint → WalkState
state_in s point = record {
  last = s.last;
  point = point;
  offset = s.offset;
  rest = s.rest;
  failed = false;
}

-- behind an initialization segment: its frame comes next
abbrev pub state_after_init : WalkState → FrameHeader → WalkState
state_after_init s h = record {
  last = Some (presentation_of h.rate);
  point = AtFrame h;
  offset = s.offset;
  rest = s.rest;
  failed = false;
}

-- behind the first n bytes
abbrev pub state_past : WalkState → ℕ → WalkState
state_past s n = record {
  last = s.last;
  point = AtHeader;
  offset = s.offset + n;
  rest = drop n s.rest;
  failed = false;
}

-- behind a fault: no byte is looked at any more
abbrev pub state_after_fault : WalkState → WalkState
state_after_fault s = record {
  last = s.last;
  point = AtHeader;
  offset = s.offset;
  rest = [];
  failed = true;
}

-- a frame of another rate begins with an initialization segment
abbrev pub frame_move : WalkState → FrameHeader → Move WalkState AdtsItem
frame_move s h =
    if has_rate s.last h.rate then Pass (state_in s (AtFrame h))
    else Give (InitItem (presentation_of h.rate) s.offset) (state_after_init s h)

abbrev pub found_move : WalkState → Found → Move WalkState AdtsItem
found_move s found.Nothing = Stop
found_move s (found.Tag n) = Pass (state_in s (InTag n))
found_move s (found.Fault f) = Give (FaultItem f s.offset) (state_after_fault s)
found_move s (found.Frame h) = frame_move s h

-- a byte of a tag is let go as soon as it is there
abbrev pub tag_move : WalkState → ℕ → List ℕ → Move WalkState AdtsItem
tag_move s left [] = Stop
tag_move s left (x ∷ rest) =
    Pass
    (record {
      last = s.last;
      point = InTag left;
      offset = s.offset + 1;
      rest = rest;
      failed = false;
    })

-- what waits for the whole frame
abbrev pub once_there : WalkState → FrameHeader → Move WalkState AdtsItem → Move WalkState AdtsItem
once_there s h m = if nat_lt (length s.rest) h.len then Stop else m

-- Before a header; in a tag, with the number of its bytes that are left; before the coded frame of a header, and
-- before the end of its segment, each of which comes once the frame is whole.
abbrev pub point_move : WalkState → ParsePoint → Move WalkState AdtsItem
point_move s AtHeader = found_move s (found_at s.rest)
point_move s (InTag zero) = Pass (state_in s AtHeader)
point_move s (InTag (suc left)) = tag_move s left s.rest
point_move s (AtFrame h) =
    once_there s h (Give (FrameItem (coded_frame h s.rest) s.offset) (state_in s (AtEnd h)))
point_move s (AtEnd h) = once_there s h (Give SegmentEnd (state_past s h.len))

abbrev pub move_unless : WalkState → Bool → Move WalkState AdtsItem
move_unless s true = Stop
move_unless s false = point_move s s.point

-- ---- the walk

-- what each move lowers: the bytes that are not walked over, and the items of the frame that are left
abbrev pub size_by : ℕ → ParsePoint → ℕ
size_by n AtHeader = 3 * n + 1
size_by n (InTag zero) = 3 * n + 2
size_by n (InTag (suc left)) = 3 * n
size_by n (AtFrame h) = 3 * (n - h.len) + 3
size_by n (AtEnd h) = 3 * (n - h.len) + 2

abbrev pub size_unless : WalkState → Bool → ℕ
size_unless s true = 0
size_unless s false = suc (size_by (length s.rest) s.point)

-- behind a fault more bytes are let go
abbrev pub more_unless : WalkState → List ℕ → Bool → WalkState
more_unless s c true = s
more_unless s c false = record {
  last = s.last;
  point = s.point;
  offset = s.offset;
  rest = s.rest ++ c;
  failed = false;
}

-- a fault ends the walk; nothing is taken ahead
abbrev pub adts : StreamKind WalkState AdtsItem
adts = record {
  move = λ s. move_unless s s.failed;
  size = λ s. size_unless s s.failed;
  more = λ s c. more_unless s c s.failed;
  ends = is_fault;
  runs = λ _. false;
}

-- ---- a string

-- the walk before the first byte of a string
abbrev pub start : Option Presentation → List ℕ → WalkState
start last b = record { last = last; point = AtHeader; offset = 0; rest = b; failed = false }

-- its state just before the next item of a reading, or at the end of the string where there is none
abbrev pub state_before : StringReading → WalkState
state_before r = state_at adts r.taken (start r.before r.whole)

abbrev pub phase_of : ParsePoint → Phase
phase_of AtHeader = Waiting
phase_of (InTag left) = Waiting
phase_of (AtFrame h) = InMedia
phase_of (AtEnd h) = InMedia

-- what is seen of a state
abbrev pub view_of : WalkState → ParserView
view_of s = record { phase = phase_of s.point; latest = s.last; held = s.rest }
