-- What contracts see of a byte stream.
use Rattle.std.specs.Prelude.{◌≡◌, ℕ, ◌+◌, ◌<◌, ◌^◌, List, length, Option, Some, None}
use Rattle.mse_base.specs.declared.frame.Phase.{Phase}
use Rattle.mse_base.specs.declared.track.Presentation.{Presentation}
use Rattle.mse_types.specs.declared.answer.Container.{Container}
use Rattle.mse_types.specs.declared.answer.Container.TheVariants.{Mp4, Adts}
use Rattle.parser_loop.specs.Walk.{Lookahead}
use Rattle.parser_loop.specs.StringReadings.{StringReading}
use Rattle.segment_walk.specs.Tables.{SegmentItem}
use Rattle.segment_walk.specs.Moves as segment
use Rattle.segment_walk.specs.Strings as segment_string
use Rattle.segment_stream.specs.Streams as segment_stream
use Rattle.adts_stream.specs.Walk as frame
use Rattle.adts_stream.specs.Values as frame_values
use Rattle.adts_stream.specs.Streams as frame_stream
use Rattle.byte_stream.specs.declared.parser.Parser.{Parser}
use Rattle.byte_stream.specs.declared.parser.Parser.TheVariants as parser
use Rattle.byte_stream.specs.Readings.{Reading}

-- what the parser of either container keeps
pub data ParserState : Type 0 where
  OfSegments : Lookahead segment.WalkState SegmentItem → ParserState
  OfFrames : frame.WalkState → ParserState

-- What the parser keeps, the length of the string since the last reset, and the bytes that are offered, if there are
-- any.
pub record StreamView : Type 0 where
  pub parser : ParserState
  pub fed : ℕ
  pub offered : Option (List ℕ)

-- what is kept stands for a string of the container that it is of
abbrev pub StandsIn : ParserState → Container → StringReading → Type 0
StandsIn (OfSegments kept) Mp4 r = segment_stream.IsKeptFor kept r
StandsIn (OfFrames kept) Adts r = frame_stream.IsKeptFor kept r
StandsIn (OfSegments kept) Adts r = ⊥
StandsIn (OfFrames kept) Mp4 r = ⊥

-- The stream stands for a reading. Many strings may belong to one stream.
pub record Stands (s : StreamView) (r : Reading) : Type 0 where
  pub parser : StandsIn s.parser r.container r.string
  pub fed : s.fed ≡ length r.string.whole

-- it stands for some reading
pub record HasReading (s : StreamView) : Type 0 where
  pub reading : Reading
  pub stands : Stands s reading

-- for each reading that it stands for
abbrev pub ForEachReading : StreamView → (Reading → Type 0) → Type 0
ForEachReading s p = (r : Reading) → Stands s r → p r

-- it stands for each reading that it stood for, after a change of it
abbrev pub StandsAfter : StreamView → (Reading → Reading) → StreamView → Type 0
StandsAfter old change new = ForEachReading old (λ r. Stands new (change r))

-- ---- what is told without a reading

-- the presentation of the last initialization segment that was given, or the one from before
abbrev pub latest_kept : ParserState → Option Presentation
latest_kept (OfSegments kept) = kept.state.last
latest_kept (OfFrames kept) = kept.last

abbrev pub latest_of : StreamView → Option Presentation
latest_of s = latest_kept s.parser

-- how many coded frames come next, up to the first item that is none
abbrev pub ready_kept : ParserState → ℕ
ready_kept (OfSegments kept) = length kept.items
ready_kept (OfFrames kept) = frame_values.ready_of kept

abbrev pub ready_of : StreamView → ℕ
ready_of s = ready_kept s.parser

-- where the segment parser loop is just before the next item, or at the end of the string where there is none
abbrev pub phase_kept : ParserState → Phase
phase_kept (OfSegments kept) = segment_string.phase_of kept.state.mode
phase_kept (OfFrames kept) = frame.phase_of kept.point

abbrev pub phase_of : StreamView → Phase
phase_of s = phase_kept s.parser

-- the bytes that are held in memory
abbrev pub held_kept : ParserState → List ℕ
held_kept (OfSegments kept) = kept.state.rest
held_kept (OfFrames kept) = kept.rest

abbrev pub held_of : StreamView → List ℕ
held_of s = held_kept s.parser

-- ---- what the fields are to this

-- what is seen of the parser of either container
abbrev pub stream_view : Parser → StreamView
stream_view (parser.Segments s) = record {
  parser = OfSegments s.kept;
  fed = s.fed;
  offered = s.offered;
}
stream_view (parser.Frames s) = record {
  parser = OfFrames s.state;
  fed = s.fed;
  offered = s.offered;
}

abbrev pub offered_len : Option (List ℕ) → ℕ
offered_len None = 0
offered_len (Some bytes) = length bytes

-- the numbers are the length of the string and of what is offered, if anything is
pub record HasLengths (s : StreamView) (len more : ℕ) : Type 0 where
  pub stands : HasReading s
  pub fed : len ≡ s.fed
  pub offered : more ≡ offered_len s.offered
  pub bounded : len + more < 2 ^ 62
