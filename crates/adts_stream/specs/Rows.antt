-- Worked strings of ADTS frames and tags.
use Rattle.std.specs.Prelude.{ℕ, pos, true, List, [], ◌∷◌, None}
use Rattle.mse_base.specs.declared.frame.CodedFrame.{CodedFrame}
use Rattle.parser_loop.specs.Items.{InitItem, FrameItem, SegmentEnd}
use Rattle.parser_loop.specs.StringReadings.{StringReading}
use Rattle.adts_stream.specs.Frames.{AdtsItem, presentation_of}

-- a frame of ten bytes with one raw data block, of 44100 samples in a second, and one of 48000
abbrev pub frame_44100 : List ℕ
frame_44100 = 255 ∷ 241 ∷ 80 ∷ 128 ∷ 1 ∷ 95 ∷ 252 ∷ 0 ∷ 0 ∷ 0 ∷ []

abbrev pub frame_48000 : List ℕ
frame_48000 = 255 ∷ 241 ∷ 76 ∷ 128 ∷ 1 ∷ 95 ∷ 252 ∷ 0 ∷ 0 ∷ 0 ∷ []

-- an ID3v2 tag of two bytes behind its header
abbrev pub id3_tag : List ℕ
id3_tag = 73 ∷ 68 ∷ 51 ∷ 4 ∷ 0 ∷ 0 ∷ 0 ∷ 0 ∷ 0 ∷ 2 ∷ 0 ∷ 0 ∷ []

-- a string with no presentation from before, of which so many items were given
abbrev pub reading_of : List ℕ → ℕ → StringReading
reading_of b taken = record { before = None; whole = b; taken = taken }

abbrev pub whole_frame : List ℕ → CodedFrame
whole_frame payload = record {
  track_id = 1;
  pts = pos 0;
  dts = pos 0;
  dur = pos 3276800000;
  sync = true;
  payload = payload;
}

-- a frame of 44100 samples in a second at an offset, with the presentation that it gives, and without
abbrev pub first_frame_items : ℕ → List AdtsItem
first_frame_items at =
    InitItem (presentation_of 44100) at ∷ FrameItem (whole_frame frame_44100) at ∷ SegmentEnd ∷ []

abbrev pub next_frame_items : ℕ → List AdtsItem
next_frame_items at = FrameItem (whole_frame frame_44100) at ∷ SegmentEnd ∷ []
