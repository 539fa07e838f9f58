-- A worked string: a media segment of one coded frame.
use Rattle.std.specs.Prelude.{ℕ, pos, true, List, [], ◌∷◌, ◌++◌, Some}
use lib.Chars.{codes}
use Rattle.mse_base.specs.declared.track.Kind.TheVariants.{Video}
use Rattle.mse_base.specs.declared.track.Presentation.{Presentation}
use Rattle.mse_base.specs.declared.ticks.Moment.TheVariants.{Infinite}
use Rattle.parser_loop.specs.Items.{FrameItem, SegmentEnd}
use Rattle.parser_loop.specs.StringReadings.{StringReading}
use Rattle.segment_walk.specs.Tables.{SegmentItem}

-- one video track, with frames of 1 second
abbrev pub one_track : Presentation
one_track = record {
  scale = 1000;
  duration = Infinite;
  tracks =
      (record {
        id = 1;
        kind = Video;
        codec = codes "avc1";
        scale = 1000;
        media_shift = pos 0;
        empty_shift = pos 0;
        default_duration = 1000;
        default_size = 0;
        default_flags = 0;
      })
      ∷ [];
}

abbrev pub four : ℕ → List ℕ
four n = 0 ∷ 0 ∷ 0 ∷ n ∷ []

-- styp; moof with one sample of 2 bytes at its byte 80; mdat
abbrev pub segment : List ℕ
segment =
    four 8 ++ codes "styp"
    ++ four 72 ++ codes "moof"
    ++ four 64 ++ codes "traf"
    ++ four 16 ++ codes "tfhd" ++ four 0 ++ four 1
    ++ four 16 ++ codes "tfdt" ++ four 0 ++ four 0
    ++ four 24 ++ codes "trun" ++ (0 ∷ 0 ∷ 2 ∷ 1 ∷ []) ++ four 1 ++ four 80 ++ four 2
    ++ four 10 ++ codes "mdat" ++ (7 ∷ 9 ∷ [])

-- a reading of it behind that track, of whose items so many were given
abbrev pub segment_reading : ℕ → StringReading
segment_reading taken = record { before = Some one_track; whole = segment; taken = taken }

abbrev pub segment_items : List SegmentItem
segment_items =
    FrameItem
    (record {
      track_id = 1;
      pts = pos 0;
      dts = pos 0;
      dur = pos 141120000000;
      sync = true;
      payload = 7 ∷ 9 ∷ [];
    })
    88
    ∷ SegmentEnd ∷ []
