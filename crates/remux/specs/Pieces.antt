-- A classic file as a fragmented one (ISO/IEC 14496-12, 8.8; ISO BMFF byte stream format): an initialization
-- segment, and a media segment for each run.
use Rattle.std.specs.Prelude.{ℕ, ◌+◌, ℤ, pos, if◌then◌else◌, List, [], ◌∷◌, map, Result, Ok}
use Rattle.std.specs.List.{slice_range}
use Rattle.std.specs.Ordering.{int_eq}
use Rattle.bmff_boxes.specs.Reading.{◌>>=◌}
use Rattle.bmff_write.specs.declared.track_out.TrackOut.{TrackOut}
use Rattle.bmff_write.specs.declared.traf_out.SampleOut.{SampleOut}
use Rattle.bmff_write.specs.declared.traf_out.TrafOut.{TrafOut}
use Rattle.bmff_write.specs.Movie.{init_bytes_with}
use Rattle.bmff_write.specs.Fragment.{segment_bytes}
use Rattle.sample_tables.specs.declared.fault.PlacedFault.{PlacedFault}
use Rattle.sample_tables.specs.declared.sample.Sample.{Sample}
use Rattle.sample_tables.specs.declared.media_track.MediaTrack.{MediaTrack}
use Rattle.sample_tables.specs.Movies.{file_tracks}
use Rattle.remux.specs.Runs.{SampleRun, runs_in_order}

-- an edit that begins at the media time at which the presentation does
abbrev pub edits_of : ℤ → List (ℕ × ℤ)
edits_of shift = if int_eq shift (pos 0) then [] else (0, shift) ∷ []

abbrev pub track_out : MediaTrack → TrackOut
track_out t = record {
  id = t.info.id;
  kind = t.info.kind;
  scale = t.info.scale;
  codec = t.codec;
  edits = edits_of t.info.media_shift;
}

-- the initialization segment: the tracks with their sample description boxes
unfoldable pub init_segment_of : List MediaTrack → List ℕ
init_segment_of tracks = init_bytes_with (map track_out tracks) (map (λ t. t.stsd) tracks)

-- a sample with its bytes
abbrev pub sample_out : List ℕ → Sample → SampleOut
sample_out file s = record {
  duration = s.duration;
  sync = s.sync;
  offset = s.offset;
  payload = slice_range file s.place (s.place + s.size);
}

abbrev pub traf_out : List ℕ → SampleRun → TrafOut
traf_out file run = record {
  id = run.id;
  decode = run.decode;
  samples = map (sample_out file) run.samples;
}

-- a media segment for each run, with sequence numbers from `number` on
abbrev pub segments_from : List ℕ → ℕ → List SampleRun → List (List ℕ)
segments_from file number [] = []
segments_from file number (run ∷ runs) =
    segment_bytes number (traf_out file run ∷ []) ∷ segments_from file (number + 1) runs

-- the pieces of the fragmented file
unfoldable pub pieces_of : List ℕ → List MediaTrack → List (List ℕ)
pieces_of file tracks = init_segment_of tracks ∷ segments_from file 1 (runs_in_order tracks)

-- a classic file as pieces of a fragmented one, or the first fault
unfoldable pub pieces_of_file : List ℕ → Result (List (List ℕ)) PlacedFault
pieces_of_file file = do
  tracks ← file_tracks file
  Ok (pieces_of file tracks)
