-- What the fragments of a classic file read as (ISO BMFF byte stream format).
use Rattle.std.specs.Prelude.{ℕ, ◌+◌, ◌*◌, ◌==◌, Bool, ℤ, pos, ◌+ℤ◌, ◌-ℤ◌, List, [], ◌∷◌, ◌++◌, length, map, find, Option, Some, None}
use Rattle.std.specs.List.{slice_range}
use Rattle.mse_base.specs.Time.{media_ticks}
use Rattle.mse_base.specs.declared.frame.CodedFrame.{CodedFrame}
use Rattle.mse_base.specs.declared.ticks.Moment.TheVariants.{Infinite}
use Rattle.mse_base.specs.declared.track.TrackInfo.{TrackInfo}
use Rattle.mse_base.specs.declared.track.Presentation.{Presentation}
use Rattle.parser_loop.specs.Items.{InitItem, FrameItem, SegmentEnd}
use Rattle.segment_walk.specs.Tables.{SegmentItem}
use Rattle.sample_tables.specs.declared.sample.Sample.{Sample}
use Rattle.sample_tables.specs.declared.media_track.MediaTrack.{MediaTrack}
use Rattle.remux.specs.Runs.{SampleRun, bytes_of, runs_in_order}
use Rattle.remux.specs.Pieces.{init_segment_of}

-- a track: in place of its empty edits the decode times have its lag, and its samples have no defaults
abbrev pub track_info : MediaTrack → TrackInfo
track_info track = record {
  id = track.info.id;
  kind = track.info.kind;
  codec = track.codec;
  scale = track.info.scale;
  media_shift = track.info.media_shift;
  empty_shift = pos 0;
  default_duration = 0;
  default_size = 0;
  default_flags = 0;
}

-- the initialization segment: its times are thousandths of a second, and it tells no duration
abbrev pub presentation_of_tracks : List MediaTrack → Presentation
presentation_of_tracks tracks = record {
  scale = 1000;
  duration = Infinite;
  tracks = map track_info tracks;
}

-- a media time of a track, which is shifted by its edit list, in ticks
abbrev pub tick_of : MediaTrack → ℤ → ℤ
tick_of track time = media_ticks (time -ℤ track.info.media_shift) track.info.scale

-- when a sample is decoded, in its track's media time
abbrev pub decode_time : MediaTrack → Sample → ℤ
decode_time track s = pos (s.decode + track.lag)

-- the coded frame of a sample of a file, with its very bytes
abbrev pub frame_of_sample : List ℕ → MediaTrack → Sample → CodedFrame
frame_of_sample file track s = record {
  track_id = track.info.id;
  pts = tick_of track (decode_time track s +ℤ s.offset);
  dts = tick_of track (decode_time track s);
  dur =
      tick_of track (decode_time track s +ℤ s.offset +ℤ pos s.duration)
      -ℤ tick_of track (decode_time track s +ℤ s.offset);
  sync = s.sync;
  payload = slice_range file s.place (s.place + s.size);
}

-- samples of a track, the first of which has its bytes at an offset of the string
abbrev pub items_of_samples : List ℕ → MediaTrack → ℕ → List Sample → List SegmentItem
items_of_samples file track at [] = []
items_of_samples file track at (s ∷ samples) =
    FrameItem (frame_of_sample file track s) at ∷ items_of_samples file track (at + s.size) samples

abbrev pub has_track_number : ℕ → MediaTrack → Bool
has_track_number id track = track.info.id == id

-- the samples of a run, which are of the track that it names
abbrev pub items_of_run : List ℕ → Option MediaTrack → ℕ → SampleRun → List SegmentItem
items_of_run file None at run = []
items_of_run file (Some track) at run = items_of_samples file track at run.samples

-- how many bytes stand in a segment before those of its samples: moof and the header of mdat
abbrev pub head_len : SampleRun → ℕ
head_len run = 96 + 16 * length run.samples

-- the segments of runs, the first of which begins at an offset: the frames of each, and its end
abbrev pub items_of_runs : List ℕ → List MediaTrack → ℕ → List SampleRun → List SegmentItem
items_of_runs file tracks at [] = []
items_of_runs file tracks at (run ∷ runs) =
    items_of_run file (find (has_track_number run.id) tracks) (at + head_len run) run
    ++ SegmentEnd ∷ items_of_runs file tracks (at + (head_len run + bytes_of run.samples)) runs

-- the fragments of a file with these tracks, whose moov begins at byte 24
abbrev pub items_of_file : List ℕ → List MediaTrack → List SegmentItem
items_of_file file tracks =
    InitItem (presentation_of_tracks tracks) 24
    ∷ items_of_runs file tracks (length (init_segment_of tracks)) (runs_in_order tracks)
