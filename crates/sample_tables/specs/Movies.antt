-- The tracks of a classic file with their samples (ISO/IEC 14496-12, 8.2 to 8.7), or the first fault.
use Rattle.std.specs.Prelude.{ℕ, not, Bool, true, false, is_some, if◌then◌else◌, List, [], ◌∷◌, ◌++◌, length, option_and_then, unwrap_or, Option, Some, None, Result, Ok, Err}
use Rattle.std.specs.List.{filter, slice_range, zip}
use lib.Chars.{codes}
use Rattle.mse_base.specs.Moments.{is_media}
use Rattle.mse_base.specs.declared.track.TrackInfo.{TrackInfo}
use Rattle.std.specs.Str.{bytes_eq}
use Rattle.bmff_boxes.specs.Children.{ChildView, Box, NoBytes, NoBox, child_of, payload_of}
use Rattle.bmff_boxes.specs.Reading.{◌>>=◌, need, check}
use Rattle.bmff_boxes.specs.declared.reading.ReadError.{ReadError}
use Rattle.bmff_boxes.specs.declared.reading.ReadError.TheVariants as memory
use Rattle.bmff_boxes.specs.Rows.{BoxView, row_of, boxes_in, first_of, all_of}
use Rattle.bmff_init.specs.Movies.{movie_of}
use Rattle.bmff_init.specs.Tracks.{codec_of, mdia_row_of}
use Rattle.bmff_init.specs.declared.fault.InitFault.{InitFault}
use Rattle.bmff_init.specs.declared.fault.InitFault.TheVariants.{Size, Missing}
use Rattle.sample_tables.specs.declared.box_place.BoxPlace.{BoxPlace}
use Rattle.sample_tables.specs.declared.fault.MovieFault.{MovieFault}
use Rattle.sample_tables.specs.declared.fault.MovieFault.TheVariants.{Box, NoMoov, Fragmented, Moov, Tables, Place, Range, TooMany, NoTracks}
use Rattle.sample_tables.specs.declared.fault.PlacedFault.{PlacedFault}
use Rattle.sample_tables.specs.declared.track_tables.TrackTables.{TrackTables}
use Rattle.sample_tables.specs.declared.tables.SampleTables.{SampleTables}
use Rattle.sample_tables.specs.declared.columns.SampleColumns.{SampleColumns}
use Rattle.sample_tables.specs.declared.media_track.MediaTrack.{MediaTrack}
use Rattle.sample_tables.specs.declared.totals.Totals.{Totals}
use Rattle.sample_tables.specs.BoxPlaces.{first_place}
use Rattle.sample_tables.specs.Tables.{tables_of}
use Rattle.sample_tables.specs.Samples.{columns_of, samples_of}
use Rattle.sample_tables.specs.Rules.{are_consistent, lag_of, totals_of, is_in_range, are_few, are_inside}

-- ---- a track box

-- stbl, sample table (8.5.1), in minf, media information (8.4.4), among the boxes of a media box: its payload
abbrev pub sample_table_in : List BoxView → Result (List ℕ) InitFault
sample_table_in media = do
  minf ← need (Missing (codes "minf")) (first_of (codes "minf") media)
  information ← need Size (row_of minf)
  need (Missing (codes "stbl")) (first_of (codes "stbl") information)

-- stsd, sample description (8.5.2): the whole box with its header
abbrev pub whole_at : List ℕ → Result (Option BoxPlace) ℕ → Option (List ℕ)
whole_at b (Ok (Some place)) = Some (slice_range b place.start place.end)
whole_at b (Ok None) = None
whole_at b (Err at) = None

abbrev pub description_in : List ℕ → Result (List ℕ) InitFault
description_in stbl =
    need (Missing (codes "stsd")) (whole_at stbl (first_place (codes "stsd") stbl))

-- the payload of a whole sample description box
abbrev pub description_payload : ChildView × List ℕ → Option (List ℕ)
description_payload (NoBytes, rest) = None
description_payload (NoBox, rest) = None
description_payload (Box kind payload, []) =
    if bytes_eq kind (codes "stsd") then Some payload else None
description_payload (Box kind payload, x ∷ rest) = None

-- the type of its first sample entry
abbrev pub description_codec : List ℕ → Result (List ℕ) InitFault
description_codec stsd = need Size (description_payload (child_of stsd)) >>= codec_of

-- what is read of the sample table box of a track
unfoldable pub track_tables : List ℕ → Result TrackTables InitFault
track_tables trak = do
  track ← need Size (row_of trak)
  media ← mdia_row_of track
  stbl ← sample_table_in media
  boxes ← need Size (row_of stbl)
  tables ← tables_of boxes
  stsd ← description_in stbl
  codec ← description_codec stsd
  Ok (record { stsd = stsd; codec = codec; tables = tables })

-- a fault in the movie box
abbrev pub in_moov : {A : Type 0} → Result A InitFault → Result A MovieFault
in_moov (Ok x) = Ok x
in_moov (Err fault) = Err (Moov fault)

abbrev pub moov_error : ReadError InitFault → ReadError MovieFault
moov_error memory.OutOfMemory = memory.OutOfMemory
moov_error (memory.Fault fault) = memory.Fault (Moov fault)

-- what the tables tell of the samples, each of which has to lie inside a file of this length
abbrev pub columns_inside : ℕ → SampleTables → Result SampleColumns MovieFault
columns_inside len tables = do
  _ ← check Place (are_inside len (columns_of tables).places (columns_of tables).sizes)
  Ok (columns_of tables)

-- the track of a track box in a file of this length, where the tracks before it have so many samples and bytes
abbrev pub media_track_with : ℕ → Totals → TrackInfo → TrackTables → Result MediaTrack MovieFault
media_track_with len before info read = do
  _ ← check Tables (are_consistent read.tables)
  _ ← check Range (is_in_range info read.stsd read.tables)
  _ ← check TooMany (are_few before read.tables)
  columns ← columns_inside len read.tables
  Ok
      (record {
        info = info;
        lag = lag_of info;
        stsd = read.stsd;
        codec = read.codec;
        samples = samples_of columns;
      })

unfoldable pub media_track_of : ℕ → Totals → TrackInfo → List ℕ → Result MediaTrack MovieFault
media_track_of len before info trak = do
  read ← in_moov (track_tables trak)
  media_track_with len before info read

-- ---- a movie box

abbrev pub is_empty : {X : Type 0} → List X → Bool
is_empty [] = true
is_empty (x ∷ xs) = false

-- the track boxes of video and audio, each with what the movie box tells of it
abbrev pub media_boxes : List TrackInfo → List (List ℕ) → List (TrackInfo × List ℕ)
media_boxes infos traks = filter (λ b. is_media b.0.kind) (zip infos traks)

-- the track of such a box behind the tracks `before`, in a file of this length
abbrev pub tracks_and : ℕ → List MediaTrack → TrackInfo × List ℕ
    → Result (List MediaTrack) MovieFault
tracks_and len before b = do
  track ← media_track_of len (totals_of before) b.0 b.1
  Ok (before ++ track ∷ [])

-- the tracks of all of them
abbrev pub media_tracks_of : ℕ → List MediaTrack → List (TrackInfo × List ℕ)
    → Result (List MediaTrack) MovieFault
media_tracks_of len before [] = Ok before
media_tracks_of len before (b ∷ bs) = do
  tracks ← tracks_and len before b
  media_tracks_of len tracks bs

-- a movie that goes on in fragments: the movie box is a row of boxes and has mvex, movie extends (8.8.1)
abbrev pub is_fragmented : List ℕ → Bool
is_fragmented moov =
    is_some (option_and_then (first_of (codes "mvex")) (option_and_then row_of (payload_of moov)))

-- the track boxes of a movie box
abbrev pub track_boxes : List ℕ → List (List ℕ)
track_boxes moov = all_of (codes "trak") (boxes_in (unwrap_or (payload_of moov) []))

-- the tracks with video or audio, of which there has to be one
abbrev pub tracks_by : ℕ → List (TrackInfo × List ℕ) → Result (List MediaTrack) MovieFault
tracks_by len boxes = do
  _ ← check NoTracks (not (is_empty boxes))
  media_tracks_of len [] boxes

-- those of a whole movie box, with its header, in a file of this length
unfoldable pub movie_tracks : ℕ → List ℕ → Result (List MediaTrack) MovieFault
movie_tracks len moov = do
  _ ← check Fragmented (not (is_fragmented moov))
  movie ← in_moov (movie_of moov)
  tracks_by len (media_boxes movie.tracks (track_boxes moov))

-- ---- a file

-- a fault at a place
abbrev pub at_place : {A : Type 0} → ℕ → Result A MovieFault → Result A PlacedFault
at_place offset (Ok x) = Ok x
at_place offset (Err fault) = Err (record { fault = fault; offset = offset })

abbrev pub error_at : ℕ → ReadError MovieFault → ReadError PlacedFault
error_at offset memory.OutOfMemory = memory.OutOfMemory
error_at offset (memory.Fault fault) = memory.Fault (record { fault = fault; offset = offset })

-- the first movie box among the top-level boxes
abbrev pub movie_box_by : ℕ → Result (Option BoxPlace) ℕ → Result BoxPlace PlacedFault
movie_box_by len (Err at) = Err (record { fault = Box; offset = at })
movie_box_by len (Ok None) = Err (record { fault = NoMoov; offset = len })
movie_box_by len (Ok (Some place)) = Ok place

-- the tracks with video or audio of a classic file, with their samples
unfoldable pub file_tracks : List ℕ → Result (List MediaTrack) PlacedFault
file_tracks file = do
  place ← movie_box_by (length file) (first_place (codes "moov") file)
  at_place place.start (movie_tracks (length file) (slice_range file place.start place.end))
