-- The track of a track box (ISO/IEC 14496-12, 8.3.1).
use Rattle.std.specs.Prelude.{ℕ, nat_eq, ◌==◌, pos, Bool, true, not, if◌then◌else◌, List, [], ◌∷◌, ◌++◌, drop, find, Option, None, Some, unwrap_or, option_and_then, Result, Ok, Err}
use Rattle.std.specs.List.{list_any}
use Rattle.std.specs.Option.{option_eq}
use Rattle.std.specs.Str.{bytes_eq}
use lib.Chars.{codes}
use Rattle.mse_base.specs.declared.track.Kind.{Kind}
use Rattle.mse_base.specs.declared.track.Kind.TheVariants.{Video, Audio, Other}
use Rattle.mse_base.specs.declared.track.TrackInfo.{TrackInfo}
use Rattle.mse_base.specs.Presentation.{has_id}
use Rattle.bmff_boxes.specs.declared.box_header.Header.{Header}
use Rattle.bmff_boxes.specs.declared.box_header.Header.TheVariants.{Whole, Short, Bad}
use Rattle.bmff_boxes.specs.Headers.{header_of}
use Rattle.bmff_boxes.specs.MovieFields.{trex_track_of, trex_duration_of, trex_size_of, trex_flags_of, tkhd_track_of, mdhd_scale_of, hdlr_handler_of, entry_count_of}
use Rattle.bmff_boxes.specs.Rows.{BoxView, row_of, first_of}
use Rattle.bmff_init.specs.declared.fault.InitFault.{InitFault}
use Rattle.bmff_init.specs.declared.fault.InitFault.TheVariants.{Size, Missing, HasSamples, ZeroTimescale, DuplicateTrack}
use Rattle.bmff_init.specs.declared.track.TrackContent.{TrackContent}
use Rattle.bmff_init.specs.declared.form.Form.{Form}
use Rattle.bmff_init.specs.declared.form.Form.TheVariants.{Fragmented, Classic}
use Rattle.bmff_boxes.specs.Reading.{◌>>=◌, need, check}
use Rattle.bmff_init.specs.Edits.{shifts_in}

-- ---- the defaults of the samples in fragments: trex, track extends (8.8.3)

abbrev pub is_trex_of : ℕ → List ℕ → Bool
is_trex_of track trex = option_eq nat_eq (trex_track_of trex) (Some track)

-- the first of a track
abbrev pub trex_of : ℕ → List (List ℕ) → Option (List ℕ)
trex_of track trexes = find (is_trex_of track) trexes

-- one of its fields; 0 for a track that has none
abbrev pub default_of : (List ℕ → Option ℕ) → Option (List ℕ) → ℕ
default_of field trex = unwrap_or (option_and_then field trex) 0

-- ---- what the media box tells

-- hdlr, handler reference (8.4.3; 12.1.1, video media; 12.2.1, audio media)
abbrev pub kind_of : List ℕ → Kind
kind_of handler =
    if bytes_eq handler (codes "vide") then Video
    else (if bytes_eq handler (codes "soun") then Audio else Other)

-- the type of a sample entry
abbrev pub entry_type : Header → Result (List ℕ) InitFault
entry_type (Whole kind head len) = Ok kind
entry_type Short = Err (Missing (codes "stsd"))
entry_type (Bad fault) = Err (Missing (codes "stsd"))

-- stsd, sample description (8.5.2): the type of its first entry
unfoldable pub codec_of : List ℕ → Result (List ℕ) InitFault
codec_of stsd = do
  count ← need Size (entry_count_of stsd)
  _ ← check (Missing (codes "stsd")) (not (count == 0))
  entry_type (header_of (drop 8 stsd))

-- a table of samples or chunks, where it is there, has no entry
abbrev pub empty_table_check : Option (List ℕ) → Result Bool InitFault
empty_table_check None = Ok true
empty_table_check (Some table) = do
  count ← need Size (entry_count_of table)
  check HasSamples (count == 0)

-- in an initialization segment the tables of samples and chunks have no entries (ISO BMFF byte stream format,
-- section 3)
unfoldable pub empty_tables_check : Form → List BoxView → Result Bool InitFault
empty_tables_check Classic table = Ok true
empty_tables_check Fragmented table = do
  _ ← empty_table_check (first_of (codes "stts") table)
  _ ← empty_table_check (first_of (codes "stsc") table)
  _ ← empty_table_check (first_of (codes "stco") table)
  empty_table_check (first_of (codes "co64") table)

-- stbl, sample table (8.5.1), in minf, media information (8.4.4)
unfoldable pub codec_in : Form → List BoxView → Result (List ℕ) InitFault
codec_in form media = do
  minf ← need (Missing (codes "minf")) (first_of (codes "minf") media)
  information ← need Size (row_of minf)
  stbl ← need (Missing (codes "stbl")) (first_of (codes "stbl") information)
  table ← need Size (row_of stbl)
  stsd ← need (Missing (codes "stsd")) (first_of (codes "stsd") table)
  codec ← codec_of stsd
  _ ← empty_tables_check form table
  Ok codec

-- mdhd, media header (8.4.2)
abbrev pub media_scale_of : List BoxView → Result ℕ InitFault
media_scale_of media = do
  mdhd ← need (Missing (codes "mdhd")) (first_of (codes "mdhd") media)
  scale ← need Size (mdhd_scale_of mdhd)
  _ ← check ZeroTimescale (not (scale == 0))
  Ok scale

-- ---- the track

-- of a track with neither video nor audio nothing is read but its number and kind
abbrev pub no_content : TrackContent
no_content = record {
  codec = 0 ∷ 0 ∷ 0 ∷ 0 ∷ [];
  scale = 1;
  media_shift = pos 0;
  empty_shift = pos 0;
}

-- the boxes of the track and of its media box, in a movie whose timescale is `movie_scale`
unfoldable pub media_content : Form → ℕ → List BoxView → List BoxView
    → Result TrackContent InitFault
media_content form movie_scale track media = do
  scale ← media_scale_of media
  codec ← codec_in form media
  shifts ← shifts_in movie_scale (first_of (codes "edts") track)
  Ok
      (record {
        codec = codec;
        scale = scale;
        media_shift = shifts.media;
        empty_shift = shifts.empty;
      })

abbrev pub content_of : Form → ℕ → Kind → List BoxView → List BoxView
    → Result TrackContent InitFault
content_of form movie_scale Other track media = Ok no_content
content_of form movie_scale Video track media = media_content form movie_scale track media
content_of form movie_scale Audio track media = media_content form movie_scale track media

-- the number of a track box: that of its tkhd, track header (8.3.2), which no track before it has
abbrev pub track_number_of : List TrackInfo → List BoxView → Result ℕ InitFault
track_number_of before track = do
  tkhd ← need (Missing (codes "tkhd")) (first_of (codes "tkhd") track)
  id ← need Size (tkhd_track_of tkhd)
  _ ← check DuplicateTrack (not (list_any (has_id id) before))
  Ok id

-- mdia, media box (8.4.1), and the kind that its handler tells
abbrev pub mdia_row_of : List BoxView → Result (List BoxView) InitFault
mdia_row_of track = do
  mdia ← need (Missing (codes "mdia")) (first_of (codes "mdia") track)
  need Size (row_of mdia)

abbrev pub kind_in : List BoxView → Result Kind InitFault
kind_in media = do
  hdlr ← need (Missing (codes "hdlr")) (first_of (codes "hdlr") media)
  handler ← need Size (hdlr_handler_of hdlr)
  Ok (kind_of handler)

abbrev pub track_with : List (List ℕ) → ℕ → Kind → TrackContent → TrackInfo
track_with trexes id kind content = record {
  id = id;
  kind = kind;
  codec = content.codec;
  scale = content.scale;
  media_shift = content.media_shift;
  empty_shift = content.empty_shift;
  default_duration = default_of trex_duration_of (trex_of id trexes);
  default_size = default_of trex_size_of (trex_of id trexes);
  default_flags = default_of trex_flags_of (trex_of id trexes);
}

-- the track of a track box that stands behind those of the tracks `before`
unfoldable pub track_of_trak : Form → ℕ → List (List ℕ) → List TrackInfo → List ℕ
    → Result TrackInfo InitFault
track_of_trak form movie_scale trexes before trak = do
  track ← need Size (row_of trak)
  id ← track_number_of before track
  media ← mdia_row_of track
  kind ← kind_in media
  content ← content_of form movie_scale kind track media
  Ok (track_with trexes id kind content)

unfoldable pub tracks_of_traks : Form → ℕ → List (List ℕ) → List TrackInfo → List (List ℕ)
    → Result (List TrackInfo) InitFault
tracks_of_traks form movie_scale trexes before [] = Ok before
tracks_of_traks form movie_scale trexes before (trak ∷ traks) = do
  track ← track_of_trak form movie_scale trexes before trak
  tracks_of_traks form movie_scale trexes (before ++ track ∷ []) traks
