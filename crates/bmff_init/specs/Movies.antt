-- The presentation of a movie box (ISO/IEC 14496-12, 8.2.1): in a fragmented file that of an initialization
-- segment (ISO BMFF byte stream format, section 3), in a classic one that of the whole file.
use Rattle.std.specs.Prelude.{ℕ, ◌-◌, ◌^◌, nat_le, ◌==◌, pos, not, if◌then◌else◌, List, [], length, Option, None, Some, Result, Ok}
use Rattle.std.specs.List.{list_all}
use lib.Chars.{codes}
use Rattle.mse_base.specs.Time.{media_ticks}
use Rattle.mse_base.specs.declared.ticks.Moment.{Moment}
use Rattle.mse_base.specs.declared.ticks.Moment.TheVariants.{At, Infinite}
use Rattle.mse_base.specs.declared.track.Presentation.{Presentation}
use Rattle.bmff_boxes.specs.Fields.{is_version}
use Rattle.bmff_boxes.specs.MovieFields.{mvhd_scale_of, mvhd_duration_of, mehd_duration_of}
use Rattle.bmff_boxes.specs.Rows.{BoxView, row_of, boxes_in, first_of, all_of}
use Rattle.bmff_init.specs.declared.fault.InitFault.{InitFault}
use Rattle.bmff_init.specs.declared.fault.InitFault.TheVariants.{Size, Missing, NoMvex, ZeroTimescale, TooManyTracks}
use Rattle.bmff_init.specs.declared.form.Form.{Form}
use Rattle.bmff_init.specs.declared.form.Form.TheVariants.{Fragmented, Classic}
use Rattle.bmff_init.specs.declared.movie.MovieTimes.{MovieTimes}
use Rattle.bmff_init.specs.declared.movie.MvexIn.{MvexIn}
use Rattle.bmff_boxes.specs.Children.{payload_of}
use Rattle.bmff_boxes.specs.Reading.{◌>>=◌, need, check}
use Rattle.bmff_init.specs.Tracks.{tracks_of_traks}

-- a duration of all ones cannot be determined (8.2.2.3)
abbrev pub known_duration : List ℕ → ℕ → ℕ
known_duration mvhd duration =
    if duration == (if is_version 1 mvhd then 2 ^ 64 - 1 else 2 ^ 32 - 1) then 0 else duration

-- mvhd, movie header (8.2.2)
unfoldable pub times_of : List BoxView → Result MovieTimes InitFault
times_of movie = do
  mvhd ← need (Missing (codes "mvhd")) (first_of (codes "mvhd") movie)
  scale ← need Size (mvhd_scale_of mvhd)
  duration ← need Size (mvhd_duration_of mvhd)
  _ ← check ZeroTimescale (not (scale == 0))
  Ok (record { scale = scale; duration = known_duration mvhd duration })

-- the duration of the movie with its fragments, 0 where that is not known, and the payloads of the trex boxes
pub record MovieExtends : Type 0 where
  pub duration : ℕ
  pub trexes : List (List ℕ)

-- the same of what the code keeps
abbrev pub extends_view : MvexIn → MovieExtends
extends_view extends = record {
  duration = extends.duration;
  trexes = all_of (codes "trex") (boxes_in extends.mvex.now);
}

-- mehd, movie extends header (8.8.2), if there is one
abbrev pub fragments_duration_of : Option (List ℕ) → Result ℕ InitFault
fragments_duration_of None = Ok 0
fragments_duration_of (Some mehd) = need Size (mehd_duration_of mehd)

-- mvex, movie extends (8.8.1), which a classic file does not have
unfoldable pub extends_of : Form → List BoxView → Result MovieExtends InitFault
extends_of Classic movie = Ok (record { duration = 0; trexes = [] })
extends_of Fragmented movie = do
  mvex ← need NoMvex (first_of (codes "mvex") movie)
  boxes ← need Size (row_of mvex)
  duration ← fragments_duration_of (first_of (codes "mehd") boxes)
  _ ← check Size (list_all (λ trex. nat_le 24 (length trex)) (all_of (codes "trex") boxes))
  Ok (record { duration = duration; trexes = all_of (codes "trex") boxes })

-- a duration in the movie's timescale; of 0 it is not known when the movie ends
abbrev pub moment_of : ℕ → ℕ → Moment
moment_of scale duration = if duration == 0 then Infinite else At (media_ticks (pos duration) scale)

-- the presentation of the boxes of a movie box
unfoldable pub presentation_in : Form → List BoxView → Result Presentation InitFault
presentation_in form movie = do
  times ← times_of movie
  extends ← extends_of form movie
  _ ← check TooManyTracks (nat_le (length (all_of (codes "trak") movie)) 64)
  tracks ← tracks_of_traks form times.scale extends.trexes [] (all_of (codes "trak") movie)
  Ok
      (record {
        scale = times.scale;
        duration = moment_of times.scale
            (if extends.duration == 0 then times.duration else extends.duration);
        tracks = tracks;
      })

-- the presentation of a whole movie box with its header, or the first fault
abbrev pub moov_presentation_of : Form → List ℕ → Result Presentation InitFault
moov_presentation_of form moov = do
  payload ← need Size (payload_of moov)
  boxes ← need Size (row_of payload)
  presentation_in form boxes

abbrev pub init_of : List ℕ → Result Presentation InitFault
init_of moov = moov_presentation_of Fragmented moov

abbrev pub movie_of : List ℕ → Result Presentation InitFault
movie_of moov = moov_presentation_of Classic moov
