-- What holds of each track of a classic file that was read.
use Rattle.std.specs.Prelude.{◌≡◌, ◌≢◌, ℕ, ◌+◌, ◌-◌, ◌≤◌, ◌^◌, pos, ◌≤ℤ◌, List, [], length, map, sum_by, Ok}
use Rattle.std.specs.List.{AllByRecursion}
use lib.Chars.{codes}
use Rattle.mse_base.specs.declared.track.Kind.TheVariants.{Other}
use Rattle.mse_base.specs.declared.track.TrackInfo.{TrackInfo}
use Rattle.mse_base.specs.Presentation.{IsReadable, HasDistinctIds}
use Rattle.bmff_boxes.specs.Children.{Box, child_of}
use Rattle.bmff_init.specs.Tracks.{codec_of}
use Rattle.sample_tables.specs.declared.sample.Sample.{Sample}
use Rattle.sample_tables.specs.declared.media_track.MediaTrack.{MediaTrack}
use Rattle.sample_tables.specs.declared.totals.Totals.{Totals}

-- a whole sample description box (8.5.2) whose first sample entry has this type
pub record IsDescription (codec stsd : List ℕ) : Type 0 where
  pub payload : List ℕ
  pub whole : child_of stsd ≡ (Box (codes "stsd") payload, [])
  pub entry : codec_of payload ≡ Ok codec

-- a sample inside a file of this length
pub record IsSampleIn (len : ℕ) (s : Sample) : Type 0 where
  pub decoded : s.decode ≤ 2 ^ 54
  pub inside : s.place + s.size ≤ len
  pub short : s.size ≤ 2 ^ 26

pub record IsFileTrack (len : ℕ) (t : MediaTrack) : Type 0 where
  pub media : t.info.kind ≢ Other
  pub numbered : 1 ≤ t.info.id
  pub below : t.info.id ≤ 2 ^ 32 - 2
  pub readable : IsReadable t.info
  pub shift : t.info.media_shift ≤ℤ pos (2 ^ 31 - 1)
  pub lag : t.lag ≤ 2 ^ 62
  pub described : IsDescription t.codec t.stsd
  pub short : length t.stsd ≤ 2 ^ 16
  pub samples : AllByRecursion (IsSampleIn len) t.samples

-- the samples of a track and of those before it are few
pub record AreFew (before : Totals) (t : MediaTrack) : Type 0 where
  pub samples : before.samples + length t.samples ≤ 2 ^ 22
  pub bytes : before.bytes + sum_by (λ s. s.size) t.samples ≤ 2 ^ 30

-- the tracks of a file of this length
pub record AreFileTracks (len : ℕ) (tracks : List MediaTrack) : Type 0 where
  pub some : 1 ≤ length tracks
  pub few : length tracks ≤ 64
  pub each : AllByRecursion (IsFileTrack len) tracks
  pub distinct : HasDistinctIds (map (λ t. t.info) tracks)
  pub samples : sum_by (λ t. length t.samples) tracks ≤ 2 ^ 22

-- a track box of video or audio that was read
abbrev pub IsMediaBox : TrackInfo × List ℕ → Type 0
IsMediaBox b = IsReadable b.0 × (b.0.kind ≢ Other)

pub record AreMediaBoxes (boxes : List (TrackInfo × List ℕ)) : Type 0 where
  pub few : length boxes ≤ 64
  pub each : AllByRecursion IsMediaBox boxes
  pub distinct : HasDistinctIds (map (λ b. b.0) boxes)

-- the tracks of such boxes
pub record AreTracksOf (len : ℕ) (boxes : List (TrackInfo × List ℕ))
    (tracks : List MediaTrack) : Type 0 where
  pub infos : map (λ t. t.info) tracks ≡ map (λ b. b.0) boxes
  pub each : AllByRecursion (IsFileTrack len) tracks
  pub samples : sum_by (λ t. length t.samples) tracks ≤ 2 ^ 22
