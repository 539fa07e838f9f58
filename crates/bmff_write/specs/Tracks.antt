-- What the writers are given.
use Rattle.std.specs.Prelude.{◌≡◌, ◌≢◌, ℕ, ◌-◌, ◌≤◌, ◌^◌, ℤ, pos, negsuc, ◌≤ℤ◌, List, [], ◌∷◌, length, drop, sum_by, IsSomeAnd}
use Rattle.std.specs.List.{AllByRecursion}
use lib.Chars.{codes}
use Rattle.mse_base.specs.declared.track.Kind.TheVariants.{Other}
use Rattle.bmff_boxes.specs.declared.box_header.Header.{Header}
use Rattle.bmff_boxes.specs.declared.box_header.Header.TheVariants.{Whole, Short, Bad}
use Rattle.bmff_boxes.specs.Children.{Box, child_of}
use Rattle.bmff_boxes.specs.Headers.{header_of}
use Rattle.bmff_boxes.specs.MovieFields.{entry_count_of}
use Rattle.bmff_write.specs.declared.track_out.TrackOut.{TrackOut}
use Rattle.bmff_write.specs.declared.traf_out.SampleOut.{SampleOut}
use Rattle.bmff_write.specs.declared.traf_out.TrafOut.{TrafOut}

-- empty edits, of media time -1, and then one edit from a media time on
abbrev pub AreEmptyThenMedia : List (ℕ × ℤ) → Type 0
AreEmptyThenMedia [] = ⊥
AreEmptyThenMedia (edit ∷ []) = pos 0 ≤ℤ edit.1
AreEmptyThenMedia (edit ∷ next ∷ edits) = (edit.1 ≡ negsuc 0) × AreEmptyThenMedia (next ∷ edits)

-- the edits that a reader of initialization segments accepts
abbrev pub AreEdits : List (ℕ × ℤ) → Type 0
AreEdits [] = Unit {0}
AreEdits (edit ∷ edits) = AreEmptyThenMedia (edit ∷ edits) × (length (edit ∷ edits) ≤ 1000)

-- a track of video or audio
pub record IsTrackOut (t : TrackOut) : Type 0 where
  pub media : t.kind ≢ Other
  pub numbered : 1 ≤ t.id
  pub below : t.id ≤ 2 ^ 32 - 2
  pub timed : 1 ≤ t.scale
  pub edited : AreEdits t.edits

-- no two tracks have one number
abbrev pub AreNumbersDistinct : List TrackOut → Type 0
AreNumbersDistinct [] = Unit {0}
AreNumbersDistinct (t ∷ ts) = AllByRecursion (λ u. t.id ≢ u.id) ts × AreNumbersDistinct ts

-- the tracks of an initialization segment
pub record AreTracksOut (tracks : List TrackOut) : Type 0 where
  pub some : 1 ≤ length tracks
  pub few : length tracks ≤ 64
  pub each : AllByRecursion IsTrackOut tracks
  pub distinct : AreNumbersDistinct tracks

-- a whole header of a box of this type
abbrev pub HasType : List ℕ → Header → Type 0
HasType kind (Whole found head len) = found ≡ kind
HasType kind Short = ⊥
HasType kind (Bad fault) = ⊥

-- a whole sample description box (ISO/IEC 14496-12, 8.5.2) whose first sample entry has this type
pub record IsSampleDescription (codec stsd : List ℕ) : Type 0 where
  pub short : length stsd ≤ 2 ^ 16
  pub payload : List ℕ
  pub whole : child_of stsd ≡ (Box (codes "stsd") payload, [])
  pub counted : IsSomeAnd (entry_count_of payload) (λ n. 1 ≤ n)
  pub entry : HasType codec (header_of (drop 8 payload))

-- one sample description for each track
abbrev pub AreSampleDescriptions : List TrackOut → List (List ℕ) → Type 0
AreSampleDescriptions [] [] = Unit {0}
AreSampleDescriptions [] (stsd ∷ stsds) = ⊥
AreSampleDescriptions (t ∷ ts) [] = ⊥
AreSampleDescriptions (t ∷ ts) (stsd ∷ stsds) =
    IsSampleDescription t.codec stsd × AreSampleDescriptions ts stsds

-- how many bytes the samples of a track fragment have
abbrev pub payload_len : List SampleOut → ℕ
payload_len samples = sum_by (λ s. length s.payload) samples

-- the track fragments of a movie fragment; so its moof has fewer than 2^24 bytes
pub record AreTrafsOut (trafs : List TrafOut) : Type 0 where
  pub some : 1 ≤ length trafs
  pub few : length trafs ≤ 2 ^ 16
  pub samples : sum_by (λ t. length t.samples) trafs ≤ 2 ^ 19
  pub payload : sum_by (λ t. payload_len t.samples) trafs ≤ 2 ^ 26

-- lists of edits and sample descriptions that are short enough for the sizes of all boxes to fit 32 bits
abbrev pub HasFewEdits : TrackOut → Type 0
HasFewEdits t = length t.edits ≤ 1000

abbrev pub IsShort : List ℕ → Type 0
IsShort stsd = length stsd ≤ 2 ^ 16

-- the sizes of all boxes fit, and so does the next track number
pub record AreWritable (tracks : List TrackOut) (stsds : List (List ℕ)) : Type 0 where
  pub each : AllByRecursion IsTrackOut tracks
  pub few : length tracks ≤ 64
  pub edits : AllByRecursion HasFewEdits tracks
  pub pairs : length stsds ≡ length tracks
  pub short : AllByRecursion IsShort stsds
