-- What a movie fragment reads as.
use Rattle.std.specs.Prelude.{◌≡◌, ℕ, ◌+◌, ◌<◌, ◌^◌, true, List, [], ◌∷◌, ◌++◌, length, Option, Some, None}
use Rattle.mse_base.specs.declared.track.TrackInfo.{TrackInfo}
use Rattle.bmff_fragment.specs.declared.sample.FragmentSample.{FragmentSample}
use Rattle.bmff_fragment.specs.declared.slot.Slot.{Slot}
use Rattle.bmff_fragment.specs.Times.{slot_of}
use Rattle.mse_base.specs.Moments.{is_media}
use Rattle.bmff_fragment.specs.Plans.{track_with_id}
use Rattle.bmff_write.specs.declared.traf_out.SampleOut.{SampleOut}
use Rattle.bmff_write.specs.declared.traf_out.TrafOut.{TrafOut}
use Rattle.bmff_write.specs.Tracks.{payload_len}
use Rattle.bmff_write.specs.Fragment.{sample_flags}

-- a sample as the reader of movie fragments sees it
abbrev pub sample_read : SampleOut → FragmentSample
sample_read s = record {
  duration = s.duration;
  size = length s.payload;
  flags = sample_flags s.sync;
  offset = s.offset;
}

-- the slots of samples of a track, the first of which is decoded at a media time and has its bytes at a place of the
-- movie fragment
abbrev pub slots_read : TrackInfo → ℕ → ℕ → List SampleOut → List Slot
slots_read track time at [] = []
slots_read track time at (s ∷ samples) =
    slot_of track time at (sample_read s)
    ∷ slots_read track (time + s.duration) (at + length s.payload) samples

-- those of a track fragment, by the track that it names
abbrev pub traf_slots : Option TrackInfo → ℕ → TrafOut → List Slot
traf_slots None at t = []
traf_slots (Some track) at t = slots_read track t.decode at t.samples

-- those of track fragments, whose bytes stand one after the other from a place on
abbrev pub trafs_slots : List TrackInfo → ℕ → List TrafOut → List Slot
trafs_slots tracks at [] = []
trafs_slots tracks at (t ∷ trafs) =
    traf_slots (track_with_id tracks t.id) at t
    ++ trafs_slots tracks (at + payload_len t.samples) trafs

-- each number that names a track names one of video or audio, and has 32 bits
abbrev pub AreMedia : List TrackInfo → Type 0
AreMedia tracks =
    (id : ℕ) (track : TrackInfo) → track_with_id tracks id ≡ Some track
    → (is_media track.kind ≡ true) × (id < 2 ^ 32)
