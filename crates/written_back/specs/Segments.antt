-- What media segments read as, behind an initialization segment.
use Rattle.std.specs.Prelude.{ℕ, ◌+◌, pos, ◌+ℤ◌, ◌-ℤ◌, List, [], ◌∷◌, ◌++◌, length, map, Option, Some, None, IsSome}
use Rattle.std.specs.List.{flat_map, AllByRecursion}
use Rattle.mse_base.specs.declared.frame.CodedFrame.{CodedFrame}
use Rattle.mse_base.specs.declared.track.TrackInfo.{TrackInfo}
use Rattle.bmff_fragment.specs.Times.{tick_at}
use Rattle.bmff_fragment.specs.Plans.{track_with_id}
use Rattle.bmff_write.specs.declared.track_out.TrackOut.{TrackOut}
use Rattle.bmff_write.specs.declared.traf_out.SampleOut.{SampleOut}
use Rattle.bmff_write.specs.declared.traf_out.TrafOut.{TrafOut}
use Rattle.bmff_write.specs.Tracks.{AreTrafsOut, payload_len}
use Rattle.bmff_write.specs.Fragment.{moof_len, segment_bytes}
use Rattle.parser_loop.specs.Items.{InitItem, FrameItem, SegmentEnd}
use Rattle.segment_walk.specs.Tables.{SegmentItem}
use Rattle.bmff_write.specs.Fits.{IsFittingTraf}
use Rattle.written_back.specs.Tracks.{track_read, presentation_read}

-- a media segment that is written: its sequence number and its track fragments
pub record SegmentOut : Type 0 where
  pub sequence : ℕ
  pub trafs : List TrafOut

-- the coded frame of a sample that is decoded at a media time of its track, with its very bytes
abbrev pub frame_read : TrackInfo → ℕ → SampleOut → CodedFrame
frame_read track time s = record {
  track_id = track.id;
  pts = tick_at track (pos time +ℤ s.offset);
  dts = tick_at track (pos time);
  dur =
      tick_at track (pos time +ℤ s.offset +ℤ pos s.duration)
      -ℤ tick_at track (pos time +ℤ s.offset);
  sync = s.sync;
  payload = s.payload;
}

-- samples of a track, the first of which is decoded at a media time and has its bytes at an offset of the string
abbrev pub samples_read : TrackInfo → ℕ → ℕ → List SampleOut → List SegmentItem
samples_read track time at [] = []
samples_read track time at (s ∷ samples) =
    FrameItem (frame_read track time s) at
    ∷ samples_read track (time + s.duration) (at + length s.payload) samples

-- the samples of the track that a track fragment names
abbrev pub traf_read : Option TrackInfo → ℕ → TrafOut → List SegmentItem
traf_read None at t = []
traf_read (Some track) at t = samples_read track t.decode at t.samples

-- those of track fragments, one after the other, where the bytes of the first begin at an offset
abbrev pub trafs_read : List TrackInfo → ℕ → List TrafOut → List SegmentItem
trafs_read tracks at [] = []
trafs_read tracks at (t ∷ trafs) =
    traf_read (track_with_id tracks t.id) at t
    ++ trafs_read tracks (at + payload_len t.samples) trafs

-- media segments that begin at an offset: the frames of each, and its end
abbrev pub segments_read : List TrackInfo → ℕ → List SegmentOut → List SegmentItem
segments_read tracks at [] = []
segments_read tracks at (g ∷ segments) =
    trafs_read tracks (at + (moof_len g.trafs + 8)) g.trafs
    ++ SegmentEnd ∷ segments_read tracks (at + length (segment_bytes g.sequence g.trafs)) segments

-- the bytes of media segments
abbrev pub segments_bytes : List SegmentOut → List ℕ
segments_bytes segments = flat_map (λ g. segment_bytes g.sequence g.trafs) segments

-- a file of an initialization segment of these tracks, whose moov begins at byte 24, and of media segments behind it
abbrev pub items_read : List TrackOut → ℕ → List SegmentOut → List SegmentItem
items_read tracks len segments =
    InitItem (presentation_read tracks) 24 ∷ segments_read (map track_read tracks) len segments

-- a track fragment of one of the tracks, which can be written
pub record IsTrafOf (tracks : List TrackInfo) (t : TrafOut) : Type 0 where
  pub named : IsSome (track_with_id tracks t.id)
  pub fits : IsFittingTraf t

-- a media segment of the tracks
pub record IsSegmentOf (tracks : List TrackInfo) (g : SegmentOut) : Type 0 where
  pub trafs : AreTrafsOut g.trafs
  pub each : AllByRecursion (IsTrafOf tracks) g.trafs
