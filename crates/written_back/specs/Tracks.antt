-- What an initialization segment of tracks reads as.
use Rattle.std.specs.Prelude.{ℕ, ◌+◌, ℤ, pos, List, [], ◌∷◌, map}
use Rattle.mse_base.specs.Time.{media_ticks}
use Rattle.mse_base.specs.declared.ticks.Moment.TheVariants.{Infinite}
use Rattle.mse_base.specs.declared.track.TrackInfo.{TrackInfo}
use Rattle.mse_base.specs.declared.track.Presentation.{Presentation}
use Rattle.bmff_write.specs.declared.track_out.TrackOut.{TrackOut}

-- the media time of the edit behind the empty ones (ISO/IEC 14496-12, 8.6.6); 0 where there are no edits
abbrev pub last_media_time : List (ℕ × ℤ) → ℤ
last_media_time [] = pos 0
last_media_time (edit ∷ []) = edit.1
last_media_time (edit ∷ next ∷ edits) = last_media_time (next ∷ edits)

-- how long the empty edits before the last one wait, in thousandths of a second
abbrev pub wait_of : List (ℕ × ℤ) → ℕ
wait_of [] = 0
wait_of (edit ∷ []) = 0
wait_of (edit ∷ next ∷ edits) = edit.0 + wait_of (next ∷ edits)

-- a track; its samples have no defaults
abbrev pub track_read : TrackOut → TrackInfo
track_read t = record {
  id = t.id;
  kind = t.kind;
  codec = t.codec;
  scale = t.scale;
  media_shift = last_media_time t.edits;
  empty_shift = media_ticks (pos (wait_of t.edits)) 1000;
  default_duration = 0;
  default_size = 0;
  default_flags = 0;
}

-- an initialization segment of these tracks: its times are thousandths of a second, and it tells no duration
abbrev pub presentation_read : List TrackOut → Presentation
presentation_read tracks = record {
  scale = 1000;
  duration = Infinite;
  tracks = map track_read tracks;
}
