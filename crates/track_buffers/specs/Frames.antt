-- Coded frames of the byte stream, reset parser state, removal and eviction, by the media.
use Rattle.std.specs.Prelude.{◌≡◌, ℕ, ◌+◌, ◌==◌, ℤ, Bool, ◌||◌, List, [], ◌∷◌, map, flat_map, position, slice_set, Option, Some, None, if◌then◌else◌}
use Rattle.mse_base.specs.declared.frame.CodedFrame.{CodedFrame}
use Rattle.mse_base.specs.declared.ticks.Moment.{Moment}
use Rattle.mse_base.specs.Moments.{greatest, greater_moment}
use Rattle.track_store.specs.declared.store.Stored.{Stored}
use Rattle.track_store.specs.declared.tracks.Settings.{Settings}
use Rattle.track_store.specs.Frames.{starts, ends}
use Rattle.track_store.specs.Kept.{bytes_in}
use Rattle.track_store.specs.State.{TrackState, unset_marks}
use Rattle.frame_rules.specs.declared.answer.Placed.{Placed}
use Rattle.frame_rules.specs.declared.answer.Placed.TheVariants as placed_as
use Rattle.frame_rules.specs.Place.{Placement, placement}
use Rattle.range_removal.specs.Removal.{tracks_after_removal}
use Rattle.eviction.specs.Evicting.{tracks_after_eviction}
use Rattle.track_buffers.specs.declared.effects.SourceEffect.{SourceEffect}
use Rattle.track_buffers.specs.declared.frames.TrackPlace.{TrackPlace}
use Rattle.track_buffers.specs.declared.effects.MediaFault.TheVariants.{TimeRange, Counts}
use Rattle.track_buffers.specs.Media.{Media, no_effect, with_duration, MediaResult, Done, AppendError}

abbrev pub has_number : ℕ → TrackState → Bool
has_number id t = t.id == id

-- the place of the track buffer of a number
abbrev pub place_of : ℕ → List TrackState → Option ℕ
place_of id ts = position (has_number id) ts

-- the place is that of the track buffer of the number
abbrev pub IsTrackPlace : TrackPlace → List TrackState → Type 0
IsTrackPlace l ts = place_of l.id ts ≡ Some l.place

-- the numbers of the tracks
abbrev pub track_ids : List TrackState → List ℕ
track_ids ts = map (λ t. t.id) ts

-- the frames of each track
abbrev pub track_frames : List TrackState → List (List Stored)
track_frames ts = map (λ t. t.frames) ts

-- only the frames of the track at a place changed, to these
abbrev pub AreFramesSetAt : ℕ → List TrackState → List TrackState → TrackState → Type 0
AreFramesSetAt i old new t = track_frames new ≡ slice_set (track_frames old) i t.frames

-- after coded frame processing: a frame that was stored raises the duration to the group end timestamp (Media Source
-- Extensions, 3.5.8, step 5)
abbrev pub placement_result : Placed → List TrackState → Settings → Media → Moment → MediaResult
placement_result placed_as.Stored ts s m d =
    Done (record m { tracks = ts; settings = s })
    (with_duration (greater_moment d s.group_end) (no_effect d))
placement_result (placed_as.Dropped why) ts s m d =
    Done (record m { tracks = ts; settings = s }) (no_effect d)
placement_result placed_as.TimeRange ts s m d = AppendError TimeRange m (no_effect d)
placement_result placed_as.Counts ts s m d = AppendError Counts m (no_effect d)

abbrev pub frame_result_of : Placement → Media → Moment → MediaResult
frame_result_of o m d = placement_result o.answer o.tracks o.settings m d

-- a frame of no track buffer is passed over
abbrev pub frame_result_at : Option ℕ → CodedFrame → Media → Moment → MediaResult
frame_result_at None f m d = Done m (no_effect d)
frame_result_at (Some i) f m d = frame_result_of (placement m.tracks m.settings i f) m d

-- a coded frame of the byte stream, where the duration is d
abbrev pub frame_result : CodedFrame → Media → Moment → MediaResult
frame_result f m d = frame_result_at (place_of f.track_id m.tracks) f m d

-- ---- frames that are ready when the parser is reset

pub record FlushResult : Type 0 where
  pub media : Media
  pub effect : SourceEffect

-- what two things in a row bring about
abbrev pub effect_of_both : SourceEffect → SourceEffect → SourceEffect
effect_of_both a b = record {
  duration_changes = a.duration_changes + b.duration_changes;
  duration = b.duration;
  activated = a.activated || b.activated;
  received_init = a.received_init || b.received_init;
}

-- after something else was brought about
abbrev pub flush_result_after : SourceEffect → FlushResult → FlushResult
flush_result_after b r = record { media = r.media; effect = effect_of_both b r.effect }

abbrev pub flush_result_of : MediaResult → (Media → Moment → FlushResult) → Media → Moment
    → FlushResult
flush_result_of (Done n b) rest m d = flush_result_after b (rest n b.duration)
flush_result_of (AppendError fault n b) rest m d = record { media = m; effect = no_effect d }

-- Coded frames one after the other. A frame whose times are out of range, or that passes a count, ends this, and
-- nothing else comes of it.
abbrev pub flush_result : List CodedFrame → Media → Moment → FlushResult
flush_result [] m d = record { media = m; effect = no_effect d }
flush_result (f ∷ fs) m d = flush_result_of (frame_result f m d) (λ n e. flush_result fs n e) m d

-- Reset parser state (Media Source Extensions, 3.5.2), behind the frames: the marks of all track buffers are unset and
-- all need a random access point; in mode "sequence" the group start timestamp becomes the group end timestamp
abbrev pub unset_track : TrackState → TrackState
unset_track t = record t { marks = unset_marks t.marks }

abbrev pub reset_settings : Settings → Settings
reset_settings s = if s.sequence then record s { group_start = Some s.group_end } else s

abbrev pub media_after_reset : Media → Media
media_after_reset m = record {
  tracks = map unset_track m.tracks;
  settings = reset_settings m.settings;
  pending = m.pending;
  gap = m.gap;
}

-- ---- removal, eviction, numbers

-- coded frame removal (Media Source Extensions, 3.5.9)
abbrev pub media_after_removal : ℤ → Moment → Moment → Media → Media
media_after_removal start end duration m = record m {
  tracks = tracks_after_removal start end duration m.tracks;
}

-- coded frame eviction (Media Source Extensions, 3.5.10)
abbrev pub media_after_eviction : ℤ → ℕ → ℕ → Moment → Media → Media
media_after_eviction position new quota duration m = record m {
  tracks = tracks_after_eviction position new quota duration m.tracks;
}

-- the bytes of all stored frames
abbrev pub used_in : Media → ℕ
used_in m = bytes_in m.tracks

-- the greatest presentation timestamp, and the greatest frame end timestamp, of all stored frames
abbrev pub highest_start_in : Media → Option ℤ
highest_start_in m = greatest (flat_map (λ t. starts t.frames) m.tracks)

abbrev pub highest_end_in : Media → Option ℤ
highest_end_in m = greatest (flat_map (λ t. ends t.frames) m.tracks)
