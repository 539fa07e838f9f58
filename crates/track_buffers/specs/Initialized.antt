-- Initialization segment received (Media Source Extensions, 3.5.7).
use Rattle.std.specs.Prelude.{ℕ, ◌==◌, Bool, true, false, not, ◌&&◌, ◌||◌, List, [], ◌∷◌, map, filter, find, Option, Some, None, if◌then◌else◌}
use Rattle.std.specs.List.{count_by, list_all}
use Rattle.std.specs.Str.{bytes_eq}
use Rattle.mse_base.specs.declared.ticks.Moment.{Moment}
use Rattle.mse_base.specs.declared.ticks.Moment.TheVariants.{Nan, At, Infinite}
use Rattle.mse_base.specs.declared.track.Kind.{Kind}
use Rattle.mse_base.specs.declared.track.Kind.TheVariants.{Video, Audio}
use Rattle.mse_base.specs.Moments.{is_same_kind, is_media}
use Rattle.mse_base.specs.declared.track.Presentation.{Presentation}
use Rattle.mse_base.specs.declared.track.TrackInfo.{TrackInfo}
use Rattle.mse_types.specs.Names.{sample_entries, is_among}
use Rattle.track_store.specs.State.{TrackState, new_marks, marks_needing_sync}
use Rattle.track_buffers.specs.declared.effects.SourceEffect.{SourceEffect}
use Rattle.track_buffers.specs.declared.effects.MediaFault.{MediaFault}
use Rattle.track_buffers.specs.declared.effects.MediaFault.TheVariants.{NoTracks, UnknownCodec, TracksDiffer}
use Rattle.track_buffers.specs.Media.{Media, is_empty_list, is_awaiting_first, no_effect, with_duration, MediaResult, Done, AppendError}

-- the tracks of an initialization segment that a buffer takes frames of: video and audio
abbrev pub is_media_track : TrackInfo → Bool
is_media_track u = is_media u.kind

abbrev pub media_tracks : Presentation → List TrackInfo
media_tracks p = filter is_media_track p.tracks

-- step 1: where there is no duration yet, it becomes that of the segment
abbrev pub segment_effect : Presentation → Moment → SourceEffect
segment_effect p Nan = with_duration p.duration (no_effect Nan)
segment_effect p (At d) = no_effect (At d)
segment_effect p Infinite = no_effect Infinite

-- how many are of the kind
abbrev pub count_of : Kind → List Kind → ℕ
count_of kind kinds = count_by (is_same_kind kind) kinds

-- what the tracks of a segment carry, and what those of a buffer carry
abbrev pub new_kinds : List TrackInfo → List Kind
new_kinds news = map (λ u. u.kind) news

abbrev pub kinds_of : List TrackState → List Kind
kinds_of ts = map (λ t. t.kind) ts

-- the track of a kind, or the one of a kind and number
abbrev pub is_of_kind : Kind → TrackInfo → Bool
is_of_kind kind u = is_same_kind kind u.kind

abbrev pub is_numbered : Kind → ℕ → TrackInfo → Bool
is_numbered kind id u = is_same_kind kind u.kind && (u.id == id)

-- The track of the segment that a track buffer goes on with: the one of its kind where the buffer has one track of that
-- kind, and else the one of its kind and number.
abbrev pub partner_of : List TrackState → List TrackInfo → TrackState → Option TrackInfo
partner_of ts news t =
    if count_of t.kind (kinds_of ts) == 1 then find (is_of_kind t.kind) news
    else find (is_numbered t.kind t.id) news

-- a partner is there, and has the same codec; where a changeType waits for this segment, any codec
abbrev pub is_partner : Bool → TrackState → Option TrackInfo → Bool
is_partner pending t None = false
is_partner pending t (Some u) = pending || bytes_eq u.codec t.codec

-- step 3: the numbers of tracks of each kind are those of the buffer, and each track buffer has a partner
abbrev pub has_same_tracks : List TrackInfo → Media → Bool
has_same_tracks news m =
    (count_of Video (new_kinds news) == count_of Video (kinds_of m.tracks))
    && ((count_of Audio (new_kinds news) == count_of Audio (kinds_of m.tracks))
    && list_all (λ t. is_partner m.pending t (partner_of m.tracks news t)) m.tracks)

-- the codec of a track is known
abbrev pub is_known : TrackInfo → Bool
is_known u = is_among sample_entries u.codec

-- the first thing that is wrong: no track (step 2), a codec that is not known (step 5.1 and so on), other tracks than
-- those of the buffer (step 3)
abbrev pub init_fault : Presentation → Media → Option MediaFault
init_fault p m =
    if is_empty_list (media_tracks p) then Some NoTracks
    else (if not (list_all is_known (media_tracks p)) then Some UnknownCodec
    else
    (if is_awaiting_first m || has_same_tracks (media_tracks p) m then None else Some TracksDiffer))

-- step 5: a track buffer for each track of the first segment, in order of the file
abbrev pub new_track : TrackInfo → TrackState
new_track u = record { id = u.id; kind = u.kind; codec = u.codec; frames = []; marks = new_marks }

-- step 3, else: a track buffer takes number and codec of its partner, and needs a random access point
abbrev pub track_with_partner : TrackState → Option TrackInfo → TrackState
track_with_partner t None = t
track_with_partner t (Some u) = record {
  id = u.id;
  kind = t.kind;
  codec = u.codec;
  frames = t.frames;
  marks = marks_needing_sync t.marks;
}

abbrev pub tracks_with_partners : List TrackInfo → List TrackState → List TrackState
tracks_with_partners news ts = map (λ t. track_with_partner t (partner_of ts news t)) ts

abbrev pub tracks_after : List TrackInfo → List TrackState → List TrackState
tracks_after news [] = map new_track news
tracks_after news (t ∷ ts) = tracks_with_partners news (t ∷ ts)

abbrev pub init_result_of : Option MediaFault → Presentation → Media → SourceEffect → MediaResult
init_result_of (Some fault) p m b = AppendError fault m b
init_result_of None p m b =
    Done
    (record {
      tracks = tracks_after (media_tracks p) m.tracks;
      settings = m.settings;
      pending = false;
      gap = m.gap;
    })
    (record {
      duration_changes = b.duration_changes;
      duration = b.duration;
      activated = is_awaiting_first m;
      received_init = true;
    })

-- the segment received, where the duration is d
abbrev pub init_result : Presentation → Media → Moment → MediaResult
init_result p m d = init_result_of (init_fault p m) p m (segment_effect p d)
