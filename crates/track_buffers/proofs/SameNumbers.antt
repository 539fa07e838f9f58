-- Coded frames, resets, removals and evictions leave the numbers of the track buffers.
use Rattle.std.proofs.Common.{◌≡◌, ◌∙◌, ℕ, ℤ, Bool, true, false, cond, List, [], ◌∷◌, map, refl, ap}
use Rattle.std.specs.Prelude.{Option, Some, None}
use Rattle.mse_base.specs.declared.frame.CodedFrame.{CodedFrame}
use Rattle.mse_base.specs.declared.ticks.Moment.{Moment}
use Rattle.track_store.specs.declared.tracks.Settings.{Settings}
use Rattle.track_store.specs.State.{TrackState}
use Rattle.frame_rules.specs.declared.answer.Placed.{Placed}
use Rattle.frame_rules.specs.declared.answer.Placed.TheVariants as placed_as
use Rattle.frame_rules.specs.Place.{Placement, new_placement, placement}
use Rattle.range_removal.specs.Removal.{track_after_removal, tracks_after_removal}
use Rattle.eviction.specs.Evicting.{RemovalRange, has_room, removal_ranges, ranges_in_order, sync_times, frames_of, lead_of, tracks_while_full, tracks_after_eviction}
use Rattle.track_buffers.specs.Media.{Media, MediaResult}
use Rattle.track_buffers.specs.Media as media
use Rattle.track_buffers.specs.Frames.{track_ids, placement_result, frame_result, frame_result_at, flush_result, flush_result_of, unset_track, place_of}
use Rattle.track_buffers.proofs.FramesOfOneTrack.{same_ids}

abbrev pub HaveSameIds : List TrackState → List TrackState → Type 0
HaveSameIds old new = track_ids new ≡ track_ids old

ids_pick : (b : Bool) (ts us vs : List TrackState) → HaveSameIds ts us → HaveSameIds ts vs → HaveSameIds ts (cond b us vs)
ids_pick true ts us vs h k = h
ids_pick false ts us vs h k = k

ids_map : (g : TrackState → TrackState) → ((t : TrackState) → (g t).id ≡ t.id) → (ts : List TrackState) → HaveSameIds ts (map g ts)
ids_map g same [] = refl
ids_map g same (t ∷ ts) = ap (λ (n : ℕ). n ∷ track_ids (map g ts)) (same t) ∙ ap (λ (ns : List ℕ). t.id ∷ ns) (ids_map g same ts)

pub ids_unset : (ts : List TrackState) → HaveSameIds ts (map unset_track ts)
ids_unset ts = ids_map unset_track (λ t. refl) ts

pub ids_removed : (start : ℤ) (end duration : Moment) (ts : List TrackState) → HaveSameIds ts (tracks_after_removal start end duration ts)
ids_removed start end duration ts = ids_map (track_after_removal start end duration) (λ t. refl) ts

ids_while : (new quota : ℕ) (duration : Moment) (rs : List RemovalRange) (ts : List TrackState) → HaveSameIds ts (tracks_while_full new quota duration rs ts)
ids_while new quota duration [] ts = refl
ids_while new quota duration (r ∷ rs) ts =
    ids_pick (has_room new quota ts) ts ts (tracks_while_full new quota duration rs (tracks_after_removal r.start r.end duration ts)) refl
    (ids_while new quota duration rs (tracks_after_removal r.start r.end duration ts) ∙ ids_removed r.start r.end duration ts)

pub ids_evicted : (position : ℤ) (new quota : ℕ) (duration : Moment) (ts : List TrackState) → HaveSameIds ts (tracks_after_eviction position new quota duration ts)
ids_evicted position new quota duration ts =
    ids_pick _ ts ts _ refl (ids_while new quota duration (ranges_in_order position (removal_ranges duration (sync_times (frames_of (lead_of ts))))) ts)

-- the media behind an item, also where it breaks the byte stream
abbrev pub media_behind : MediaResult → Media
media_behind (media.Done m e) = m
media_behind (media.AppendError fault m e) = m

ids_placed : (answer : Placed) (us : List TrackState) (s : Settings) (m : Media) (d : Moment) (i : ℕ) (x : CodedFrame) → new_placement answer us s ≡ placement m.tracks m.settings i x → HaveSameIds m.tracks (media_behind (placement_result answer us s m d)).tracks
ids_placed placed_as.Stored us s m d i x is = same_ids placed_as.Stored m.tracks us m.settings s i x is
ids_placed (placed_as.Dropped why) us s m d i x is = same_ids (placed_as.Dropped why) m.tracks us m.settings s i x is
ids_placed placed_as.TimeRange us s m d i x is = refl
ids_placed placed_as.Counts us s m d i x is = refl

ids_at : (o : Option ℕ) (x : CodedFrame) (m : Media) (d : Moment) → HaveSameIds m.tracks (media_behind (frame_result_at o x m d)).tracks
ids_at None x m d = refl
ids_at (Some i) x m d = let p : Placement = placement m.tracks m.settings i x in ids_placed p.answer p.tracks p.settings m d i x refl

pub ids_framed : (x : CodedFrame) (m : Media) (d : Moment) → HaveSameIds m.tracks (media_behind (frame_result x m d)).tracks
ids_framed x m d = ids_at (place_of x.track_id m.tracks) x m d

ids_flush_by : (r : MediaResult) (xs : List CodedFrame) (m : Media) (d : Moment) → HaveSameIds m.tracks (media_behind r).tracks → ((n : Media) (e : Moment) → HaveSameIds n.tracks (flush_result xs n e).media.tracks) → HaveSameIds m.tracks (flush_result_of r (λ n e. flush_result xs n e) m d).media.tracks
ids_flush_by (media.Done n b) xs m d same rest = rest n b.duration ∙ same
ids_flush_by (media.AppendError fault n b) xs m d same rest = refl

pub ids_flushed : (xs : List CodedFrame) (m : Media) (d : Moment) → HaveSameIds m.tracks (flush_result xs m d).media.tracks
ids_flushed [] m d = refl
ids_flushed (x ∷ xs) m d = ids_flush_by (frame_result x m d) xs m d (ids_framed x m d) (λ n e. ids_flushed xs n e)
