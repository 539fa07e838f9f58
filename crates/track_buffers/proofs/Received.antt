-- An initialization segment leaves the buffered ranges, and it alone is told as received.
use Rattle.std.proofs.Common.{◌≡◌, ◌∙◌, ℕ, ◌+◌, ℤ, Bool, true, false, cond, List, [], ◌∷◌, map, fold, refl, ap, subst}
use Rattle.std.specs.Prelude.{Option, Some, None}
use Rattle.mse_base.specs.declared.frame.CodedFrame.{CodedFrame}
use Rattle.mse_base.specs.declared.span.Span.{Span}
use Rattle.mse_base.specs.declared.ticks.Moment.{Moment}
use Rattle.mse_base.specs.declared.ticks.Moment.TheVariants.{Nan, At, Infinite}
use Rattle.mse_base.specs.declared.track.Presentation.{Presentation}
use Rattle.mse_base.specs.declared.track.TrackInfo.{TrackInfo}
use Rattle.mse_base.specs.Meets.{meet, meet_of_all}
use Rattle.mse_base.specs.Moments.{greatest, greater_moment, is_same_moment}
use Rattle.track_store.specs.declared.tracks.Settings.{Settings}
use Rattle.track_store.specs.Frames.{ranges_of}
use Rattle.track_store.specs.State.{TrackState}
use Rattle.frame_rules.specs.declared.answer.Placed.{Placed}
use Rattle.frame_rules.specs.declared.answer.Placed.TheVariants as placed_as
use Rattle.frame_rules.specs.Place.{placement}
use Rattle.track_buffers.specs.declared.effects.SourceEffect.{SourceEffect}
use Rattle.track_buffers.specs.declared.effects.MediaFault.{MediaFault}
use Rattle.track_buffers.specs.Media.{Media, Done, AppendError, effect_of, is_empty_list, is_awaiting_first, no_effect, with_duration}
use Rattle.track_buffers.specs.Initialized.{partner_of, track_with_partner, new_track, tracks_after, media_tracks, init_fault, init_result, init_result_of, segment_effect}
use Rattle.track_buffers.specs.Frames.{place_of, placement_result, frame_result, frame_result_at}
use Rattle.track_buffers.specs.Buffered.{last_ends, with_end, with_common_end, buffered_of}

-- the ranges of the tracks, joined across the gap
abbrev all_ranges : ℤ → List TrackState → List (List Span)
all_ranges gap ts = map (λ t. ranges_of gap t.frames) ts

-- the ranges of a buffer of these tracks
abbrev ranges_by : Bool → ℤ → List TrackState → List Span
ranges_by ended gap ts = meet_of_all (with_common_end ended (all_ranges gap ts))

-- ---- a later segment: each track buffer keeps its frames

same_frames : (gap : ℤ) (t : TrackState) (o : Option TrackInfo) → ranges_of gap (track_with_partner t o).frames ≡ ranges_of gap t.frames
same_frames gap t None = refl
same_frames gap t (Some u) = refl

same_ranges : (gap : ℤ) (all : List TrackState) (news : List TrackInfo) (ts : List TrackState) → all_ranges gap (map (λ t. track_with_partner t (partner_of all news t)) ts) ≡ all_ranges gap ts
same_ranges gap all news [] = refl
same_ranges gap all news (t ∷ ts) =
    ap (λ (rs : List (List Span)). ranges_of gap (track_with_partner t (partner_of all news t)).frames ∷ rs) (same_ranges gap all news ts)
    ∙ ap (λ (r : List Span). r ∷ all_ranges gap ts) (same_frames gap t (partner_of all news t))

-- ---- the first segment: no track has a frame

abbrev no_range : TrackInfo → List Span
no_range u = []

new_ranges : (gap : ℤ) (news : List TrackInfo) → all_ranges gap (map new_track news) ≡ map no_range news
new_ranges gap [] = refl
new_ranges gap (u ∷ us) = ap (λ (rs : List (List Span)). [] ∷ rs) (new_ranges gap us)

none_longer : (o : Option ℤ) → with_end o [] ≡ []
none_longer None = refl
none_longer (Some e) = refl

all_none_longer : (o : Option ℤ) (news : List TrackInfo) → map (with_end o) (map no_range news) ≡ map no_range news
all_none_longer o [] = refl
all_none_longer o (u ∷ us) =
    ap (λ (rs : List (List Span)). with_end o [] ∷ rs) (all_none_longer o us)
    ∙ ap (λ (r : List Span). r ∷ map no_range us) (none_longer o)

none_met : (us : List TrackInfo) → fold meet [] (map no_range us) ≡ []
none_met [] = refl
none_met (u ∷ us) = none_met us

none_of_all : (news : List TrackInfo) → meet_of_all (map no_range news) ≡ []
none_of_all [] = refl
none_of_all (u ∷ us) = none_met us

none_buffered : (ended : Bool) (news : List TrackInfo) → meet_of_all (with_common_end ended (map no_range news)) ≡ []
none_buffered false news = none_of_all news
none_buffered true news = ap meet_of_all (all_none_longer (greatest (last_ends (map no_range news))) news) ∙ none_of_all news

-- ---- both

leaves_ranges : (ended : Bool) (gap : ℤ) (news : List TrackInfo) (ts : List TrackState) → ranges_by ended gap (tracks_after news ts) ≡ cond (is_empty_list ts) [] (ranges_by ended gap ts)
leaves_ranges ended gap news [] = ap (λ (rs : List (List Span)). meet_of_all (with_common_end ended rs)) (new_ranges gap news) ∙ none_buffered ended news
leaves_ranges ended gap news (t ∷ ts) = ap (λ (rs : List (List Span)). meet_of_all (with_common_end ended rs)) (same_ranges gap (t ∷ ts) news (t ∷ ts))

leaves_by : (o : Option MediaFault) (p : Presentation) (m n : Media) (e b : SourceEffect) → init_result_of o p m e ≡ Done n b → (ended : Bool) → buffered_of ended n ≡ cond b.activated [] (buffered_of ended m)
leaves_by (Some fault) p m n e b is ended = absurd cc
leaves_by None p m n e b is ended =
    let after : Media = record { tracks = tracks_after (media_tracks p) m.tracks; settings = m.settings; pending = false; gap = m.gap } in
    let effect : SourceEffect = record { duration_changes = e.duration_changes; duration = e.duration; activated = is_awaiting_first m; received_init = true } in
    let media : after ≡ n = cc in
    let told : effect ≡ b = cc in
    let leaves : buffered_of ended after ≡ cond effect.activated [] (buffered_of ended m) = leaves_ranges ended m.gap (media_tracks p) m.tracks in
    let there : buffered_of ended n ≡ cond effect.activated [] (buffered_of ended m) = subst (λ (x : Media). buffered_of ended x ≡ cond effect.activated [] (buffered_of ended m)) media leaves in
    subst (λ (x : SourceEffect). buffered_of ended n ≡ cond x.activated [] (buffered_of ended m)) told there

pub init_leaves : (p : Presentation) (m n : Media) (d : Moment) (b : SourceEffect) → init_result p m d ≡ Done n b → (ended : Bool) → buffered_of ended n ≡ cond b.activated [] (buffered_of ended m)
init_leaves p m n d b is ended = leaves_by (init_fault p m) p m n (segment_effect p d) b is ended

-- ---- what is told as received

told_by : (to : Moment) (b : SourceEffect) (same : Bool) → (cond same b (record { duration_changes = b.duration_changes + 1; duration = to; activated = b.activated; received_init = b.received_init })).received_init ≡ b.received_init
told_by to b true = refl
told_by to b false = refl

told_before : (to : Moment) (b : SourceEffect) → (with_duration to b).received_init ≡ b.received_init
told_before to b = told_by to b (is_same_moment to b.duration)

segment_none : (p : Presentation) (d : Moment) → (segment_effect p d).received_init ≡ false
segment_none p Nan = told_before p.duration (no_effect Nan)
segment_none p (At d) = refl
segment_none p Infinite = refl

fault_by : (o : Option MediaFault) (fault : MediaFault) (p : Presentation) (m n : Media) (e b : SourceEffect) → e.received_init ≡ false → init_result_of o p m e ≡ AppendError fault n b → b.received_init ≡ false
fault_by None fault p m n e b none is = absurd cc
fault_by (Some g) fault p m n e b none is = let same : e ≡ b = cc in subst (λ (x : SourceEffect). x.received_init ≡ false) same none

-- a segment that is refused is not received
pub fault_not_received : (p : Presentation) (m n : Media) (d : Moment) (fault : MediaFault) (b : SourceEffect) → init_result p m d ≡ AppendError fault n b → b.received_init ≡ false
fault_not_received p m n d fault b is = fault_by (init_fault p m) fault p m n (segment_effect p d) b (segment_none p d) is

received_by : (o : Option MediaFault) (p : Presentation) (m n : Media) (e b : SourceEffect) → init_result_of o p m e ≡ Done n b → b.received_init ≡ true
received_by (Some fault) p m n e b is = absurd cc
received_by None p m n e b is =
    let effect : SourceEffect = record { duration_changes = e.duration_changes; duration = e.duration; activated = is_awaiting_first m; received_init = true } in
    let told : effect ≡ b = cc in
    subst (λ (x : SourceEffect). x.received_init ≡ true) told refl

-- one that is not refused is
pub done_received : (p : Presentation) (m n : Media) (d : Moment) (b : SourceEffect) → init_result p m d ≡ Done n b → b.received_init ≡ true
done_received p m n d b is = received_by (init_fault p m) p m n (segment_effect p d) b is

placed_not_received : (answer : Placed) (ts : List TrackState) (s : Settings) (m : Media) (d : Moment) → (effect_of (placement_result answer ts s m d)).received_init ≡ false
placed_not_received placed_as.Stored ts s m d = told_before (greater_moment d s.group_end) (no_effect d)
placed_not_received (placed_as.Dropped why) ts s m d = refl
placed_not_received placed_as.TimeRange ts s m d = refl
placed_not_received placed_as.Counts ts s m d = refl

frame_by : (o : Option ℕ) (f : CodedFrame) (m : Media) (d : Moment) → (effect_of (frame_result_at o f m d)).received_init ≡ false
frame_by None f m d = refl
frame_by (Some i) f m d = let o = placement m.tracks m.settings i f in placed_not_received o.answer o.tracks o.settings m d

-- a coded frame is no segment
pub frame_not_received : (f : CodedFrame) (m : Media) (d : Moment) → (effect_of (frame_result f m d)).received_init ≡ false
frame_not_received f m d = frame_by (place_of f.track_id m.tracks) f m d
