-- An initialization segment leaves the coded frames, and so their highest end.
use Rattle.std.proofs.Common.{◌≡◌, ◌∙◌, ℤ, false, List, [], ◌∷◌, ◌++◌, map, Option, Some, None, refl, sym, ap}
use Rattle.std.specs.List.{flat_map}
use Rattle.mse_base.specs.declared.ticks.Moment.{Moment}
use Rattle.mse_base.specs.declared.track.Presentation.{Presentation}
use Rattle.mse_base.specs.declared.track.TrackInfo.{TrackInfo}
use Rattle.mse_base.specs.Moments.{greatest}
use Rattle.track_store.specs.declared.store.Stored.{Stored}
use Rattle.track_store.specs.Frames.{ends}
use Rattle.track_store.specs.State.{TrackState}
use Rattle.track_buffers.specs.declared.effects.SourceEffect.{SourceEffect}
use Rattle.track_buffers.specs.declared.effects.MediaFault.{MediaFault}
use Rattle.track_buffers.specs.Media.{Media, MediaResult, Done, AppendError}
use Rattle.track_buffers.specs.Initialized.{media_tracks, init_fault, segment_effect, new_track, track_with_partner, tracks_after, partner_of, init_result_of, init_result}
use Rattle.track_buffers.specs.Frames.{highest_end_in}

frames_left : (t : TrackState) (o : Option TrackInfo) → (track_with_partner t o).frames ≡ t.frames
frames_left t None = refl
frames_left t (Some u) = refl

-- the media that a segment leaves
abbrev media_with : List TrackInfo → Media → Media
media_with news m = record { tracks = tracks_after news m.tracks; settings = m.settings; pending = false; gap = m.gap }

pub taken_by : (o : Option MediaFault) (p : Presentation) (m n : Media) (b e : SourceEffect) → init_result_of o p m b ≡ Done n e → n ≡ media_with (media_tracks p) m
taken_by (Some fault) p m n b e h = absurd cc
taken_by None p m n b e h = sym (ap (media_in n) h)
  where
    media_in : Media → MediaResult → Media
    media_in n (Done k x) = k
    media_in n (AppendError fault k x) = n

refused_by : (o : Option MediaFault) (p : Presentation) (m n : Media) (fault : MediaFault) (b e : SourceEffect) → init_result_of o p m b ≡ AppendError fault n e → n ≡ m
refused_by (Some other) p m n fault b e h = sym (ap (media_in n) h)
  where
    media_in : Media → MediaResult → Media
    media_in n (Done k x) = n
    media_in n (AppendError why k x) = k
refused_by None p m n fault b e h = absurd cc

-- one that is refused leaves the media
pub media_after_refused_init : (p : Presentation) (m n : Media) (d : Moment) (fault : MediaFault) (e : SourceEffect) → init_result p m d ≡ AppendError fault n e → n ≡ m
media_after_refused_init p m n d fault e h = refused_by (init_fault p m) p m n fault (segment_effect p d) e h

-- ---- the highest end

same_ends : (f : TrackState → TrackState) (ts : List TrackState) → ((t : TrackState) → (f t).frames ≡ t.frames) → flat_map (λ t. ends t.frames) (map f ts) ≡ flat_map (λ t. ends t.frames) ts
same_ends f [] h = refl
same_ends f (t ∷ ts) h =
    ap (λ (fs : List Stored). ends fs ++ flat_map (λ u. ends u.frames) (map f ts)) (h t)
    ∙ ap (λ (rest : List ℤ). ends t.frames ++ rest) (same_ends f ts h)

new_ends : (news : List TrackInfo) → flat_map (λ t. ends t.frames) (map new_track news) ≡ []
new_ends [] = refl
new_ends (u ∷ news) = new_ends news

after_ends : (news : List TrackInfo) (ts : List TrackState) → flat_map (λ t. ends t.frames) (tracks_after news ts) ≡ flat_map (λ t. ends t.frames) ts
after_ends news [] = new_ends news
after_ends news (t ∷ ts) = same_ends (λ u. track_with_partner u (partner_of (t ∷ ts) news u)) (t ∷ ts) (λ u. frames_left u (partner_of (t ∷ ts) news u))

-- an initialization segment that is taken leaves the highest end of all frames
pub highest_end_after_init : (p : Presentation) (m n : Media) (d : Moment) (e : SourceEffect) → init_result p m d ≡ Done n e → highest_end_in n ≡ highest_end_in m
highest_end_after_init p m n d e h =
    ap highest_end_in (taken_by (init_fault p m) p m n (segment_effect p d) e h) ∙ ap greatest (after_ends (media_tracks p) m.tracks)
