-- An initialization segment leaves the numbers of track buffers of which there are several of a kind.
use Rattle.std.proofs.Common.{◌≡◌, ◌∙◌, ℕ, ◌==◌, Bool, true, false, cond, ◌&&◌, List, [], ◌∷◌, map, find, slice_get, Option, Some, None, option_map, refl, sym, ap, subst, arith}
use Rattle.std.specs.Option.{IfSome}
use Rattle.std.proofs.lemmas.Option.{slice_get-map}
use Rattle.std.proofs.lemmas.Bool.Decides.{nat_tests}
use Rattle.mse_base.specs.declared.ticks.Moment.{Moment}
use Rattle.mse_base.specs.declared.track.Kind.{Kind}
use Rattle.mse_base.specs.declared.track.Presentation.{Presentation}
use Rattle.mse_base.specs.declared.track.TrackInfo.{TrackInfo}
use Rattle.mse_base.specs.Moments.{is_same_kind}
use Rattle.track_store.specs.State.{TrackState}
use Rattle.track_buffers.specs.declared.effects.SourceEffect.{SourceEffect}
use Rattle.track_buffers.specs.Media.{Media, Done}
use Rattle.track_buffers.specs.Initialized.{count_of, kinds_of, is_of_kind, is_numbered, partner_of, track_with_partner, tracks_after, media_tracks, init_fault, init_result, segment_effect}
use Rattle.track_buffers.proofs.HighestEnd.{taken_by}

with_partner_at : (all : List TrackState) (news : List TrackInfo) (ts : List TrackState) (i : ℕ) (t : TrackState) → slice_get ts i ≡ Some t → slice_get (map (λ u. track_with_partner u (partner_of all news u)) ts) i ≡ Some (track_with_partner t (partner_of all news t))
with_partner_at all news ts i t e = slice_get-map (λ u. track_with_partner u (partner_of all news u)) ts i ∙ ap (option_map (λ u. track_with_partner u (partner_of all news u))) e

-- the track buffer at a place, behind the segment
after_at : (news : List TrackInfo) (ts : List TrackState) (i : ℕ) (t : TrackState) → slice_get ts i ≡ Some t → slice_get (tracks_after news ts) i ≡ Some (track_with_partner t (partner_of ts news t))
after_at news [] i t e = cc
after_at news (x ∷ ts) i t e = with_partner_at (x ∷ ts) news (x ∷ ts) i t e

find-step : (p : TrackInfo → Bool) (u : TrackInfo) (us : List TrackInfo) (b : Bool) → p u ≡ b → IfSome (find p us) (λ v. p v ≡ true) → IfSome (cond b (Some u) (find p us)) (λ v. p v ≡ true)
find-step p u us true e h = e
find-step p u us false e h = h

find_has : (p : TrackInfo → Bool) (us : List TrackInfo) → IfSome (find p us) (λ v. p v ≡ true)
find_has p [] = tt
find_has p (u ∷ us) = find-step p u us (p u) refl (find_has p us)

number_of : (a : Bool) (n m : ℕ) → (a && (n == m)) ≡ true → n ≡ m
number_of true n m e = grind (arith, nat_tests)
number_of false n m e = cc

found_number : (kind : Kind) (id : ℕ) (o : Option TrackInfo) → IfSome o (λ v. is_numbered kind id v ≡ true) → IfSome o (λ v. v.id ≡ id)
found_number kind id None h = tt
found_number kind id (Some v) h = number_of (is_same_kind kind v.kind) v.id id h

partner_number : (t : TrackState) (o : Option TrackInfo) → IfSome o (λ v. v.id ≡ t.id) → (track_with_partner t o).id ≡ t.id
partner_number t None h = refl
partner_number t (Some v) h = h

partner_kind : (t : TrackState) (o : Option TrackInfo) → (track_with_partner t o).kind ≡ t.kind
partner_kind t None = refl
partner_kind t (Some v) = refl

same_number : (ts : List TrackState) (news : List TrackInfo) (t : TrackState) → (count_of t.kind (kinds_of ts) == 1) ≡ false → (track_with_partner t (partner_of ts news t)).id ≡ t.id
same_number ts news t several =
    let partner : partner_of ts news t ≡ find (is_numbered t.kind t.id) news = ap (λ b. cond b (find (is_of_kind t.kind) news) (find (is_numbered t.kind t.id) news)) several in
    partner_number t (partner_of ts news t) (subst (λ (o : Option TrackInfo). IfSome o (λ v. v.id ≡ t.id)) (sym partner) (found_number t.kind t.id (find (is_numbered t.kind t.id) news) (find_has (is_numbered t.kind t.id) news)))

pub number_kept : (p : Presentation) (m n : Media) (d : Moment) (b : SourceEffect) (i : ℕ) (t : TrackState) → init_result p m d ≡ Done n b → slice_get m.tracks i ≡ Some t → (count_of t.kind (kinds_of m.tracks) == 1) ≡ false → (u : TrackState) × (slice_get n.tracks i ≡ Some u) × (u.id ≡ t.id)
number_kept p m n d b i t done at several =
    let news = media_tracks p in
    let left = taken_by (init_fault p m) p m n (segment_effect p d) b done in
    (track_with_partner t (partner_of m.tracks news t), ap (λ (k : Media). slice_get k.tracks i) left ∙ after_at news m.tracks i t at, same_number m.tracks news t several)

pub kind_kept : (p : Presentation) (m n : Media) (d : Moment) (b : SourceEffect) (i : ℕ) (t : TrackState) → init_result p m d ≡ Done n b → slice_get m.tracks i ≡ Some t → (u : TrackState) × (slice_get n.tracks i ≡ Some u) × (u.kind ≡ t.kind)
kind_kept p m n d b i t done at =
    let news = media_tracks p in
    let left = taken_by (init_fault p m) p m n (segment_effect p d) b done in
    (track_with_partner t (partner_of m.tracks news t), ap (λ (k : Media). slice_get k.tracks i) left ∙ after_at news m.tracks i t at, partner_kind t (partner_of m.tracks news t))
