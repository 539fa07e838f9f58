-- The track of a segment that a track buffer goes on with.
use Rattle.std.proofs.Common.{◌≡◌, ℕ, zero, suc, ◌<◌, ◌==◌, Bool, true, false, cond, ◌&&◌, List, [], ◌∷◌, length, filter, set, slice_get, Option, Some, None, refl, sym, ap, ◌∙◌}
use Rattle.std.specs.List.{find}
use Rattle.std.specs.Option.{IfSome}
use Rattle.mse_base.specs.declared.track.Kind.{Kind}
use Rattle.mse_base.specs.declared.track.TrackInfo.{TrackInfo}
use Rattle.track_store.specs.State.{TrackState}
use Rattle.track_buffers.specs.Initialized.{is_media_track, count_of, kinds_of, is_of_kind, is_numbered, partner_of, track_with_partner}
use Rattle.std.proofs.lemmas.List.{length-map}
use Rattle.track_buffers.proofs.Loops.{find-filter, found_at}

pub find_by : (alone : Bool) (kind : Kind) (id : ℕ) (news : List TrackInfo) → cond alone (find (is_of_kind kind) (filter is_media_track news)) (find (is_numbered kind id) (filter is_media_track news)) ≡ find (λ u. is_media_track u && cond alone (is_of_kind kind u) (is_numbered kind id u)) news
find_by true kind id news = find-filter (is_of_kind kind) is_media_track news
find_by false kind id news = find-filter (is_numbered kind id) is_media_track news

-- only the kinds of the other tracks matter
pub partner_same : (ts us : List TrackState) (news : List TrackInfo) (t : TrackState) → kinds_of ts ≡ kinds_of us → partner_of ts news t ≡ partner_of us news t
partner_same ts us news t same = ap (λ (kinds : List Kind). cond (count_of t.kind kinds == 1) (find (is_of_kind t.kind) news) (find (is_numbered t.kind t.id) news)) same

kind_renewed : (t : TrackState) (o : Option TrackInfo) → (track_with_partner t o).kind ≡ t.kind
kind_renewed t None = refl
kind_renewed t (Some u) = refl

kinds_set : (ts : List TrackState) (i : ℕ) (t u : TrackState) → slice_get ts i ≡ Some t → u.kind ≡ t.kind → kinds_of (set ts i u) ≡ kinds_of ts
kinds_set [] i t u e h = refl
kinds_set (v ∷ ts) zero t u e h = let same : v ≡ t = cc in ap (λ (k : Kind). k ∷ kinds_of ts) (h ∙ ap (λ (x : TrackState). x.kind) (sym same))
kinds_set (v ∷ ts) (suc i) t u e h = ap (λ (ks : List Kind). v.kind ∷ ks) (kinds_set ts i t u e h)

-- a track takes number and codec of its partner
kinds_renewed : (ts us : List TrackState) (i : ℕ) (t : TrackState) (o : Option TrackInfo) → slice_get ts i ≡ Some t → us ≡ set ts i (track_with_partner t o) → kinds_of us ≡ kinds_of ts
kinds_renewed ts us i t o here is = ap kinds_of is ∙ kinds_set ts i t (track_with_partner t o) here (kind_renewed t o)

pub kinds_renewed_here : (ts us : List TrackState) (news : List TrackInfo) (i : ℕ) → i < length ts → IfSome (slice_get ts i) (λ t. us ≡ set ts i (track_with_partner t (partner_of ts news t))) → kinds_of us ≡ kinds_of ts
kinds_renewed_here ts us news i low h =
    let at = found_at (λ t. us ≡ set ts i (track_with_partner t (partner_of ts news t))) ts i low h in
    kinds_renewed ts us i at.x (partner_of ts news at.x) at.here at.holds

renewed_if : (old ts us : List TrackState) (news : List TrackInfo) (i : ℕ) (o : Option TrackState) → kinds_of ts ≡ kinds_of old → IfSome o (λ t. us ≡ set ts i (track_with_partner t (partner_of ts news t))) → IfSome o (λ t. us ≡ set ts i (track_with_partner t (partner_of old news t)))
renewed_if old ts us news i None same h = h
renewed_if old ts us news i (Some t) same h = h ∙ ap (λ (p : Option TrackInfo). set ts i (track_with_partner t p)) (partner_same ts old news t same)

-- the partners are those by the tracks at the start
pub renewed_here : (old ts us : List TrackState) (news : List TrackInfo) (i : ℕ) → kinds_of ts ≡ kinds_of old → IfSome (slice_get ts i) (λ t. us ≡ set ts i (track_with_partner t (partner_of ts news t))) → IfSome (slice_get ts i) (λ t. us ≡ set ts i (track_with_partner t (partner_of old news t)))
renewed_here old ts us news i same h = renewed_if old ts us news i (slice_get ts i) same h

-- as many kinds, as many tracks
pub same_length : (ts us : List TrackState) → kinds_of ts ≡ kinds_of us → length ts ≡ length us
same_length ts us e = sym (length-map ts (λ (t : TrackState). t.kind)) ∙ ap length e ∙ length-map us (λ (t : TrackState). t.kind)
