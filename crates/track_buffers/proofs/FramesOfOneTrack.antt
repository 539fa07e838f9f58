-- A coded frame changes the frames of its own track alone.
use Rattle.std.proofs.Common.{◌≡◌, ◌∙◌, ℕ, ◌+◌, ◌<◌, ltb, not, Bool, true, false, cond, List, [], ◌∷◌, map, set, length, slice_get, Option, Some, None, refl, sym, ap, subst}
use Rattle.std.specs.Prelude.{◌==◌}
use Rattle.std.specs.List.{position, position_or_len}
use Rattle.std.proofs.lemmas.List.Quantifiers.{position-Some}
use Rattle.std.specs.Option.{IfSome, option_map}
use Rattle.std.proofs.lemmas.List.{length-map, map-set}
use Rattle.std.proofs.lemmas.Option.{slice_get-map}
use Rattle.mse_base.specs.declared.frame.CodedFrame.{CodedFrame}
use Rattle.track_store.specs.declared.store.Stored.{Stored}
use Rattle.track_store.specs.declared.tracks.Settings.{Settings}
use Rattle.track_store.specs.Kept.{bytes_in}
use Rattle.track_store.specs.State.{TrackState}
use Rattle.frame_rules.specs.declared.answer.Why.{Why}
use Rattle.frame_rules.specs.declared.answer.Placed.{Placed}
use Rattle.frame_rules.specs.declared.answer.Placed.TheVariants as placed_as
use Rattle.frame_rules.specs.declared.timing.Timing.{Timing}
use Rattle.frame_rules.specs.Timing.{timing_of}
use Rattle.frame_rules.specs.Put.{drop_reason, track_by_reason, track_after_frame}
use Rattle.frame_rules.specs.Place.{Placement, new_placement, track_after_reset, placement_in_track, placement_by_times, placement_in, placement, is_over_limit}
use Rattle.track_buffers.specs.Frames.{has_number, place_of, track_frames, track_ids, AreFramesSetAt}
use Rattle.track_buffers.proofs.Loops.{set_itself}
use Rattle.track_buffers.proofs.OneTrack.{get_set}

-- the frames of all tracks but that at a place are those of other tracks
abbrev AreFramesSetAlone : ℕ → List TrackState → List TrackState → Type 0
AreFramesSetAlone i old new = IfSome (slice_get new i) (λ t. AreFramesSetAt i old new t)

if_here : {X : Type 0} (P : X → Type 0) (o : Option X) (x : X) → o ≡ Some x → P x → IfSome o P
if_here P o x e h = subst (λ q. IfSome q P) (sym e) h

same_by : (ts : List TrackState) (i : ℕ) (o : Option TrackState) → slice_get ts i ≡ o → IfSome o (λ t. AreFramesSetAt i ts ts t)
same_by ts i None e = tt
same_by ts i (Some t) e = sym (set_itself (track_frames ts) i t.frames (slice_get-map (λ (u : TrackState). u.frames) ts i ∙ ap (option_map (λ (u : TrackState). u.frames)) e))

same_alone : (ts : List TrackState) (i : ℕ) → AreFramesSetAlone i ts ts
same_alone ts i = same_by ts i (slice_get ts i) refl

reset_frames : (w : Timing) (ts : List TrackState) → track_frames (map (track_after_reset w) ts) ≡ track_frames ts
reset_frames w [] = refl
reset_frames w (t ∷ ts) = ap (λ (fs : List (List Stored)). t.frames ∷ fs) (reset_frames w ts)

set_alone : (ts us : List TrackState) (i : ℕ) (t u : TrackState) → track_frames us ≡ track_frames ts → slice_get us i ≡ Some t → AreFramesSetAlone i ts (set us i u)
set_alone ts us i t u same e =
    if_here (AreFramesSetAt i ts (set us i u)) (slice_get (set us i u) i) u (get_set us i t u e)
    (map-set (λ (v : TrackState). v.frames) us i u ∙ ap (λ (fs : List (List Stored)). set fs i u.frames) same)

alone_in : (o : Option TrackState) (w : Timing) (f : CodedFrame) (i : ℕ) (ts us : List TrackState) → track_frames us ≡ track_frames ts → slice_get us i ≡ o → AreFramesSetAlone i ts (placement_in_track o w f i us).tracks
alone_in None w f i ts us same e = subst (λ q. IfSome q (λ t. AreFramesSetAt i ts us t)) (sym e) tt
alone_in (Some t) w f i ts us same e = set_alone ts us i t (track_after_frame w f t) same e

alone_by : (o : Option Timing) (s : Settings) (f : CodedFrame) (i : ℕ) (ts : List TrackState) → AreFramesSetAlone i ts (placement_by_times o s f i ts).tracks
alone_by None s f i ts = same_alone ts i
alone_by (Some w) s f i ts = alone_in (slice_get (map (track_after_reset w) ts) i) w f i ts (map (track_after_reset w) ts) (reset_frames w ts) refl

alone_pick : (b : Bool) (i : ℕ) (ts : List TrackState) (x y : Placement) → AreFramesSetAlone i ts x.tracks → AreFramesSetAlone i ts y.tracks → AreFramesSetAlone i ts (cond b x y).tracks
alone_pick true i ts x y h k = h
alone_pick false i ts x y h k = k

alone_of : (o : Option TrackState) (ts : List TrackState) (s : Settings) (i : ℕ) (f : CodedFrame) → AreFramesSetAlone i ts (placement_in o ts s i f).tracks
alone_of None ts s i f = same_alone ts i
alone_of (Some t) ts s i f = alone_pick (is_over_limit t.marks.received (bytes_in ts) (length f.payload)) i ts (new_placement placed_as.Counts ts s) (placement_by_times (timing_of s t.marks f) s f i ts) (same_alone ts i) (alone_by (timing_of s t.marks f) s f i ts)

-- a coded frame is placed
pub set_alone_by : (answer : Placed) (ts us : List TrackState) (s t : Settings) (i : ℕ) (f : CodedFrame) → new_placement answer us t ≡ placement ts s i f → IfSome (slice_get us i) (λ u. AreFramesSetAt i ts us u)
set_alone_by answer ts us s t i f is = subst (λ (o : Placement). AreFramesSetAlone i ts o.tracks) (sym is) (alone_of (slice_get ts i) ts s i f)

-- ---- the numbers stay

abbrev HasSameIds : List TrackState → List TrackState → Type 0
HasSameIds old new = track_ids new ≡ track_ids old

reset_ids : (w : Timing) (ts : List TrackState) → HasSameIds ts (map (track_after_reset w) ts)
reset_ids w [] = refl
reset_ids w (t ∷ ts) = ap (λ (ns : List ℕ). t.id ∷ ns) (reset_ids w ts)

put_id : (o : Option Why) (w : Timing) (f : CodedFrame) (t : TrackState) → (track_by_reason o w f t).id ≡ t.id
put_id (Some why) w f t = refl
put_id None w f t = refl

set_ids : (us : List TrackState) (i : ℕ) (t u : TrackState) → slice_get us i ≡ Some t → u.id ≡ t.id → HasSameIds us (set us i u)
set_ids us i t u e same =
    map-set (λ (v : TrackState). v.id) us i u
    ∙ ap (λ (n : ℕ). set (track_ids us) i n) same
    ∙ set_itself (track_ids us) i t.id (slice_get-map (λ (v : TrackState). v.id) us i ∙ ap (option_map (λ (v : TrackState). v.id)) e)

ids_in : (o : Option TrackState) (w : Timing) (f : CodedFrame) (i : ℕ) (us : List TrackState) → slice_get us i ≡ o → HasSameIds us (placement_in_track o w f i us).tracks
ids_in None w f i us e = refl
ids_in (Some t) w f i us e = set_ids us i t (track_after_frame w f t) e (put_id (drop_reason w f.sync t.marks.need_sync) w f t)

ids_by : (o : Option Timing) (s : Settings) (f : CodedFrame) (i : ℕ) (ts : List TrackState) → HasSameIds ts (placement_by_times o s f i ts).tracks
ids_by None s f i ts = refl
ids_by (Some w) s f i ts = ids_in (slice_get (map (track_after_reset w) ts) i) w f i (map (track_after_reset w) ts) refl ∙ reset_ids w ts

ids_pick : (b : Bool) (ts : List TrackState) (x y : Placement) → HasSameIds ts x.tracks → HasSameIds ts y.tracks → HasSameIds ts (cond b x y).tracks
ids_pick true ts x y h k = h
ids_pick false ts x y h k = k

ids_of : (o : Option TrackState) (ts : List TrackState) (s : Settings) (i : ℕ) (f : CodedFrame) → HasSameIds ts (placement_in o ts s i f).tracks
ids_of None ts s i f = refl
ids_of (Some t) ts s i f = ids_pick (is_over_limit t.marks.received (bytes_in ts) (length f.payload)) ts (new_placement placed_as.Counts ts s) (placement_by_times (timing_of s t.marks f) s f i ts) refl (ids_by (timing_of s t.marks f) s f i ts)

pub same_ids : (answer : Placed) (ts us : List TrackState) (s t : Settings) (i : ℕ) (f : CodedFrame) → new_placement answer us t ≡ placement ts s i f → track_ids us ≡ track_ids ts
same_ids answer ts us s t i f is = ap (λ (o : Placement). track_ids o.tracks) is ∙ ids_of (slice_get ts i) ts s i f

-- the place of a number, by the numbers alone
first_in : (id : ℕ) (ts : List TrackState) → position_or_len (has_number id) ts ≡ position_or_len (λ n. n == id) (track_ids ts)
first_in id [] = refl
first_in id (t ∷ ts) = ap (λ (m : ℕ). cond (not (t.id == id)) (1 + m) 0) (first_in id ts)

place_in : (id : ℕ) (ts : List TrackState) → place_of id ts ≡ position (λ n. n == id) (track_ids ts)
place_in id ts =
    ap (λ (k : ℕ). cond (ltb k (length ts)) (Some k) None) (first_in id ts)
    ∙ ap (λ (n : ℕ). cond (ltb (position_or_len (λ m. m == id) (track_ids ts)) n) (Some (position_or_len (λ m. m == id) (track_ids ts))) None) (sym (length-map ts (λ (t : TrackState). t.id)))

pub same_place : (id : ℕ) (ts us : List TrackState) → track_ids us ≡ track_ids ts → place_of id us ≡ place_of id ts
same_place id ts us same = place_in id us ∙ ap (position (λ n. n == id)) same ∙ sym (place_in id ts)

pub place_within : (id i : ℕ) (ts : List TrackState) → place_of id ts ≡ Some i → i < length ts
place_within id i [] e = absurd cc
place_within id i (t ∷ ts) e = (position-Some (has_number id) (t ∷ ts) i t e).0
