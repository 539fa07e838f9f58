-- Durations within which frames end.
use Rattle.std.proofs.Common.{◌≡◌, ◌∙◌, ℤ, pos, ◌+ℤ◌, ◌≤ℤ◌, true, List, [], ◌∷◌, ◌++◌, fold, Some, None, refl, sym, ap, subst, arith, ◌↔◌}
use Rattle.std.specs.List.{AllByRecursion, flat_map}
use Rattle.std.specs.Int.{int_max}
use Rattle.std.proofs.lemmas.Int.{ints}
use Rattle.mse_base.specs.declared.ticks.Moment.{Moment}
use Rattle.mse_base.specs.declared.ticks.Moment.TheVariants.{Nan, At, Infinite}
use Rattle.mse_base.specs.Moments.{greater_of, greatest, greater_moment, IsNotAfter}
use Rattle.mse_base.specs.declared.track.Kind.TheVariants.{Other}
use Rattle.mse_base.specs.declared.track.Presentation.{Presentation}
use Rattle.track_store.specs.declared.store.Stored.{Stored}
use Rattle.track_store.specs.Frames.{ends}
use Rattle.track_store.specs.Kept.{AreEndedBy}
use Rattle.track_store.specs.State.{TrackState, new_marks}
use Rattle.track_buffers.specs.declared.effects.SourceEffect.{SourceEffect}
use Rattle.track_buffers.specs.Media.{Media, AreEndedWithin, no_effect, with_duration}
use Rattle.track_buffers.specs.Initialized.{segment_effect}
use Rattle.track_buffers.specs.Frames.{highest_end_in}
use Rattle.track_buffers.proofs.KeptTracks.{ends_none}
use Rattle.track_buffers.proofs.CodedFrames.{changed_is}

-- ---- of two times

limit_up : (d e : ℤ) (fs : List Stored) → d ≤ℤ e → AllByRecursion (λ f. (f.frame.pts +ℤ f.frame.dur) ≤ℤ d) fs → AllByRecursion (λ f. (f.frame.pts +ℤ f.frame.dur) ≤ℤ e) fs
limit_up d e [] le h = tt
limit_up d e (f ∷ fs) le h = (let own = h.0 in omega (arith, ints), limit_up d e fs le h.1)

pub end_by_up : (d e : ℤ) (ts : List TrackState) → d ≤ℤ e → AreEndedBy d ts → AreEndedBy e ts
end_by_up d e [] le h = tt
end_by_up d e (t ∷ ts) le h = (limit_up d e t.frames le h.0, end_by_up d e ts le h.1)

-- what ends within a duration ends within one that is not before it
pub within_later : (d e : Moment) (ts : List TrackState) → IsNotAfter d e → AreEndedWithin d ts → AreEndedWithin e ts
within_later Nan e ts later h = ends_none e ts h
within_later (At d) Nan ts later h = absurd later
within_later (At d) (At e) ts later h = end_by_up d e ts later h
within_later (At d) Infinite ts later h = tt
within_later Infinite Nan ts later h = absurd later
within_later Infinite (At e) ts later h = absurd later
within_later Infinite Infinite ts later h = tt

-- a track buffer with one frame, which ends at a time
abbrev tracks_until : ℤ → List TrackState
tracks_until d =
    (record {
      id = 0;
      kind = Other;
      codec = [];
      frames = (record {
        serial = 0;
        frame = record { track_id = 0; pts = d; dts = d; dur = pos 0; sync = true; payload = [] };
      }) ∷ [];
      marks = new_marks;
    }) ∷ []

until_there : (d e : ℤ) → d ≤ℤ e → (d +ℤ pos 0) ≤ℤ e
until_there d e le = omega (arith, ints)

there_until : (d e : ℤ) → (d +ℤ pos 0) ≤ℤ e → d ≤ℤ e
there_until d e le = omega (arith, ints)

itself : (d : ℤ) → d ≤ℤ d
itself d = omega (arith, ints)

no_later : (e : ℤ) → (e +ℤ pos 1) ≤ℤ e → ⊥
no_later e le = omega (arith, ints)

ended_until : (d : ℤ) → AreEndedBy d (tracks_until d)
ended_until d = ((until_there d d (itself d), tt), tt)

until_by : (d e : ℤ) → AreEndedBy e (tracks_until d) → d ≤ℤ e
until_by d e h = there_until d e h.0.0

some_frame : (d : ℤ) → AllByRecursion (λ t. t.frames ≡ []) (tracks_until d) → ⊥
some_frame d h = let none = h.0 in cc

-- where all that ends within a duration ends within another one, it is not after that
not_after_within : (d e : Moment) → ((ts : List TrackState) → AreEndedWithin d ts → AreEndedWithin e ts) → IsNotAfter d e
not_after_within Nan e later = tt
not_after_within (At d) Nan later = some_frame d (later (tracks_until d) (ended_until d))
not_after_within (At d) (At e) later = until_by d e (later (tracks_until d) (ended_until d))
not_after_within (At d) Infinite later = tt
not_after_within Infinite Nan later = some_frame (pos 0) (later (tracks_until (pos 0)) tt)
not_after_within Infinite (At e) later = no_later e (until_by (e +ℤ pos 1) e (later (tracks_until (e +ℤ pos 1)) tt))
not_after_within Infinite Infinite later = tt

pub not_after_ends : (d e : Moment) → IsNotAfter d e ↔ ((ts : List TrackState) → AreEndedWithin d ts → AreEndedWithin e ts)
not_after_ends d e = (λ later ts h. within_later d e ts later h, not_after_within d e)

pub not_after_itself : (d : Moment) → IsNotAfter d d
not_after_itself Nan = tt
not_after_itself (At d) = itself d
not_after_itself Infinite = tt

-- where nothing is done at the source
pub not_after_none : (d : Moment) (b : SourceEffect) → b ≡ no_effect d → IsNotAfter d b.duration
not_after_none d b is = subst (λ (m : Moment). IsNotAfter d m) (sym (ap (λ (x : SourceEffect). x.duration) is)) (not_after_itself d)

at_both : (c d e : ℤ) → c ≤ℤ d → d ≤ℤ e → c ≤ℤ e
at_both c d e first second = omega (arith, ints)

pub not_after_both : (c d e : Moment) → IsNotAfter c d → IsNotAfter d e → IsNotAfter c e
not_after_both Nan d e first second = tt
not_after_both (At c) Nan e first second = absurd first
not_after_both (At c) (At d) Nan first second = second
not_after_both (At c) (At d) (At e) first second = at_both c d e first second
not_after_both (At c) (At d) Infinite first second = tt
not_after_both (At c) Infinite Nan first second = second
not_after_both (At c) Infinite (At e) first second = absurd second
not_after_both (At c) Infinite Infinite first second = tt
not_after_both Infinite Nan e first second = absurd first
not_after_both Infinite (At d) e first second = absurd first
not_after_both Infinite Infinite e first second = second

max_above : (d t : ℤ) → d ≤ℤ int_max d t
max_above d t = grind (arith, ints)

-- a duration that is raised
pub not_after_raised : (d : Moment) (t : ℤ) → IsNotAfter d (greater_moment d t)
not_after_raised Nan t = tt
not_after_raised (At d) t = max_above d t
not_after_raised Infinite t = tt

-- as it is raised by a stored frame
pub not_after_stored : (g : ℤ) (d r : Moment) (b : SourceEffect) → r ≡ greater_moment d g → b ≡ with_duration r (no_effect d) → IsNotAfter d b.duration
not_after_stored g d r b raised is =
    subst (λ (m : Moment). IsNotAfter d m) (sym (ap (λ (x : SourceEffect). x.duration) is ∙ changed_is r (no_effect d) ∙ raised)) (not_after_raised d g)

-- as a segment tells it
pub not_after_told : (p : Presentation) (d : Moment) (b : SourceEffect) → b ≡ segment_effect p d → IsNotAfter d b.duration
not_after_told p Nan b is = tt
not_after_told p (At d) b is = not_after_none (At d) b is
not_after_told p Infinite b is = not_after_none Infinite b is

-- ---- the highest end

fold_from : (s : ℤ) (ts : List ℤ) (e : ℤ) → fold greater_of (Some s) ts ≡ Some e → (s ≤ℤ e) × AllByRecursion (λ t. t ≤ℤ e) ts
fold_from s [] e h = let same : s ≡ e = cc in (subst (λ (x : ℤ). s ≤ℤ x) same (omega (arith, ints)), tt)
fold_from s (t ∷ ts) e h =
    let rest = fold_from (int_max s t) ts e h in
    let high = rest.0 in
    (under_left s t e high, (under_right s t e high, rest.1))
  where
    under_left : (s t e : ℤ) → int_max s t ≤ℤ e → s ≤ℤ e
    under_left s t e h = grind (arith, ints)

    under_right : (s t e : ℤ) → int_max s t ≤ℤ e → t ≤ℤ e
    under_right s t e h = grind (arith, ints)

pub greatest_bounds : (ts : List ℤ) (e : ℤ) → greatest ts ≡ Some e → AllByRecursion (λ t. t ≤ℤ e) ts
greatest_bounds [] e h = tt
greatest_bounds (t ∷ ts) e h = fold_from t ts e h

some_stays : (s : ℤ) (ts : List ℤ) → fold greater_of (Some s) ts ≡ None → ⊥
some_stays s [] h = cc
some_stays s (t ∷ ts) h = some_stays (int_max s t) ts h

pub greatest_none : (ts : List ℤ) → greatest ts ≡ None → ts ≡ []
greatest_none [] h = refl
greatest_none (t ∷ ts) h = absurd (some_stays t ts h)

all_left : (P : ℤ → Type 0) (xs ys : List ℤ) → AllByRecursion P (xs ++ ys) → AllByRecursion P xs × AllByRecursion P ys
all_left P [] ys h = (tt, h)
all_left P (x ∷ xs) ys h = let rest = all_left P xs ys h.1 in ((h.0, rest.0), rest.1)

frames_by : (e : ℤ) (fs : List Stored) → AllByRecursion (λ t. t ≤ℤ e) (ends fs) → AllByRecursion (λ f. (f.frame.pts +ℤ f.frame.dur) ≤ℤ e) fs
frames_by e [] h = tt
frames_by e (f ∷ fs) h = (h.0, frames_by e fs h.1)

tracks_by : (e : ℤ) (ts : List TrackState) → AllByRecursion (λ t. t ≤ℤ e) (flat_map (λ t. ends t.frames) ts) → AreEndedBy e ts
tracks_by e [] h = tt
tracks_by e (t ∷ ts) h =
    let parts = all_left (λ t. t ≤ℤ e) (ends t.frames) (flat_map (λ u. ends u.frames) ts) h in
    (frames_by e t.frames parts.0, tracks_by e ts parts.1)

-- each frame ends at or before the highest end
pub highest_bounds : (m : Media) (e : ℤ) → highest_end_in m ≡ Some e → AreEndedWithin (At e) m.tracks
highest_bounds m e h = tracks_by e m.tracks (greatest_bounds (flat_map (λ t. ends t.frames) m.tracks) e h)

no_frames : (fs : List Stored) (rest : List ℤ) → ends fs ++ rest ≡ [] → (fs ≡ []) × (rest ≡ [])
no_frames [] rest h = (refl, h)
no_frames (f ∷ fs) rest h = absurd cc

empty_by : (ts : List TrackState) → flat_map (λ t. ends t.frames) ts ≡ [] → AllByRecursion (λ t. t.frames ≡ []) ts
empty_by [] h = tt
empty_by (t ∷ ts) h =
    let parts = no_frames t.frames (flat_map (λ u. ends u.frames) ts) h in
    (parts.0, empty_by ts parts.1)

-- where there is no highest end, there is no frame
pub highest_none : (m : Media) → highest_end_in m ≡ None → AllByRecursion (λ t. t.frames ≡ []) m.tracks
highest_none m h = empty_by m.tracks (greatest_none (flat_map (λ t. ends t.frames) m.tracks) h)

no_ends : (ts : List TrackState) → AllByRecursion (λ t. t.frames ≡ []) ts → flat_map (λ t. ends t.frames) ts ≡ []
no_ends [] h = refl
no_ends (t ∷ ts) h = ap (λ (fs : List Stored). ends fs ++ flat_map (λ u. ends u.frames) ts) h.0 ∙ no_ends ts h.1

pub highest_nothing : (m : Media) → (highest_end_in m ≡ None) ↔ AllByRecursion (λ t. t.frames ≡ []) m.tracks
highest_nothing m = (highest_none m, λ h. ap greatest (no_ends m.tracks h))
