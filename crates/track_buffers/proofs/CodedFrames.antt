-- One coded frame, and several.
use Rattle.std.proofs.Common.{◌≡◌, ℕ, ℤ, zero, suc, ◌+◌, ◌<◌, ◌≤◌, Bool, true, false, cond, List, [], ◌∷◌, length, map, slice_get, Option, Some, None, refl, sym, ap, ◌∙◌, subst, arith}
use Rattle.std.specs.Option.{IfSome}
use Rattle.std.specs.Int.{int_max}
use Rattle.std.specs.Ordering.{int_eq}
use Rattle.std.specs.Prelude.{option_and_then}
use Rattle.std.proofs.lemmas.Bool.Decides.{Decides-int_eq}
use Rattle.std.proofs.lemmas.Int.{ints}
use Rattle.std.proofs.lemmas.List.{length-map}
use Rattle.mse_base.specs.Time.{tick}
use Rattle.mse_base.specs.Moments.{is_same_moment, greater_moment}
use Rattle.mse_base.specs.declared.frame.CodedFrame.{CodedFrame}
use Rattle.mse_base.specs.declared.ticks.Moment.{Moment}
use Rattle.mse_base.specs.declared.ticks.Moment.TheVariants.{Nan, At, Infinite}
use Rattle.track_store.specs.declared.tracks.Marks.{Marks}
use Rattle.track_store.specs.declared.tracks.Settings.{Settings}
use Rattle.track_store.specs.Kept.{bytes_in, AreEndedBy}
use Rattle.track_store.specs.State.{TrackState}
use Rattle.frame_rules.specs.declared.answer.Placed.{Placed}
use Rattle.frame_rules.specs.declared.answer.Placed.TheVariants as placed_as
use Rattle.frame_rules.specs.declared.answer.Why.{Why}
use Rattle.frame_rules.specs.declared.timing.Timing.{Timing}
use Rattle.frame_rules.specs.Timing.{raw_time, settings_at_group_start, offset_to, timing_in_pass, is_discontinuous, settings_after_discontinuity, timing_of}
use Rattle.frame_rules.specs.Put.{answer_by_reason, drop_reason}
use Rattle.frame_rules.specs.Place.{Placement, new_placement, track_after_reset, placement_in_track, placement_at_times, placement_by_times, placement_in, placement, is_over_limit, settings_after_frame}
use Rattle.track_buffers.specs.declared.effects.SourceEffect.{SourceEffect}
use Rattle.track_buffers.specs.declared.effects.MediaFault.{MediaFault}
use Rattle.track_buffers.specs.Media.{AreEndedWithin, no_effect, with_duration, AppendError}
use Rattle.track_buffers.proofs.KeptTracks.{endby_none}

-- ---- after a fault all is as before

abbrev pub IsFault : Placed → Type 0
IsFault placed_as.Stored = ⊥
IsFault (placed_as.Dropped why) = ⊥
IsFault placed_as.TimeRange = Unit {0}
IsFault placed_as.Counts = Unit {0}

-- the tracks and settings are those before, where the answer is a fault
abbrev IsSameIfFault : List TrackState → Settings → Placement → Type 0
IsSameIfFault ts s o = IsFault o.answer → (o.tracks ≡ ts) × (o.settings ≡ s)

put_goes : (why : Option Why) → IsFault (answer_by_reason why) → ⊥
put_goes None h = h
put_goes (Some why) h = h

none_within : {X : Type 0} (xs : List X) (i : ℕ) → i < length xs → slice_get xs i ≡ None → ⊥
none_within [] i low e = omega arith
none_within (x ∷ xs) zero low e = cc
none_within (x ∷ xs) (suc i) low e = none_within xs i (omega arith) e

goes_in : (o : Option TrackState) (w : Timing) (f : CodedFrame) (i : ℕ) (ts : List TrackState) → slice_get ts i ≡ o → i < length ts → IsFault (placement_in_track o w f i ts).answer → ⊥
goes_in None w f i ts e low h = none_within ts i low e
goes_in (Some t) w f i ts e low h = put_goes (drop_reason w f.sync t.marks.need_sync) h

goes_at : (w : Timing) (f : CodedFrame) (i : ℕ) (ts : List TrackState) → i < length ts → IsFault (placement_at_times w f i ts).answer → ⊥
goes_at w f i ts low h = goes_in (slice_get (map (track_after_reset w) ts) i) w f i (map (track_after_reset w) ts) refl (rw length-map low) h

before_by : (o : Option Timing) (s : Settings) (f : CodedFrame) (i : ℕ) (ts : List TrackState) → i < length ts → IsSameIfFault ts s (placement_by_times o s f i ts)
before_by None s f i ts low h = (refl, refl)
before_by (Some w) s f i ts low h = absurd (goes_at w f i ts low h)

before_pick : (b : Bool) (ts : List TrackState) (s : Settings) (x y : Placement) → IsSameIfFault ts s x → IsSameIfFault ts s y → IsSameIfFault ts s (cond b x y)
before_pick true ts s x y p q = p
before_pick false ts s x y p q = q

before_of : (o : Option TrackState) (ts : List TrackState) (s : Settings) (i : ℕ) (f : CodedFrame) → i < length ts → IsSameIfFault ts s (placement_in o ts s i f)
before_of None ts s i f low h = (refl, refl)
before_of (Some t) ts s i f low h = before_pick (is_over_limit t.marks.received (bytes_in ts) (length f.payload)) ts s (new_placement placed_as.Counts ts s) (placement_by_times (timing_of s t.marks f) s f i ts) (λ k. (refl, refl)) (before_by (timing_of s t.marks f) s f i ts low) h

before_placed : (ts : List TrackState) (s : Settings) (i : ℕ) (f : CodedFrame) → i < length ts → IsSameIfFault ts s (placement ts s i f)
before_placed ts s i f low h = before_of (slice_get ts i) ts s i f low h

-- the same of an new_placement that is what the definition leaves
pub as_before : (answer : Placed) (news ts : List TrackState) (t s : Settings) (i : ℕ) (f : CodedFrame) → new_placement answer news t ≡ placement ts s i f → i < length ts → IsFault answer → (news ≡ ts) × (t ≡ s)
as_before answer news ts t s i f is low h =
    let both = before_placed ts s i f low (subst (λ (o : Placement). IsFault o.answer) is h) in
    (ap (λ (o : Placement). o.tracks) is ∙ both.0, ap (λ (o : Placement). o.settings) is ∙ both.1)

pub broke_same : (fault : MediaFault) (news ts : List TrackState) (t s : Settings) (pending : Bool) (gap : ℤ) (b : SourceEffect) (d : Moment) → news ≡ ts → t ≡ s → b ≡ no_effect d → AppendError fault (record { tracks = news; settings = t; pending = pending; gap = gap }) b ≡ AppendError fault (record { tracks = ts; settings = s; pending = pending; gap = gap }) (no_effect d)
broke_same fault news ts t s pending gap b d same_tracks same_settings is =
    ap (λ (us : List TrackState). AppendError fault (record { tracks = us; settings = t; pending = pending; gap = gap }) b) same_tracks
    ∙ ap (λ (u : Settings). AppendError fault (record { tracks = ts; settings = u; pending = pending; gap = gap }) b) same_settings
    ∙ ap (λ (x : SourceEffect). AppendError fault (record { tracks = ts; settings = s; pending = pending; gap = gap }) x) is

-- ---- the append window end stays

if_some_then : {A B : Type 0} (o : Option A) (k : A → Option B) (Q : B → Type 0) → ((x : A) → IfSome (k x) Q) → IfSome (option_and_then k o) Q
if_some_then None k Q h = tt
if_some_then (Some x) k Q h = h x

if_some_chain : {A B : Type 0} (o : Option A) (k : A → Option B) (P : A → Type 0) (Q : B → Type 0) → IfSome o P → ((x : A) → P x → IfSome (k x) Q) → IfSome (option_and_then k o) Q
if_some_chain None k P Q h g = tt
if_some_chain (Some x) k P Q h g = g x h

if_some_cond : {A : Type 0} (b : Bool) (o p : Option A) (Q : A → Type 0) → IfSome o Q → IfSome p Q → IfSome (cond b o p) Q
if_some_cond true o p Q h g = h
if_some_cond false o p Q h g = g

abbrev HasSameWindowEnd : Settings → Settings → Type 0
HasSameWindowEnd s t = t.window_end ≡ s.window_end

aligned_end : (s : Settings) (g : Option ℤ) (p : ℤ) → IfSome (offset_to s g p) (HasSameWindowEnd s)
aligned_end s None p = refl
aligned_end s (Some g) p = if_some_then (tick _) _ (HasSameWindowEnd s) (λ offset. refl)

moved_end : (s : Settings) (f : CodedFrame) → IfSome (timing_in_pass s f) (λ w. HasSameWindowEnd s w.settings)
moved_end s f =
    if_some_chain (settings_at_group_start s (raw_time s f.pts)) _ (HasSameWindowEnd s) (λ w. HasSameWindowEnd s w.settings) (if_some_cond s.sequence (offset_to s s.group_start (raw_time s f.pts)) (Some s) (HasSameWindowEnd s) (aligned_end s s.group_start (raw_time s f.pts)) refl)
    (λ t same. if_some_then (tick _) _ _ (λ p. if_some_then (tick _) _ _ (λ d. if_some_then (tick _) _ _ (λ e. same))))

broken_end : (s : Settings) (p : ℤ) (b : Bool) → HasSameWindowEnd s (cond b (record s { group_start = Some s.group_end }) (record s { group_end = p }))
broken_end s p true = refl
broken_end s p false = refl

times_end : (s : Settings) (m : Marks) (f : CodedFrame) → IfSome (timing_of s m f) (λ w. HasSameWindowEnd s w.settings)
times_end s m f =
    if_some_chain (timing_in_pass s f) _ (λ w. HasSameWindowEnd s w.settings) (λ w. HasSameWindowEnd s w.settings) (moved_end s f)
    (λ w same. if_some_cond (is_discontinuous m w.dts) _ (Some w) (λ v. HasSameWindowEnd s v.settings)
    (if_some_chain (timing_in_pass (settings_after_discontinuity w.settings w.pts) f) _ (λ v. HasSameWindowEnd (settings_after_discontinuity w.settings w.pts) v.settings) (λ v. HasSameWindowEnd s v.settings) (moved_end (settings_after_discontinuity w.settings w.pts) f)
    (λ v step. step ∙ broken_end w.settings w.pts w.settings.sequence ∙ same))
    same)

answer_end : (answer : Placed) (w : Timing) → HasSameWindowEnd w.settings (settings_after_frame answer w)
answer_end placed_as.Stored w = refl
answer_end (placed_as.Dropped why) w = refl
answer_end placed_as.TimeRange w = refl
answer_end placed_as.Counts w = refl

in_end : (o : Option TrackState) (w : Timing) (f : CodedFrame) (i : ℕ) (ts : List TrackState) → HasSameWindowEnd w.settings (placement_in_track o w f i ts).settings
in_end None w f i ts = refl
in_end (Some t) w f i ts = answer_end (answer_by_reason (drop_reason w f.sync t.marks.need_sync)) w

by_end : (o : Option Timing) (s : Settings) (f : CodedFrame) (i : ℕ) (ts : List TrackState) → IfSome o (λ w. HasSameWindowEnd s w.settings) → HasSameWindowEnd s (placement_by_times o s f i ts).settings
by_end None s f i ts same = refl
by_end (Some w) s f i ts same = in_end (slice_get (map (track_after_reset w) ts) i) w f i (map (track_after_reset w) ts) ∙ same

cond_end : (b : Bool) (s : Settings) (x y : Placement) → HasSameWindowEnd s x.settings → HasSameWindowEnd s y.settings → HasSameWindowEnd s (cond b x y).settings
cond_end true s x y p q = p
cond_end false s x y p q = q

of_end : (o : Option TrackState) (ts : List TrackState) (s : Settings) (i : ℕ) (f : CodedFrame) → HasSameWindowEnd s (placement_in o ts s i f).settings
of_end None ts s i f = refl
of_end (Some t) ts s i f = cond_end (is_over_limit t.marks.received (bytes_in ts) (length f.payload)) s _ _ refl (by_end (timing_of s t.marks f) s f i ts (times_end s t.marks f))

pub window_end_stays : (answer : Placed) (news ts : List TrackState) (t s : Settings) (i : ℕ) (f : CodedFrame) → new_placement answer news t ≡ placement ts s i f → t.window_end ≡ s.window_end
window_end_stays answer news ts t s i f is = ap (λ (o : Placement). o.settings.window_end) is ∙ of_end (slice_get ts i) ts s i f

-- ---- the duration

same_by : (a b : ℤ) → int_eq a b ≡ true → At a ≡ At b
same_by a b h = ap At ((Decides-int_eq a b).0 h)

same_is : (a b : Moment) → is_same_moment a b ≡ true → a ≡ b
same_is Nan Nan h = refl
same_is Nan (At b) h = absurd cc
same_is Nan Infinite h = absurd cc
same_is (At a) Nan h = absurd cc
same_is (At a) (At b) h = same_by a b h
same_is (At a) Infinite h = absurd cc
same_is Infinite Nan h = absurd cc
same_is Infinite (At b) h = absurd cc
same_is Infinite Infinite h = refl

changed_by : (to : Moment) (b : SourceEffect) (same : Bool) → is_same_moment to b.duration ≡ same → (cond same b (record { duration_changes = b.duration_changes + 1; duration = to; activated = b.activated; received_init = b.received_init })).duration ≡ to
changed_by to b true e = sym (same_is to b.duration e)
changed_by to b false e = refl

pub changed_is : (to : Moment) (b : SourceEffect) → (with_duration to b).duration ≡ to
changed_is to b = changed_by to b (is_same_moment to b.duration) refl

few_by : (to : Moment) (b : SourceEffect) (same : Bool) → (cond same b (record { duration_changes = b.duration_changes + 1; duration = to; activated = b.activated; received_init = b.received_init })).duration_changes ≤ b.duration_changes + 1
few_by to b true = omega arith
few_by to b false = omega arith

pub changed_few : (to : Moment) (b : SourceEffect) → (with_duration to b).duration_changes ≤ b.duration_changes + 1
changed_few to b = few_by to b (is_same_moment to b.duration)

pub max_self : (a : ℤ) → int_max a a ≡ a
max_self a = grind (arith, ints)

ends_raised : (ts us : List TrackState) (g : ℤ) → ((limit : ℤ) → AreEndedBy limit ts → AreEndedBy (int_max limit g) us) → (d : Moment) → AreEndedWithin d ts → AreEndedWithin (greater_moment d g) us
ends_raised ts us g keep Nan h = subst (λ (l : ℤ). AreEndedBy l us) (max_self g) (keep g (endby_none g ts h))
ends_raised ts us g keep (At d) h = keep d h
ends_raised ts us g keep Infinite h = tt

-- a stored frame ends by the duration that it raises
pub ends_stored : (ts us : List TrackState) (g : ℤ) (d r : Moment) (b : SourceEffect) → ((limit : ℤ) → AreEndedBy limit ts → AreEndedBy (int_max limit g) us) → r ≡ greater_moment d g → b ≡ with_duration r (no_effect d) → AreEndedWithin d ts → AreEndedWithin b.duration us
ends_stored ts us g d r b keep raised is h =
    subst (λ (m : Moment). AreEndedWithin m us) (sym (ap (λ (x : SourceEffect). x.duration) is ∙ changed_is r (no_effect d) ∙ raised)) (ends_raised ts us g keep d h)
