-- From one track buffer to all of a source buffer.
use Rattle.std.proofs.Common.{◌≡◌, ◌<◌, ◌≤◌, ◌^◌, ◌+◌, ℕ, ℤ, Bool, true, false, cond, ◌||◌, List, [], ◌∷◌, length, map, set, slice_get, get_or, Option, Some, None, refl, sym, ap, subst, ◌∙◌, inl, inr, arith}
use Rattle.std.specs.Option.{IfSome, option_map}
use Rattle.std.proofs.lemmas.Option.{slice_get_cases, slice_get-map}
use Rattle.mse_base.specs.declared.frame.CodedFrame.{CodedFrame}
use Rattle.track_store.specs.declared.store.Stored.{Stored}
use Rattle.track_store.specs.declared.tracks.Track.{Track}
use Rattle.track_store.specs.declared.tracks.Marks.{Marks}
use Rattle.track_store.specs.declared.tracks.Settings.{Settings}
use Rattle.track_store.specs.State.{TrackState, state_of, states_of, unset_marks, marks_needing_sync}
use Rattle.track_store.specs.Sound.{IsSound, AreTogether}
use Rattle.frame_rules.specs.declared.timing.Timing.{Timing}
use Rattle.frame_rules.specs.Timing.{timing_of}
use Rattle.frame_rules.specs.declared.answer.Placed.{Placed}
use Rattle.frame_rules.specs.declared.answer.Placed.TheVariants as placed_as
use Rattle.std.proofs.lemmas.Bool.Decides.{nat_tests}
use Rattle.std.proofs.lemmas.List.{length-map, map-set, get_or-map}
use Rattle.std.proofs.lemmas.List.Sums.{get_or-le-sum_by}
use Rattle.track_store.specs.Frames.{bytes_of}
use Rattle.frame_rules.specs.Put.{drop_reason, track_after_frame, answer_by_reason}
use Rattle.track_store.specs.Kept.{bytes_in, IsCountable}
use Rattle.frame_rules.specs.Place.{Placement, new_placement, marks_after_reset, with_reset_marks, track_after_reset, placement_in_track, placement_by_times, placement, is_over_limit, settings_after_frame, IsReadyForFrame, IsReadyForFrameAt}
use Rattle.frame_rules.specs.Placing.{IsPlaceable}

if_some_map : {X Y : Type 0} (o : Option X) (f : X → Y) (P : X → Type 0) (Q : Y → Type 0) → ((x : X) → P x → Q (f x)) → IfSome o P → IfSome (option_map f o) Q
if_some_map None f P Q k h = h
if_some_map (Some x) f P Q k h = k x h

pub states_marked : {S : Type 0} (frames : S → List Stored) (w : Timing) (ts : List (Track S)) → states_of frames (map (with_reset_marks w) ts) ≡ map (track_after_reset w) (states_of frames ts)
states_marked frames w [] = refl
states_marked frames w (t ∷ ts) = ap (λ rest. track_after_reset w (state_of frames t) ∷ rest) (states_marked frames w ts)

pub placed_at : {S : Type 0} (frames : S → List Stored) (w : Timing) (f : CodedFrame) (i : ℕ) (ts : List (Track S)) (t u : Track S) (answer : Placed) (settings : Settings) → slice_get ts i ≡ Some t → state_of frames u ≡ track_after_frame w f (state_of frames t) → answer ≡ answer_by_reason (drop_reason w f.sync t.marks.need_sync) → settings ≡ settings_after_frame answer w → new_placement answer (states_of frames (set ts i u)) settings ≡ placement_in_track (slice_get (states_of frames ts) i) w f i (states_of frames ts)
placed_at frames w f i ts t u answer settings there state_is answer_is settings_are =
    let here = slice_get-map (state_of frames) ts i ∙ ap (option_map (state_of frames)) there in
    let all = map-set (state_of frames) ts i u ∙ ap (λ (x : TrackState). set (states_of frames ts) i x) state_is in
    rw (here, all, settings_are, answer_is) refl

-- a track stays sound where a frame of its buffer begins a group
together_needs : (decode duration end : Option ℤ) (first : Option ℕ) (need : Bool) → AreTogether decode duration end first need → AreTogether decode duration end first true
together_needs (Some decode) (Some duration) (Some end) (Some first) need h = h
together_needs None None None None need h = refl
together_needs decode duration end first need h = absurd h

unset_sound : (t : TrackState) → IsSound t → IsSound (record t { marks = record t.marks { last_decode = None; last_duration = None; highest_end = None; group_first = None; need_sync = true } })
unset_sound t h = record { chained = h.chained; ascending = h.ascending; below = h.below; not_negative = h.not_negative; last_held = λ e. cc; together = refl; group_below = tt; group_sync = tt }

needing_sound : (t : TrackState) → IsSound t → IsSound (record t { marks = record t.marks { need_sync = true } })
needing_sound t h = record { chained = h.chained; ascending = h.ascending; below = h.below; not_negative = h.not_negative; last_held = λ e. cc; together = together_needs _ t.marks.last_duration _ _ t.marks.need_sync h.together; group_below = h.group_below; group_sync = h.group_sync }

sound_either : (t : TrackState) (b : Bool) (m n : Marks) → IsSound (record t { marks = m }) → IsSound (record t { marks = n }) → IsSound (record t { marks = cond b m n })
sound_either t true m n p q = p
sound_either t false m n p q = q

pub sound_break : (w : Timing) (t : TrackState) → IsSound t → IsSound (track_after_reset w t)
sound_break w t h = sound_either t w.discontinuity _ _ (unset_sound t h) (sound_either t w.starts_group (record t.marks { need_sync = true }) t.marks (needing_sound t h) h)

received_either : (n : ℕ) (b : Bool) (k m : Marks) → k.received < n → m.received < n → (cond b k m).received < n
received_either n true k m p q = p
received_either n false k m p q = q

pub received_broken : (w : Timing) (m : Marks) → m.received < 2 ^ 62 → (marks_after_reset w m).received < 2 ^ 62
received_broken w m h = received_either (2 ^ 62) w.discontinuity _ _ h (received_either (2 ^ 62) w.starts_group (record m { need_sync = true }) m h h)

ready_marked : {S : Type 0} (frames : S → List Stored) (spare : S → ℕ) (bytes : ℕ) (w : Timing) (t : Track S) → IsReadyForFrame frames spare bytes t → IsReadyForFrame frames spare bytes (with_reset_marks w t)
ready_marked frames spare bytes w t h = record { sound = sound_break w (state_of frames t) h.sound; room = h.room; count = received_broken w t.marks h.count; small = h.small }

pub ready_reset : {S : Type 0} (frames : S → List Stored) (spare : S → ℕ) (i : ℕ) (f : CodedFrame) (w : Timing) (ts us : List (Track S)) → us ≡ map (with_reset_marks w) ts → IsReadyForFrameAt frames spare i f ts → IsReadyForFrameAt frames spare i f us
ready_reset frames spare i f w ts us is h =
    let ready = IsReadyForFrame frames spare (length f.payload) in
    let as_long = length-map ts (with_reset_marks w) in
    rw is (record {
      in_range = let low = h.in_range in omega arith;
      track = rw (slice_get-map (with_reset_marks w) ts i) (if_some_map (slice_get ts i) (with_reset_marks w) ready ready (ready_marked frames spare (length f.payload) w) h.track);
      dur_not_negative = h.dur_not_negative;
    })

-- the bytes of the track at a place are among those of all
used_within : {S : Type 0} (frames : S → List Stored) (ts : List (Track S)) (i : ℕ) (t : Track S) → i < length ts → get_or ts i t ≡ t → bytes_of (frames t.store) ≤ bytes_in (states_of frames ts)
used_within frames ts i t here at =
    let long = length-map ts (state_of frames) in
    let there : i < length (states_of frames ts) = omega arith in
    let part = get_or-le-sum_by (λ s. bytes_of s.frames) (states_of frames ts) i (state_of frames t) there in
    rw (get_or-map (state_of frames) ts i t (state_of frames t) here, at) at part

-- the definition, where a count would pass its limit
pub placed_full : {S : Type 0} (frames : S → List Stored) (ts : List (Track S)) (s : Settings) (i : ℕ) (f : CodedFrame) → i < length ts → IfSome (slice_get ts i) (λ t. true ≡ is_over_limit t.marks.received (bytes_in (states_of frames ts)) (length f.payload)) → new_placement placed_as.Counts (states_of frames ts) s ≡ placement (states_of frames ts) s i f
placed_full frames ts s i f low full =
    elim (slice_get_cases ts i).1 [
      | inl found ↦
          (let here = slice_get-map (state_of frames) ts i ∙ ap (option_map (state_of frames)) found.2 in
          let yes = rw found.2 at full in
          rw (here, ← yes) refl)
      | inr past ↦ absurd (omega arith)
    ]

-- the definition, where none would
pub placed_counted : {S : Type 0} (frames : S → List Stored) (ts : List (Track S)) (s : Settings) (i : ℕ) (f : CodedFrame) (p : Placement) → i < length ts → IfSome (slice_get ts i) (λ t. false ≡ is_over_limit t.marks.received (bytes_in (states_of frames ts)) (length f.payload)) → IfSome (slice_get ts i) (λ t. p ≡ placement_by_times (timing_of s t.marks f) s f i (states_of frames ts)) → p ≡ placement (states_of frames ts) s i f
placed_counted frames ts s i f p low full is =
    elim (slice_get_cases ts i).1 [
      | inl found ↦
          (let here = slice_get-map (state_of frames) ts i ∙ ap (option_map (state_of frames)) found.2 in
          let fits = rw found.2 at full in
          let own = rw found.2 at is in
          rw (here, ← fits) own)
      | inr past ↦ absurd (omega arith)
    ]

pub fits_of : (received bytes more : ℕ) → received ≤ 2 ^ 62 → false ≡ is_over_limit received bytes more → (received < 2 ^ 62) × (bytes + more < 2 ^ 62)
fits_of received bytes more low fits = grind (arith, nat_tests)

ready_at : {S : Type 0} (frames : S → List Stored) (spare : S → ℕ) (ts : List (Track S)) (i : ℕ) (bytes : ℕ) → IfSome (slice_get ts i) (λ t. IsSound (state_of frames t)) → IfSome (slice_get ts i) (λ t. 1 ≤ spare t.store) → IfSome (slice_get ts i) (λ t. t.marks.received ≤ 2 ^ 62) → IfSome (slice_get ts i) (λ t. false ≡ is_over_limit t.marks.received (bytes_in (states_of frames ts)) bytes) → IfSome (slice_get ts i) (λ t. IsReadyForFrame frames spare bytes t)
ready_at frames spare ts i bytes sound room count fits =
    elim (slice_get_cases ts i).1 [
      | inl found ↦
          (let t = found.0 in
          let here = rw found.2 at fits in
          let most = rw found.2 at count in
          let both = fits_of t.marks.received (bytes_in (states_of frames ts)) bytes most here in
          let part = used_within frames ts i t found.1 found.3 in
          rw found.2 (record { sound = rw found.2 at sound; room = rw found.2 at room; count = both.0; small = omega arith }))
      | inr past ↦ rw past.1 tt
    ]

-- a state that is sound is that of a track
sound_track : {S : Type 0} (frames : S → List Stored) (o : Option (Track S)) → IfSome (option_map (state_of frames) o) IsSound → IfSome o (λ t. IsSound (state_of frames t))
sound_track frames None h = tt
sound_track frames (Some t) h = h

count_track : {S : Type 0} (frames : S → List Stored) (o : Option (Track S)) → IfSome (option_map (state_of frames) o) IsCountable → IfSome o (λ t. t.marks.received ≤ 2 ^ 62)
count_track frames None h = tt
count_track frames (Some t) h = h

pub ready_sound : {S : Type 0} (frames : S → List Stored) (spare : S → ℕ) (ts : List (Track S)) (i : ℕ) (f : CodedFrame) (s : Settings) → IsPlaceable frames spare i f s ts → IfSome (slice_get ts i) (λ t. false ≡ is_over_limit t.marks.received (bytes_in (states_of frames ts)) (length f.payload)) → IsReadyForFrameAt frames spare i f ts
ready_sound frames spare ts i f s h fits =
    let sound = sound_track frames (slice_get ts i) (rw (slice_get-map (state_of frames) ts i) at h.sound) in
    let count = count_track frames (slice_get ts i) (rw (slice_get-map (state_of frames) ts i) at h.count) in
    record { in_range = h.in_range; track = ready_at frames spare ts i (length f.payload) sound h.room count fits; dur_not_negative = h.dur_not_negative }

-- where neither step has anything to do, no marks change
idle_marks : {S : Type 0} (w : Timing) (t : Track S) → w.discontinuity ≡ false → w.starts_group ≡ false → t ≡ with_reset_marks w t
idle_marks w t a b =
    ap (λ c. record t { marks = cond c (marks_needing_sync t.marks) t.marks }) (sym b)
    ∙ ap (λ c. record t { marks = cond c (unset_marks t.marks) (cond w.starts_group (marks_needing_sync t.marks) t.marks) }) (sym a)

pub idle_reset : {S : Type 0} (w : Timing) (ts : List (Track S)) → w.discontinuity ≡ false → w.starts_group ≡ false → ts ≡ map (with_reset_marks w) ts
idle_reset w [] a b = refl
idle_reset w (t ∷ ts) a b = ap (λ u. u ∷ ts) (idle_marks w t a b) ∙ ap (λ us. with_reset_marks w t ∷ us) (idle_reset w ts a b)

pub or_parts : (a b : Bool) → (a || b) ≡ false → (a ≡ false) × (b ≡ false)
or_parts true b e = cc
or_parts false b e = (refl, e)

-- ---- by the times that are found

if_found : {S : Type 0} (o : Option (Track S)) (s : Settings) (f : CodedFrame) (q : Option Timing) (P : Option Timing → Type 0) → IfSome o (λ t. q ≡ timing_of s t.marks f) → P q → IfSome o (λ t. P (timing_of s t.marks f))
if_found None s f q P h p = tt
if_found (Some t) s f q P h p = subst P h p

pub by_found : {S : Type 0} (frames : S → List Stored) (ts : List (Track S)) (s : Settings) (i : ℕ) (f : CodedFrame) (q : Option Timing) (p : Placement) → IfSome (slice_get ts i) (λ t. q ≡ timing_of s t.marks f) → p ≡ placement_by_times q s f i (states_of frames ts) → IfSome (slice_get ts i) (λ t. p ≡ placement_by_times (timing_of s t.marks f) s f i (states_of frames ts))
by_found frames ts s i f q p h is = if_found (slice_get ts i) s f q (λ o. p ≡ placement_by_times o s f i (states_of frames ts)) h is
