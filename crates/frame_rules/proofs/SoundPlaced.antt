-- All tracks stay sound where a frame is placed.
use Rattle.std.proofs.Common.{◌≡◌, ◌∙◌, ◌+◌, ◌<◌, ◌≤◌, ◌^◌, arith, ℕ, zero, suc, ℤ, pos, ◌≤ℤ◌, ◌+ℤ◌, Bool, true, false, cond, List, [], ◌∷◌, length, map, set, slice_get, Option, Some, None, refl, sym, ap, subst, inl, inr}
use Rattle.std.proofs.lemmas.Int.{ints}
use Rattle.std.specs.Option.{IfSome}
use Rattle.std.specs.Prelude.{option_and_then}
use Rattle.std.specs.List.{AllByRecursion}
use Rattle.mse_base.specs.Time.{IsTick, tick}
use Rattle.mse_base.proofs.TickLemmas.{tick_some, tick_in_range}
use Rattle.mse_base.specs.declared.frame.CodedFrame.{CodedFrame}
use Rattle.track_store.specs.declared.tracks.Marks.{Marks}
use Rattle.track_store.specs.declared.tracks.Settings.{Settings}
use Rattle.track_store.specs.Room.{Room}
use Rattle.track_store.specs.State.{TrackState, states_of}
use Rattle.track_store.specs.Sound.{IsSound}
use Rattle.frame_rules.specs.declared.timing.Timing.{Timing}
use Rattle.frame_rules.specs.Timing.{raw_time, settings_at_group_start, offset_to, timing_in_pass, is_discontinuous, settings_after_discontinuity, timing_of, IsTimingOf}
use Rattle.frame_rules.specs.Put.{track_after_frame, answer_by_reason, drop_reason}
use Rattle.frame_rules.specs.declared.answer.Placed.{Placed}
use Rattle.track_store.specs.Kept.{bytes_in, IsCountable, AreSoundAndCountable, AreEndedBy, AreStillSound}
use Rattle.frame_rules.specs.Place.{Placement, track_after_reset, placement_in_track, placement_at_times, placement_by_times, placement_in, placement, is_over_limit, new_placement, settings_after_frame, limit_after}
use Rattle.frame_rules.specs.declared.answer.Placed.TheVariants as placed_as
use Rattle.frame_rules.specs.Placing.{AreStoresKept, IsPlaceable, IsPlaced}
use Rattle.std.proofs.lemmas.List.Sums.{sum_by-cons}
use Rattle.std.proofs.lemmas.Option.{same_Some, slice_get_cases}
use Rattle.track_store.specs.declared.tracks.Track.{Track}
use Rattle.track_store.specs.declared.store.Stored.{Stored}
use Rattle.track_store.specs.Frames.{bytes_of}
use Rattle.track_store.proofs.Limits.{ended_later, max_left}
use Rattle.track_store.proofs.StillSound.{still_same, still_map, still_both, still_set, all_still}
use Rattle.frame_rules.proofs.PutFrames.{sound_put, counted_put, used_put, end_put}
use Rattle.frame_rules.proofs.AllTracks.{sound_break, received_broken, fits_of, placed_counted}

-- what holds of each value that a chain of steps gives
if_some_then : {A B : Type 0} (o : Option A) (k : A → Option B) (Q : B → Type 0) → ((x : A) → IfSome (k x) Q) → IfSome (option_and_then k o) Q
if_some_then None k Q h = tt
if_some_then (Some x) k Q h = h x

if_some_chain : {A B : Type 0} (o : Option A) (k : A → Option B) (P : A → Type 0) (Q : B → Type 0) → IfSome o P → ((x : A) → P x → IfSome (k x) Q) → IfSome (option_and_then k o) Q
if_some_chain None k P Q h g = tt
if_some_chain (Some x) k P Q h g = g x h

if_some_cond : {A : Type 0} (b : Bool) (o p : Option A) (Q : A → Type 0) → IfSome o Q → IfSome p Q → IfSome (cond b o p) Q
if_some_cond true o p Q h g = h
if_some_cond false o p Q h g = g

-- a time that is found is the number that it was made of
tick_by : {B : Type 0} (z : ℤ) (o : Option ℤ) (k : ℤ → Option B) (Q : B → Type 0) → tick z ≡ o → ((e : ℤ) → e ≡ z → IsTick z → IfSome (k e) Q) → IfSome (option_and_then k o) Q
tick_by z None k Q e h = tt
tick_by z (Some t) k Q e h = h t (tick_some z t e) (tick_in_range z t e)

-- the frame end timestamp is the sum
pass_is : (s : Settings) (f : CodedFrame) → IfSome (timing_in_pass s f) (IsTimingOf f)
pass_is s f =
    if_some_then (settings_at_group_start s (raw_time s f.pts)) _ (IsTimingOf f) (λ t. if_some_then (tick _) _ _ (λ p. if_some_then (tick _) _ _ (λ d. tick_by (p +ℤ f.dur) (tick (p +ℤ f.dur)) _ (IsTimingOf f) refl (λ e same range. (same, range)))))

pub timing_is : (s : Settings) (m : Marks) (f : CodedFrame) → IfSome (timing_of s m f) (IsTimingOf f)
timing_is s m f =
    if_some_chain (timing_in_pass s f) _ (IsTimingOf f) (IsTimingOf f) (pass_is s f)
    (λ w own. if_some_cond (is_discontinuous m w.dts) _ (Some w) (IsTimingOf f)
    (if_some_chain (timing_in_pass (settings_after_discontinuity w.settings w.pts) f) _ (IsTimingOf f) (IsTimingOf f) (pass_is (settings_after_discontinuity w.settings w.pts) f) (λ v step. step))
    own)

-- the window stays where a frame is placed
abbrev HasSameWindowStart : Settings → Settings → Type 0
HasSameWindowStart s t = t.window_start ≡ s.window_start

aligned_window : (s : Settings) (g : Option ℤ) (p : ℤ) → IfSome (offset_to s g p) (HasSameWindowStart s)
aligned_window s None p = refl
aligned_window s (Some g) p = if_some_then (tick _) _ (HasSameWindowStart s) (λ offset. refl)

moved_window : (s : Settings) (f : CodedFrame) → IfSome (timing_in_pass s f) (λ w. HasSameWindowStart s w.settings)
moved_window s f =
    if_some_chain (settings_at_group_start s (raw_time s f.pts)) _ (HasSameWindowStart s) (λ w. HasSameWindowStart s w.settings) (if_some_cond s.sequence (offset_to s s.group_start (raw_time s f.pts)) (Some s) (HasSameWindowStart s) (aligned_window s s.group_start (raw_time s f.pts)) refl)
    (λ t same. if_some_then (tick _) _ _ (λ p. if_some_then (tick _) _ _ (λ d. if_some_then (tick _) _ _ (λ e. same))))

broken_window : (s : Settings) (p : ℤ) (b : Bool) → HasSameWindowStart s (cond b (record s { group_start = Some s.group_end }) (record s { group_end = p }))
broken_window s p true = refl
broken_window s p false = refl

times_window : (s : Settings) (m : Marks) (f : CodedFrame) → IfSome (timing_of s m f) (λ w. HasSameWindowStart s w.settings)
times_window s m f =
    if_some_chain (timing_in_pass s f) _ (λ w. HasSameWindowStart s w.settings) (λ w. HasSameWindowStart s w.settings) (moved_window s f)
    (λ w same. if_some_cond (is_discontinuous m w.dts) _ (Some w) (λ v. HasSameWindowStart s v.settings)
    (if_some_chain (timing_in_pass (settings_after_discontinuity w.settings w.pts) f) _ (λ v. HasSameWindowStart (settings_after_discontinuity w.settings w.pts) v.settings) (λ v. HasSameWindowStart s v.settings) (moved_window (settings_after_discontinuity w.settings w.pts) f)
    (λ v step. step ∙ broken_window w.settings w.pts w.settings.sequence ∙ same))
    same)

less_reset : (w : Timing) (ts : List TrackState) (i : ℕ) → IfSome (slice_get ts i) (λ t. t.marks.received < 2 ^ 62) → IfSome (slice_get (map (track_after_reset w) ts) i) (λ t. t.marks.received < 2 ^ 62)
less_reset w [] i h = h
less_reset w (t ∷ ts) zero h = received_broken w t.marks h
less_reset w (t ∷ ts) (suc i) h = less_reset w ts i h

sound_reset : (w : Timing) (ts : List TrackState) (i : ℕ) → IfSome (slice_get ts i) IsSound → IfSome (slice_get (map (track_after_reset w) ts) i) IsSound
sound_reset w [] i h = h
sound_reset w (t ∷ ts) zero h = sound_break w t h
sound_reset w (t ∷ ts) (suc i) h = sound_reset w ts i h

bytes_reset : (w : Timing) (ts : List TrackState) → bytes_in (map (track_after_reset w) ts) ≡ bytes_in ts
bytes_reset w [] = refl
bytes_reset w (t ∷ ts) = sum_by-cons (λ s. bytes_of s.frames) (track_after_reset w t) (map (track_after_reset w) ts) ∙ ap (λ n. bytes_of t.frames + n) (bytes_reset w ts) ∙ sym (sum_by-cons (λ s. bytes_of s.frames) t ts)

bytes_set : (ts : List TrackState) (i : ℕ) (t u : TrackState) (n : ℕ) → slice_get ts i ≡ Some t → bytes_of u.frames ≤ bytes_of t.frames + n → bytes_in (set ts i u) ≤ bytes_in ts + n
bytes_set [] i t u n e h = absurd cc
bytes_set (s ∷ ts) zero t u n e h =
    let same = ap (λ x. bytes_of x.frames) (same_Some s t e) in
    let old = sum_by-cons (λ x. bytes_of x.frames) s ts in
    let new = sum_by-cons (λ x. bytes_of x.frames) u ts in
    omega arith
bytes_set (s ∷ ts) (suc i) t u n e h =
    let rest = bytes_set ts i t u n e h in
    let old = sum_by-cons (λ x. bytes_of x.frames) s ts in
    let new = sum_by-cons (λ x. bytes_of x.frames) s (set ts i u) in
    omega arith

counted_either : (b : Bool) (k m : Marks) → k.received ≤ 2 ^ 62 → m.received ≤ 2 ^ 62 → (cond b k m).received ≤ 2 ^ 62
counted_either true k m p q = p
counted_either false k m p q = q

counted_reset : (w : Timing) (ts : List TrackState) → AllByRecursion IsCountable ts → AllByRecursion IsCountable (map (track_after_reset w) ts)
counted_reset w [] h = h
counted_reset w (t ∷ ts) h =
    (counted_either w.discontinuity _ _ h.0 (counted_either w.starts_group (record t.marks { need_sync = true }) t.marks h.0 h.0), counted_reset w ts h.1)

counted_set : (ts : List TrackState) (i : ℕ) (u : TrackState) → AllByRecursion IsCountable ts → IsCountable u → AllByRecursion IsCountable (set ts i u)
counted_set [] i u h own = h
counted_set (t ∷ ts) zero u h own = (own, h.1)
counted_set (t ∷ ts) (suc i) u h own = (h.0, counted_set ts i u h.1 own)

-- of the tracks that are left each that was sound is sound, and the frames received and the bytes of all can be
-- counted
pub record IsFirm (ts us : List TrackState) : Type 0 where
  pub sound : AreStillSound ts us
  pub counted : AllByRecursion IsCountable ts → AllByRecursion IsCountable us
  pub small : bytes_in us < 2 ^ 62

firm_same : (ts : List TrackState) → bytes_in ts < 2 ^ 62 → IsFirm ts ts
firm_same ts small = record { sound = still_same ts; counted = λ h. h; small = small }

firm_in : (o : Option TrackState) (w : Timing) (f : CodedFrame) (i : ℕ) (ts : List TrackState) → slice_get ts i ≡ o → IfSome o (λ t. t.marks.received < 2 ^ 62) → bytes_in ts + length f.payload < 2 ^ 62 → pos 0 ≤ℤ w.settings.window_start → pos 0 ≤ℤ f.dur → IsTimingOf f w → IsFirm ts (placement_in_track o w f i ts).tracks
firm_in None w f i ts e less fits low lasts timing = firm_same ts (omega arith)
firm_in (Some t) w f i ts e less fits low lasts timing =
    let bytes = bytes_set ts i t (track_after_frame w f t) (length f.payload) e (used_put w f t) in
    record {
      sound = still_set ts i t (track_after_frame w f t) e (λ h. sound_put w f t h less low lasts timing);
      counted = λ h. counted_set ts i (track_after_frame w f t) h (counted_put w f t less);
      small = omega arith;
    }

firm_at : (w : Timing) (f : CodedFrame) (i : ℕ) (ts : List TrackState) → IfSome (slice_get ts i) (λ t. t.marks.received < 2 ^ 62) → bytes_in ts + length f.payload < 2 ^ 62 → pos 0 ≤ℤ w.settings.window_start → pos 0 ≤ℤ f.dur → IsTimingOf f w → IsFirm ts (placement_at_times w f i ts).tracks
firm_at w f i ts less fits low lasts timing =
    let reset = map (track_after_reset w) ts in
    let same = bytes_reset w ts in
    let put = firm_in (slice_get reset i) w f i reset refl (less_reset w ts i less) (omega arith) low lasts timing in
    record { sound = still_both ts reset _ (still_map (track_after_reset w) ts (sound_break w)) put.sound; counted = λ h. put.counted (counted_reset w ts h); small = put.small }

firm_times : (o : Option Timing) (s : Settings) (f : CodedFrame) (i : ℕ) (ts : List TrackState) → IfSome o (λ w. HasSameWindowStart s w.settings) → IfSome o (IsTimingOf f) → IfSome (slice_get ts i) (λ t. t.marks.received < 2 ^ 62) → bytes_in ts + length f.payload < 2 ^ 62 → pos 0 ≤ℤ s.window_start → pos 0 ≤ℤ f.dur → IsFirm ts (placement_by_times o s f i ts).tracks
firm_times None s f i ts same timing less fits low lasts = firm_same ts (omega arith)
firm_times (Some w) s f i ts same timing less fits low lasts = firm_at w f i ts less fits (subst (λ (z : ℤ). pos 0 ≤ℤ z) (sym same) low) lasts timing

firm_cond : (b : Bool) (t : TrackState) (s : Settings) (f : CodedFrame) (i : ℕ) (ts : List TrackState) → b ≡ is_over_limit t.marks.received (bytes_in ts) (length f.payload) → slice_get ts i ≡ Some t → IsCountable t → bytes_in ts < 2 ^ 62 → pos 0 ≤ℤ s.window_start → pos 0 ≤ℤ f.dur → IsFirm ts (cond b (new_placement placed_as.Counts ts s) (placement_by_times (timing_of s t.marks f) s f i ts)).tracks
firm_cond true t s f i ts full e own small low lasts = firm_same ts small
firm_cond false t s f i ts full e own small low lasts =
    let both = fits_of t.marks.received (bytes_in ts) (length f.payload) own full in
    firm_times (timing_of s t.marks f) s f i ts (times_window s t.marks f) (timing_is s t.marks f) (rw e both.0) both.1 low lasts

firm_of : (o : Option TrackState) (ts : List TrackState) (s : Settings) (i : ℕ) (f : CodedFrame) → slice_get ts i ≡ o → IfSome o IsCountable → bytes_in ts < 2 ^ 62 → pos 0 ≤ℤ s.window_start → pos 0 ≤ℤ f.dur → IsFirm ts (placement_in o ts s i f).tracks
firm_of None ts s i f e own small low lasts = firm_same ts small
firm_of (Some t) ts s i f e own small low lasts = firm_cond (is_over_limit t.marks.received (bytes_in ts) (length f.payload)) t s f i ts refl e own small low lasts

-- the same of tracks that are what the definition leaves
firm_left : (news : List TrackState) (o : Placement) (ts : List TrackState) (s : Settings) (i : ℕ) (f : CodedFrame) → o.tracks ≡ news → o ≡ placement ts s i f → IfSome (slice_get ts i) IsCountable → bytes_in ts < 2 ^ 62 → pos 0 ≤ℤ s.window_start → pos 0 ≤ℤ f.dur → IsFirm ts news
firm_left news o ts s i f own is few small low lasts = subst (λ (us : List TrackState). IsFirm ts us) (sym (ap (λ p. p.tracks) is) ∙ own) (firm_of (slice_get ts i) ts s i f refl few small low lasts)

kept_of : (ts us : List TrackState) → IsFirm ts us → AreSoundAndCountable ts → AreSoundAndCountable us
kept_of ts us firm h = record { sound = all_still ts us firm.sound h.sound; counted = firm.counted h.counted; small = firm.small }

-- the window stays
answer_window : (answer : Placed) (w : Timing) → HasSameWindowStart w.settings (settings_after_frame answer w)
answer_window placed_as.Stored w = refl
answer_window (placed_as.Dropped why) w = refl
answer_window placed_as.TimeRange w = refl
answer_window placed_as.Counts w = refl

in_window : (o : Option TrackState) (w : Timing) (f : CodedFrame) (i : ℕ) (ts : List TrackState) → HasSameWindowStart w.settings (placement_in_track o w f i ts).settings
in_window None w f i ts = refl
in_window (Some t) w f i ts = answer_window (answer_by_reason (drop_reason w f.sync t.marks.need_sync)) w

by_window : (o : Option Timing) (s : Settings) (f : CodedFrame) (i : ℕ) (ts : List TrackState) → IfSome o (λ w. HasSameWindowStart s w.settings) → HasSameWindowStart s (placement_by_times o s f i ts).settings
by_window None s f i ts same = refl
by_window (Some w) s f i ts same = in_window (slice_get (map (track_after_reset w) ts) i) w f i (map (track_after_reset w) ts) ∙ same

cond_window : (b : Bool) (s : Settings) (x y : Placement) → HasSameWindowStart s x.settings → HasSameWindowStart s y.settings → HasSameWindowStart s (cond b x y).settings
cond_window true s x y p q = p
cond_window false s x y p q = q

of_window : (o : Option TrackState) (ts : List TrackState) (s : Settings) (i : ℕ) (f : CodedFrame) → HasSameWindowStart s (placement_in o ts s i f).settings
of_window None ts s i f = refl
of_window (Some t) ts s i f = cond_window (is_over_limit t.marks.received (bytes_in ts) (length f.payload)) s _ _ refl (by_window (timing_of s t.marks f) s f i ts (times_window s t.marks f))

placed_window : (ts : List TrackState) (s : Settings) (i : ℕ) (f : CodedFrame) → (placement ts s i f).settings.window_start ≡ s.window_start
placed_window ts s i f = of_window (slice_get ts i) ts s i f

-- the frame of a track that is there
pub timing_here : {S : Type 0} (ts : List (Track S)) (s : Settings) (i : ℕ) (f : CodedFrame) (w : Timing) → i < length ts → IfSome (slice_get ts i) (λ t. Some w ≡ timing_of s t.marks f) → IsTimingOf f w
timing_here ts s i f w low h =
    elim (slice_get_cases ts i).1 [
      | inl found ↦ (let own = rw found.2 at h in subst (λ (o : Option Timing). IfSome o (IsTimingOf f)) (sym own) (timing_is s found.0.marks f))
      | inr past ↦ absurd (omega arith)
    ]

-- ---- the frames end by a time

limit_later : (answer : Placed) (limit group_end : ℤ) → limit ≤ℤ limit_after answer limit group_end
limit_later placed_as.Stored limit group_end = max_left limit group_end
limit_later (placed_as.Dropped why) limit group_end = omega (arith, ints)
limit_later placed_as.TimeRange limit group_end = omega (arith, ints)
limit_later placed_as.Counts limit group_end = omega (arith, ints)

end_set : (limit : ℤ) (ts : List TrackState) (i : ℕ) (u : TrackState) → AreEndedBy limit ts → AreEndedBy limit (u ∷ []) → AreEndedBy limit (set ts i u)
end_set limit [] i u h k = h
end_set limit (t ∷ ts) zero u h k = (k.0, h.1)
end_set limit (t ∷ ts) (suc i) u h k = (h.0, end_set limit ts i u h.1 k)

end_own : (limit : ℤ) (ts : List TrackState) (i : ℕ) (t : TrackState) → slice_get ts i ≡ Some t → AreEndedBy limit ts → AreEndedBy limit (t ∷ [])
end_own limit [] i t e h = absurd cc
end_own limit (u ∷ ts) zero t e h = let same : u ≡ t = cc in (subst (λ (x : TrackState). AllByRecursion (λ f. (f.frame.pts +ℤ f.frame.dur) ≤ℤ limit) x.frames) same h.0, tt)
end_own limit (u ∷ ts) (suc i) t e h = end_own limit ts i t e h.1

end_reset : (limit : ℤ) (w : Timing) (ts : List TrackState) → AreEndedBy limit ts → AreEndedBy limit (map (track_after_reset w) ts)
end_reset limit w [] h = h
end_reset limit w (t ∷ ts) h = (h.0, end_reset limit w ts h.1)

end_in : (o : Option TrackState) (w : Timing) (f : CodedFrame) (i : ℕ) (ts : List TrackState) (limit : ℤ) → slice_get ts i ≡ o → IfSome (slice_get ts i) IsSound → IsTimingOf f w → AreEndedBy limit ts → AreEndedBy (limit_after (placement_in_track o w f i ts).answer limit (placement_in_track o w f i ts).settings.group_end) (placement_in_track o w f i ts).tracks
end_in None w f i ts limit e sound timing h = h
end_in (Some t) w f i ts limit e sound timing h =
    let own = rw e at sound in
    let answer = answer_by_reason (drop_reason w f.sync t.marks.need_sync) in
    let group_end = (settings_after_frame answer w).group_end in
    end_set (limit_after answer limit group_end) ts i (track_after_frame w f t) (ended_later limit (limit_after answer limit group_end) ts (limit_later answer limit group_end) h) (end_put w f limit t own timing (end_own limit ts i t e h).0, tt)

end_at : (w : Timing) (f : CodedFrame) (i : ℕ) (ts : List TrackState) (limit : ℤ) → IfSome (slice_get ts i) IsSound → IsTimingOf f w → AreEndedBy limit ts → AreEndedBy (limit_after (placement_at_times w f i ts).answer limit (placement_at_times w f i ts).settings.group_end) (placement_at_times w f i ts).tracks
end_at w f i ts limit sound timing h = end_in (slice_get (map (track_after_reset w) ts) i) w f i (map (track_after_reset w) ts) limit refl (sound_reset w ts i sound) timing (end_reset limit w ts h)

end_times : (o : Option Timing) (s : Settings) (f : CodedFrame) (i : ℕ) (ts : List TrackState) (limit : ℤ) → IfSome o (IsTimingOf f) → IfSome (slice_get ts i) IsSound → AreEndedBy limit ts → AreEndedBy (limit_after (placement_by_times o s f i ts).answer limit (placement_by_times o s f i ts).settings.group_end) (placement_by_times o s f i ts).tracks
end_times None s f i ts limit timing sound h = h
end_times (Some w) s f i ts limit timing sound h = end_at w f i ts limit sound timing h

-- a placement whose frames end by a time, or by the group end timestamp
abbrev IsPlacementEndedBy : ℤ → Placement → Type 0
IsPlacementEndedBy limit o = AreEndedBy (limit_after o.answer limit o.settings.group_end) o.tracks

end_cond : (limit : ℤ) (b : Bool) (x y : Placement) → IsPlacementEndedBy limit x → IsPlacementEndedBy limit y → IsPlacementEndedBy limit (cond b x y)
end_cond limit true x y p q = p
end_cond limit false x y p q = q

end_of : (o : Option TrackState) (ts : List TrackState) (s : Settings) (i : ℕ) (f : CodedFrame) (limit : ℤ) → IfSome (slice_get ts i) IsSound → AreEndedBy limit ts → IsPlacementEndedBy limit (placement_in o ts s i f)
end_of None ts s i f limit sound h = h
end_of (Some t) ts s i f limit sound h = end_cond limit (is_over_limit t.marks.received (bytes_in ts) (length f.payload)) (new_placement placed_as.Counts ts s) (placement_by_times (timing_of s t.marks f) s f i ts) h (end_times (timing_of s t.marks f) s f i ts limit (timing_is s t.marks f) sound h)

end_placed : (ts : List TrackState) (s : Settings) (i : ℕ) (f : CodedFrame) (limit : ℤ) → IfSome (slice_get ts i) IsSound → AreEndedBy limit ts → IsPlacementEndedBy limit (placement ts s i f)
end_placed ts s i f limit sound h = end_of (slice_get ts i) ts s i f limit sound h

-- the same of a placement that is what the definition leaves
end_left : (answer : Placed) (news : List TrackState) (settings : Settings) (ts : List TrackState) (s : Settings) (i : ℕ) (f : CodedFrame) (limit : ℤ) → new_placement answer news settings ≡ placement ts s i f → IfSome (slice_get ts i) IsSound → AreEndedBy limit ts → AreEndedBy (limit_after answer limit settings.group_end) news
end_left answer news settings ts s i f limit is sound h = subst (λ (o : Placement). IsPlacementEndedBy limit o) (sym is) (end_placed ts s i f limit sound h)

-- ---- all of it

pub placed_by : {S : Type 0} (frames : S → List Stored) (spare : S → ℕ) (gap : S → ℤ) (i : ℕ) (f : CodedFrame) (s : Settings) (old : Room (Track S)) (answer : Placed) (settings : Settings) (new : Room (Track S)) → IsPlaceable frames spare i f s old.items → IfSome (slice_get old.items i) (λ t. false ≡ is_over_limit t.marks.received (bytes_in (states_of frames old.items)) (length f.payload)) → IfSome (slice_get old.items i) (λ t. new_placement answer (states_of frames new.items) settings ≡ placement_by_times (timing_of s t.marks f) s f i (states_of frames old.items)) → AreStoresKept spare gap i old.items new.items → new.spare ≡ old.spare → IsPlaced frames spare gap i f s old answer settings new
placed_by frames spare gap i f s old answer settings new h fits is stores places =
    let ts = states_of frames old.items in
    let placed = placed_counted frames old.items s i f _ h.in_range fits is in
    let firm = firm_left _ _ ts s i f refl placed h.count h.small h.window_start h.dur_not_negative in
    record {
      placement = placed;
      sound = firm.sound;
      small = firm.small;
      sound_and_countable = kept_of ts _ firm;
      window_start = subst (λ (z : ℤ). pos 0 ≤ℤ z) (sym (ap (λ (o : Placement). o.settings.window_start) placed ∙ placed_window ts s i f)) h.window_start;
      ends = λ limit all. end_left _ _ _ ts s i f limit placed h.sound all;
      stores = stores;
      places = places;
    }
