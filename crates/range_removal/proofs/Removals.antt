-- What a removal keeps of a track buffer, and of all of a source buffer.
use Rattle.std.proofs.Common.{◌≡◌, ◌≢◌, ℕ, ℤ, ◌<◌, ◌≤◌, ◌^◌, ◌-◌, ◌+ℤ◌, ◌≤ℤ◌, Bool, true, false, not, cond, ◌&&◌, ◌||◌, List, [], ◌∷◌, map, Option, Some, None, refl, sym, ap, ◌∙◌, subst, arith}
use Rattle.std.specs.Option.{IfSome}
use Rattle.std.specs.List.{AllByRecursion}
use Rattle.std.proofs.lemmas.List.Sums.{sum_by-cons}
use Rattle.mse_base.specs.declared.ticks.Moment.{Moment}
use Rattle.track_store.specs.declared.store.Stored.{Stored}
use Rattle.track_store.specs.declared.tracks.Marks.{Marks}
use Rattle.track_store.specs.Frames.{IsAscending, frames_without, frames_left, bytes_of}
use Rattle.track_store.specs.Kept.{bytes_in, IsCountable, AreSoundAndCountable, AreEndedBy, AreStillSound}
use Rattle.track_store.specs.Sound.{IsSound, IsSuccessor, AreTogether, last_serial}
use Rattle.track_store.specs.State.{TrackState, unset_marks}
use Rattle.track_store.proofs.ClearedLists.{is_frame_gone, each-cleared, ascending-cleared, used-cleared}
use Rattle.track_store.proofs.Soundness.{chained-cleared}
use Rattle.track_store.proofs.StillSound.{still_map}
use Rattle.track_store.specs.Frames.{is_between}
use Rattle.range_removal.specs.Removal.{is_last_removed, remove_end, track_without, track_after_removal, tracks_after_removal}
use Rattle.range_removal.proofs.Ends.{last_stays, same_serial, other_serial}

-- ---- which frames are named

or_left : (a b : Bool) → (a || b) ≡ false → a ≡ false
or_left true b h = h
or_left false b h = refl

unnamed-step : (named : Stored → Bool) (f : Stored) (gone : Bool) (xs ys : List Stored) (b : Bool) → is_frame_gone named gone f ≡ b → AllByRecursion (λ g. named g ≡ false) xs → AllByRecursion (λ g. named g ≡ false) ys → AllByRecursion (λ g. named g ≡ false) (cond b xs (f ∷ ys))
unnamed-step named f gone xs ys true e p q = p
unnamed-step named f gone xs ys false e p q = (or_left (named f) (gone && not f.frame.sync) e, q)

-- no frame that stays is named
pub unnamed-cleared : (named : Stored → Bool) (gone : Bool) (fs : List Stored) → AllByRecursion (λ f. named f ≡ false) (frames_left gone named fs)
unnamed-cleared named gone [] = tt
unnamed-cleared named gone (f ∷ fs) = unnamed-step named f gone _ _ (is_frame_gone named gone f) refl (unnamed-cleared named true fs) (unnamed-cleared named false fs)

-- ---- one track

together_of : (b : Bool) (m : Marks) → AreTogether m.last_decode m.last_duration m.highest_end m.group_first m.need_sync → AreTogether (cond b (unset_marks m) m).last_decode (cond b (unset_marks m) m).last_duration (cond b (unset_marks m) m).highest_end (cond b (unset_marks m) m).group_first (cond b (unset_marks m) m).need_sync
together_of true m h = refl
together_of false m h = h

received_of : (P : ℕ → Type 0) (b : Bool) (m : Marks) → P m.received → P (cond b (unset_marks m) m).received
received_of P true m h = h
received_of P false m h = h

first_of : (P : ℕ → ℕ → Type 0) (b : Bool) (m : Marks) → IfSome m.group_first (λ n. P n m.received) → IfSome (cond b (unset_marks m) m).group_first (λ n. P n (cond b (unset_marks m) m).received)
first_of P true m h = tt
first_of P false m h = h

follows_of : (named : Stored → Bool) (fs : List Stored) (b : Bool) (m : Marks) → is_last_removed named fs ≡ b → (m.need_sync ≡ false → IsSuccessor (last_serial None fs) m.received) → (cond b (unset_marks m) m).need_sync ≡ false → IsSuccessor (last_serial None (frames_without named fs)) (cond b (unset_marks m) m).received
follows_of named fs true m e h none = absurd cc
follows_of named fs false m e h none = subst (λ o. IsSuccessor o m.received) (sym (last_stays named false None None fs e (λ _. refl))) (h none)

if_some : (o : Option ℕ) (P Q : ℕ → Type 0) → ((n : ℕ) → P n → Q n) → IfSome o P → IfSome o Q
if_some None P Q f h = h
if_some (Some n) P Q f h = f n h

pub sound_without : (named : Stored → Bool) (t : TrackState) → IsSound t → IsSound (track_without named t)
sound_without named t h =
    let b = is_last_removed named t.frames in
    let m = t.marks in
    let fs = t.frames in
    record {
      chained = chained-cleared named false None None fs (λ _. refl) h.chained;
      ascending = ascending-cleared false named fs h.ascending;
      below = received_of (λ n. AllByRecursion (λ f. f.serial < n) (frames_without named fs)) b m (each-cleared (λ f. f.serial < m.received) false named fs h.below);
      not_negative = each-cleared _ false named fs h.not_negative;
      last_held = follows_of named fs b m refl h.last_held;
      together = together_of b m h.together;
      group_below = first_of (λ n k. n < k) b m h.group_below;
      group_sync = first_of (λ n k. AllByRecursion (λ f. f.serial ≡ n → f.frame.sync ≡ true) (frames_without named fs)) b m (if_some m.group_first (λ n. AllByRecursion (λ f. f.serial ≡ n → f.frame.sync ≡ true) fs) _ (λ n k. each-cleared (λ f. f.serial ≡ n → f.frame.sync ≡ true) false named fs k) h.group_sync);
    }

pub counted_without : (named : Stored → Bool) (t : TrackState) → IsCountable t → IsCountable (track_without named t)
counted_without named t h = received_of (λ n. n ≤ 2 ^ 62) (is_last_removed named t.frames) t.marks h

-- ---- all tracks

pub each-map : {X : Type 0} (P Q : X → Type 0) (f : X → X) (xs : List X) → ((x : X) → P x → Q (f x)) → AllByRecursion P xs → AllByRecursion Q (map f xs)
each-map P Q f [] h all = all
each-map P Q f (x ∷ xs) h all = (h x all.0, each-map P Q f xs h all.1)

pub bytes_removed : (start : ℤ) (end duration : Moment) (ts : List TrackState) → bytes_in (tracks_after_removal start end duration ts) ≤ bytes_in ts
bytes_removed start end duration [] = omega arith
bytes_removed start end duration (t ∷ ts) =
    let own = used-cleared false (is_between start (remove_end end duration t.frames)) t.frames in
    let rest = bytes_removed start end duration ts in
    let before = sum_by-cons (λ (u : TrackState). bytes_of u.frames) t ts in
    let after = sum_by-cons (λ (u : TrackState). bytes_of u.frames) (track_after_removal start end duration t) (tracks_after_removal start end duration ts) in
    omega arith

pub kept_removed : (start : ℤ) (end duration : Moment) (ts : List TrackState) → AreSoundAndCountable ts → AreSoundAndCountable (tracks_after_removal start end duration ts)
kept_removed start end duration ts h = record {
  sound = each-map IsSound IsSound (track_after_removal start end duration) ts (λ t s. sound_without (is_between start (remove_end end duration t.frames)) t s) h.sound;
  counted = each-map IsCountable IsCountable (track_after_removal start end duration) ts (λ t s. counted_without (is_between start (remove_end end duration t.frames)) t s) h.counted;
  small = let less = bytes_removed start end duration ts in let most = h.small in omega arith;
}

pub ends_removed : (start : ℤ) (end duration : Moment) (limit : ℤ) (ts : List TrackState) → AreEndedBy limit ts → AreEndedBy limit (tracks_after_removal start end duration ts)
ends_removed start end duration limit ts h =
    each-map (λ t. AllByRecursion (λ f. (f.frame.pts +ℤ f.frame.dur) ≤ℤ limit) t.frames) (λ t. AllByRecursion (λ f. (f.frame.pts +ℤ f.frame.dur) ≤ℤ limit) t.frames) (track_after_removal start end duration) ts
    (λ t e. each-cleared (λ f. (f.frame.pts +ℤ f.frame.dur) ≤ℤ limit) false (is_between start (remove_end end duration t.frames)) t.frames e) h

pub still_removed : (start : ℤ) (end duration : Moment) (ts : List TrackState) → AreStillSound ts (tracks_after_removal start end duration ts)
still_removed start end duration ts = still_map (track_after_removal start end duration) ts (λ t. sound_without (is_between start (remove_end end duration t.frames)) t)

-- ---- the track after the code has compared the last serials

pub without_same : (named : Stored → Bool) (t : TrackState) (fs : List Stored) → IsAscending t.frames → fs ≡ frames_without named t.frames → last_serial None fs ≡ last_serial None t.frames → record t { frames = fs } ≡ track_without named t
without_same named t fs up left same =
    let stays = same_serial named t.frames up (ap (last_serial None) (sym left) ∙ same) in
    ap (λ gs. record t { frames = gs }) left ∙ ap (λ b. record t { frames = frames_without named t.frames; marks = cond b (unset_marks t.marks) t.marks }) (sym stays)

pub without_other : (named : Stored → Bool) (t : TrackState) (fs : List Stored) (m : Marks) → IsAscending t.frames → fs ≡ frames_without named t.frames → m ≡ unset_marks t.marks → last_serial None fs ≢ last_serial None t.frames → record t { frames = fs; marks = m } ≡ track_without named t
without_other named t fs m up left marks other =
    let goes_too = other_serial named t.frames up (λ same. other (ap (last_serial None) left ∙ same)) in
    ap (λ gs. record t { frames = gs; marks = m }) left ∙ ap (λ k. record t { frames = frames_without named t.frames; marks = k }) marks ∙ ap (λ b. record t { frames = frames_without named t.frames; marks = cond b (unset_marks t.marks) t.marks }) (sym goes_too)
