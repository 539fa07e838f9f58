-- A track buffer stays sound where a frame is put into it or dropped.
use Rattle.std.proofs.Common.{◌^◌, length, ◌≡◌, ◌∙◌, ap, ◌<◌, ◌≤◌, ◌+◌, ◌+ℤ◌, ℕ, ℤ, pos, ◌≤ℤ◌, Bool, true, false, not, cond, ◌&&◌, List, [], ◌∷◌, ◌++◌, refl, sym, subst, inl, inr, ◌⊎◌, arith, Option, Some, None, unwrap_or, int_lt}
use Rattle.std.proofs.lemmas.Int.{ints}
use Rattle.std.proofs.lemmas.List.Sums.{sum_by_push}
use Rattle.std.specs.Option.{IfSome}
use Rattle.std.specs.Int.{int_max}
use Rattle.std.specs.List.{AllByRecursion}
use Rattle.mse_base.specs.declared.frame.CodedFrame.{CodedFrame}
use Rattle.track_store.specs.declared.store.Stored.{Stored}
use Rattle.track_store.specs.declared.tracks.Marks.{Marks}
use Rattle.track_store.specs.Frames.{bytes_of}
use Rattle.track_store.specs.State.{TrackState}
use Rattle.track_store.specs.Kept.{IsCountable}
use Rattle.track_store.specs.Sound.{IsSound, HasPredecessor, IsSuccessor, last_serial, IsNotNegative, AreTogether}
use Rattle.track_store.proofs.ClearedLists.{ascending_push, each-push}
use Rattle.track_store.proofs.Soundness.{predecessor_last, chained_push, last_push}
use Rattle.overlap_rules.specs.Overlap.{track_with_room}
use Rattle.overlap_rules.proofs.Firm.{firm_room, used_room, last_room, end_room}
use Rattle.frame_rules.specs.declared.timing.Timing.{Timing}
use Rattle.frame_rules.specs.declared.answer.Why.{Why}
use Rattle.frame_rules.specs.declared.answer.Why.TheVariants.{Window, NoSync}
use Rattle.frame_rules.specs.Timing.{IsTimingOf}
use Rattle.mse_base.specs.Moments.{is_after}
use Rattle.track_store.proofs.Limits.{later_all, max_left, max_right}
use Rattle.frame_rules.specs.Put.{drop_reason, marks_after, track_after_drop, track_with_frame, stored_frame, track_after_frame, track_by_reason, answer_by_reason}
use Rattle.frame_rules.specs.Place.{limit_after, settings_after_frame}

-- a frame that is not dropped is a random access point where one is needed
needs_sync : (a b n s : Bool) (x y z : Why) → cond a (Some x) (cond b (Some y) (cond (n && not s) (Some z) None)) ≡ None → s ≡ false → n ≡ false
needs_sync true b n s x y z e f = cc
needs_sync false true n s x y z e f = cc
needs_sync false false true true x y z e f = cc
needs_sync false false true false x y z e f = cc
needs_sync false false false s x y z e f = refl

pub may_follow : (w : Timing) (sync : Bool) (t : TrackState) → IsSound t → drop_reason w sync t.marks.need_sync ≡ None → sync ≡ false → HasPredecessor t.marks.received (track_with_room w.pts w.end t).frames
may_follow w sync t h kept none = predecessor_last _ _ (last_room w.pts w.end t h (needs_sync (int_lt w.pts w.settings.window_start) (is_after w.end w.settings.window_end) t.marks.need_sync sync Window Window NoSync kept none))

-- a frame that is not dropped begins in the window
in_window : (b c d : Bool) (x y z : Why) → cond b (Some x) (cond c (Some y) (cond d (Some z) None)) ≡ None → b ≡ false
in_window true c d x y z e = cc
in_window false c d x y z e = refl

not_before : (a p s : ℤ) → pos 0 ≤ℤ s → int_lt p s ≡ false → pos 0 ≤ℤ p
not_before a p s low e = grind (arith, ints)

-- what holds of numbers below n holds below n + 1
below_more_serials : (n : ℕ) (fs : List Stored) → AllByRecursion (λ f. f.serial < n) fs → AllByRecursion (λ f. f.serial < n + 1) fs
below_more_serials n [] h = h
below_more_serials n (f ∷ fs) h = (let low = h.0 in omega arith, below_more_serials n fs h.1)

first_below : (first : Option ℕ) (n : ℕ) → IfSome first (λ k. k < n) → IfSome first (λ k. k < n + 1)
first_below None n h = h
first_below (Some k) n h = omega arith

together_true : (decode duration end : Option ℤ) (first : Option ℕ) (need : Bool) → AreTogether decode duration end first need → AreTogether decode duration end first true
together_true (Some decode) (Some duration) (Some end) (Some first) need h = h
together_true None None None None need h = refl
together_true decode duration end first need h = absurd h

sound_dropped : (t : TrackState) → IsSound t → t.marks.received < 2 ^ 62 → IsSound (track_after_drop t)
sound_dropped t h less = record {
  chained = h.chained;
  ascending = h.ascending;
  below = below_more_serials t.marks.received t.frames h.below;
  not_negative = h.not_negative;
  last_held = λ e. cc;
  together = together_true _ t.marks.last_duration _ _ t.marks.need_sync h.together;
  group_below = first_below t.marks.group_first t.marks.received h.group_below;
  group_sync = h.group_sync;
}

-- the frame of the group's first serial is a random access point
none_yet : (n : ℕ) (fs : List Stored) → AllByRecursion (λ f. f.serial < n) fs → AllByRecursion (λ f. f.serial ≡ n → f.frame.sync ≡ true) fs
none_yet n [] h = h
none_yet n (f ∷ fs) h = ((λ e. absurd (let low = h.0 in omega arith)), none_yet n fs h.1)

group_of : (decode duration end : Option ℤ) (first : Option ℕ) (need : Bool) (n : ℕ) (x : Stored) (fs : List Stored) → AreTogether decode duration end first need → (need ≡ true → x.frame.sync ≡ true) → x.serial ≡ n → AllByRecursion (λ f. f.serial < n) fs → IfSome first (λ k. k < n) → IfSome first (λ k. AllByRecursion (λ f. f.serial ≡ k → f.frame.sync ≡ true) fs) → AllByRecursion (λ f. f.serial ≡ unwrap_or first n → f.frame.sync ≡ true) (fs ++ x ∷ [])
group_of (Some decode) (Some duration) (Some end) (Some first) need n x fs together sync own below low group = each-push (λ f. f.serial ≡ first → f.frame.sync ≡ true) fs x group (λ e. absurd (omega arith))
group_of None None None None need n x fs together sync own below low group = each-push (λ f. f.serial ≡ n → f.frame.sync ≡ true) fs x (none_yet n fs below) (λ e. sync together)
group_of decode duration end first need n x fs together sync own below low group = absurd together

first_low : (first : Option ℕ) (n : ℕ) → IfSome first (λ k. k < n) → unwrap_or first n < n + 1
first_low None n h = omega arith
first_low (Some k) n h = omega arith

need_gives : (need s : Bool) → (s ≡ false → need ≡ false) → need ≡ true → s ≡ true
need_gives need true h e = refl
need_gives need false h e = let none = h refl in cc

sync_or : (b : Bool) (P : Type 0) → (b ≡ false → P) → (b ≡ true) ⊎ P
sync_or true P h = inl refl
sync_or false P h = inr (h refl)

sound_stored : (w : Timing) (f : CodedFrame) (t : TrackState) → IsSound t → t.marks.received < 2 ^ 62 → pos 0 ≤ℤ w.pts → pos 0 ≤ℤ f.dur → IsTimingOf f w → (f.sync ≡ false → t.marks.need_sync ≡ false) → IsSound (track_with_frame w f t)
sound_stored w f t h less begins lasts timing needs =
    let left = (track_with_room w.pts w.end t).frames in
    let n = t.marks.received in
    let x = stored_frame w n f in
    let firm = firm_room w.pts w.end t h in
    record {
      chained = chained_push None left x firm.chained (sync_or f.sync (IsSuccessor (last_serial None left) n) (λ e. last_room w.pts w.end t h (needs e)));
      ascending = ascending_push left x firm.ascending firm.below;
      below = each-push (λ g. g.serial < n + 1) left x (below_more_serials n left firm.below) (omega arith);
      not_negative = each-push IsNotNegative left x firm.not_negative (begins, lasts);
      last_held = λ _. subst (λ o. IsSuccessor o (n + 1)) (sym (last_push None left x)) refl;
      together = tt;
      group_below = first_low t.marks.group_first n h.group_below;
      group_sync = group_of _ t.marks.last_duration _ t.marks.group_first t.marks.need_sync n x left h.together (need_gives t.marks.need_sync f.sync needs) refl firm.below h.group_below firm.group_sync;
    }

sound_by : (why : Option Why) (w : Timing) (f : CodedFrame) (t : TrackState) → IsSound t → t.marks.received < 2 ^ 62 → (why ≡ None → IsSound (track_with_frame w f t)) → IsSound (track_by_reason why w f t)
sound_by (Some why) w f t h less kept = sound_dropped t h less
sound_by None w f t h less kept = kept refl

-- a track stays sound where a frame is put into it
pub sound_put : (w : Timing) (f : CodedFrame) (t : TrackState) → IsSound t → t.marks.received < 2 ^ 62 → pos 0 ≤ℤ w.settings.window_start → pos 0 ≤ℤ f.dur → IsTimingOf f w → IsSound (track_after_frame w f t)
sound_put w f t h less low lasts timing =
    sound_by (drop_reason w f.sync t.marks.need_sync) w f t h less (λ kept. sound_stored w f t h less (not_before w.pts w.pts w.settings.window_start low (in_window _ (is_after w.end w.settings.window_end) (t.marks.need_sync && not f.sync) Window Window NoSync kept)) lasts timing (needs_sync (int_lt w.pts w.settings.window_start) (is_after w.end w.settings.window_end) t.marks.need_sync f.sync Window Window NoSync kept))

used_by : (why : Option Why) (w : Timing) (f : CodedFrame) (t : TrackState) → bytes_of (track_by_reason why w f t).frames ≤ bytes_of t.frames + length f.payload
used_by (Some why) w f t = omega arith
used_by None w f t =
    let room = used_room w.pts w.end t in
    let more = sum_by_push (λ g. length g.frame.payload) (track_with_room w.pts w.end t).frames (stored_frame w t.marks.received f) in
    omega arith

pub used_put : (w : Timing) (f : CodedFrame) (t : TrackState) → bytes_of (track_after_frame w f t).frames ≤ bytes_of t.frames + length f.payload
used_put w f t = used_by (drop_reason w f.sync t.marks.need_sync) w f t

-- all frames of the track end by a time still, or by the group end timestamp after a frame that was stored
abbrev pub AreFramesEndedBy : ℤ → List Stored → Type 0
AreFramesEndedBy limit fs = AllByRecursion (λ f. (f.frame.pts +ℤ f.frame.dur) ≤ℤ limit) fs

end_by : (why : Option Why) (w : Timing) (f : CodedFrame) (limit : ℤ) (t : TrackState) → IsSound t → IsTimingOf f w → AreFramesEndedBy limit t.frames → AreFramesEndedBy (limit_after (answer_by_reason why) limit (settings_after_frame (answer_by_reason why) w).group_end) (track_by_reason why w f t).frames
end_by (Some why) w f limit t h timing low = low
end_by None w f limit t h timing low =
    let group_end = int_max w.settings.group_end w.end in
    let room = later_all limit (int_max limit group_end) (track_with_room w.pts w.end t).frames (max_left limit group_end) (end_room limit w.pts w.end t h low) in
    let right = max_right limit group_end in
    let end = max_right w.settings.group_end w.end in
    let same = timing.0 in
    let own : (w.pts +ℤ f.dur) ≤ℤ int_max limit group_end = omega (arith, ints) in
    each-push (λ g. (g.frame.pts +ℤ g.frame.dur) ≤ℤ int_max limit group_end) (track_with_room w.pts w.end t).frames (stored_frame w t.marks.received f) room own

pub end_put : (w : Timing) (f : CodedFrame) (limit : ℤ) (t : TrackState) → IsSound t → IsTimingOf f w → AreFramesEndedBy limit t.frames → AreFramesEndedBy (limit_after (answer_by_reason (drop_reason w f.sync t.marks.need_sync)) limit (settings_after_frame (answer_by_reason (drop_reason w f.sync t.marks.need_sync)) w).group_end) (track_after_frame w f t).frames
end_put w f limit t h timing low = end_by (drop_reason w f.sync t.marks.need_sync) w f limit t h timing low

-- the track after a frame that is not dropped, step by step
pub stored_is : (w : Timing) (f : CodedFrame) (t u : TrackState) (fs : List Stored) (x : Stored) (m : Marks) → drop_reason w f.sync t.marks.need_sync ≡ None → u ≡ track_with_room w.pts w.end t → fs ≡ u.frames ++ x ∷ [] → x ≡ stored_frame w u.marks.received f → m ≡ marks_after w f.dur u.marks → record u { frames = fs; marks = m } ≡ track_after_frame w f t
stored_is w f t u fs x m kept room frames stored marks =
    ap (λ (gs : List Stored). record u { frames = gs; marks = m }) (frames ∙ ap (λ (y : Stored). u.frames ++ y ∷ []) stored)
    ∙ ap (λ (n : Marks). record u { frames = u.frames ++ stored_frame w u.marks.received f ∷ []; marks = n }) marks
    ∙ ap (λ (v : TrackState). record v { frames = v.frames ++ stored_frame w v.marks.received f ∷ []; marks = marks_after w f.dur v.marks }) room
    ∙ ap (λ (why : Option Why). track_by_reason why w f t) (sym kept)

-- what the track received can still be counted
counted_by : (o : Option Why) (w : Timing) (f : CodedFrame) (t : TrackState) → t.marks.received < 2 ^ 62 → IsCountable (track_by_reason o w f t)
counted_by (Some why) w f t less = omega arith
counted_by None w f t less = omega arith

pub counted_put : (w : Timing) (f : CodedFrame) (t : TrackState) → t.marks.received < 2 ^ 62 → IsCountable (track_after_frame w f t)
counted_put w f t less = counted_by (drop_reason w f.sync t.marks.need_sync) w f t less
