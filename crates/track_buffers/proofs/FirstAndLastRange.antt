-- The first and the last buffered range, by one look-up in each track at a time.
use Rattle.std.proofs.Common.{◌≡◌, ◌∙◌, ℕ, ℤ, pos, ◌+◌, ◌+ℤ◌, ◌<◌, ◌≤◌, ◌<ℤ◌, ◌≤ℤ◌, Bool, true, false, cond, List, [], ◌∷◌, ◌++◌, length, map, take, slice_get, Option, Some, None, option_map, unwrap_or, refl, sym, ap, subst, arith}
use Rattle.std.specs.List.{AllByRecursion, filter, find}
use Rattle.std.specs.Option.{IfSome, option_to_list}
use Rattle.std.specs.Int.{int_gap, int_max}
use Rattle.std.proofs.lemmas.Int.{ints}
use Rattle.std.proofs.lemmas.List.{length-map, map-append}
use Rattle.mse_base.specs.declared.span.Span.{Span}
use Rattle.mse_base.specs.Meets.{meet_of_all, narrowed_of_two, narrowed_of_all}
use Rattle.mse_base.specs.Moments.{greatest}
use Rattle.mse_base.specs.Spans.{IsNormalized, has_end_after, last_from, last_of, has_start_before}
use Rattle.mse_base.proofs.Firsts.{HasNoneBefore, HasNoneFrom, IsFoundAfter, found_in_all, narrowed_push, none_before_all}
use Rattle.mse_base.proofs.Lasts.{IsFoundBefore, none_from_last, none_from_one}
use Rattle.mse_base.proofs.Lasts as lasts
use Rattle.track_store.specs.declared.store.Stored.{Stored}
use Rattle.track_store.specs.declared.tracks.Track.{Track}
use Rattle.track_store.specs.Frames.{interval}
use Rattle.track_store.specs.Kept.{AreSoundAndCountable}
use Rattle.track_store.specs.Sound.{IsNotNegative, IsSound}
use Rattle.track_store.specs.State.{states_of}
use Rattle.track_buffers.specs.Buffered.{last_ends, with_last_end, with_common_end, ranges_in}
use Rattle.track_buffers.specs.Extended.{IsSpanWithin}
use Rattle.track_buffers.proofs.RangeBounds.{common_inside, ranges_inside, shared_inside}
use Rattle.track_buffers.proofs.Durations.{greatest_bounds, greatest_none}
use Rattle.track_buffers.proofs.Ended.{none_shared}
use Rattle.track_buffers.proofs.Loops.{found_at}
use Rattle.track_buffers.proofs.SharedRanges.{grown_none, last_after, lasting_to}

-- ---- one more track

pub narrowed_more : (f : List Span → Option Span) (rs : List (List Span)) (i : ℕ) (held own next : Option Span) → i < length rs → 1 ≤ length (take i rs) → held ≡ narrowed_of_all (map f (take i rs)) → IfSome (slice_get rs i) (λ r. own ≡ f r) → next ≡ narrowed_of_two held own → next ≡ narrowed_of_all (map f (take (i + 1) rs))
narrowed_more f rs i held own next low some so_far h is =
    let at = found_at (λ (r : List Span). own ≡ f r) rs i low h in
    let long : 1 ≤ length (map f (take i rs)) = rw length-map some in
    is ∙ ap (λ (o : Option Span). narrowed_of_two o own) so_far ∙ ap (narrowed_of_two (narrowed_of_all (map f (take i rs)))) at.holds
    ∙ sym (ap (λ (qs : List (List Span)). narrowed_of_all (map f qs)) at.more ∙ ap narrowed_of_all (map-append f (take i rs) (at.x ∷ [])) ∙ narrowed_push (map f (take i rs)) (f at.x) long)

-- ---- a last range that lasts to an end

is_some : (s : Span) (ss : List Span) → last_from s ss ≡ None → ⊥
is_some s [] h = cc
is_some s (r ∷ ss) h = is_some r ss h

-- a range before the last one is found as it is
early_step : (t e : ℤ) (s q x last : Span) (ss : List Span) (b : Bool) → (find (has_end_after t) (q ∷ ss) ≡ Some x → find (has_end_after t) (with_last_end e (q ∷ ss)) ≡ Some x) → cond b (Some s) (find (has_end_after t) (q ∷ ss)) ≡ Some x → cond b (Some s) (find (has_end_after t) (with_last_end e (q ∷ ss))) ≡ Some x
early_step t e s q x last ss true f h = h
early_step t e s q x last ss false f h = f h

early_from : (t e : ℤ) (s x last : Span) (ss : List Span) → last_from s ss ≡ Some last → find (has_end_after t) (s ∷ ss) ≡ Some x → x.start <ℤ last.start → find (has_end_after t) (with_last_end e (s ∷ ss)) ≡ Some x
early_from t e s x last [] l h low = absurd (not_it (has_end_after t s) h)
  where
    not_it : (b : Bool) → cond b (Some s) None ≡ Some x → ⊥
    not_it true k = let same : s ≡ x = cc in let is : s ≡ last = cc in let far : x.start <ℤ x.start = subst (λ (z : Span). x.start <ℤ z.start) (sym is ∙ same) low in omega (arith, ints)
    not_it false k = cc
early_from t e s x last (q ∷ ss) l h low = early_step t e s q x last ss (has_end_after t s) (λ k. early_from t e q x last ss l k low) h

pub found_early : (t e : ℤ) (x last : Span) (ss : List Span) → last_of ss ≡ Some last → find (has_end_after t) ss ≡ Some x → x.start <ℤ last.start → find (has_end_after t) (with_last_end e ss) ≡ Some x
found_early t e x last [] l h low = absurd cc
found_early t e x last (s ∷ ss) l h low = early_from t e s x last ss l h low

-- no range before a time is found
abbrev pub IsNotBefore : ℤ → Option Span → Type 0
IsNotBefore a None = Unit {0}
IsNotBefore a (Some x) = a ≤ℤ x.start

late_step : (t e : ℤ) (s last : Span) (qs : List Span) (ws : List Span) (b : Bool) → s.start <ℤ last.start → IsNotBefore last.start (cond b (Some s) (find (has_end_after t) qs)) → (IsNotBefore last.start (find (has_end_after t) qs) → find (has_end_after t) ws ≡ cond (has_end_after t (lasting_to last e)) (Some (lasting_to last e)) None) → cond b (Some s) (find (has_end_after t) ws) ≡ cond (has_end_after t (lasting_to last e)) (Some (lasting_to last e)) None
late_step t e s last qs ws true far h f = absurd (omega (arith, ints))
late_step t e s last qs ws false far h f = f h

late_from : (t e : ℤ) (s last : Span) (ss : List Span) → IsNormalized (s ∷ ss) → last_from s ss ≡ Some last → IsNotBefore last.start (find (has_end_after t) (s ∷ ss)) → find (has_end_after t) (with_last_end e (s ∷ ss)) ≡ cond (has_end_after t (lasting_to last e)) (Some (lasting_to last e)) None
late_from t e s last [] n l h = let same : s ≡ last = cc in subst (λ (z : Span). find (has_end_after t) (with_last_end e (s ∷ [])) ≡ cond (has_end_after t (lasting_to z e)) (Some (lasting_to z e)) None) same refl
late_from t e s last (q ∷ ss) n l h =
    let long = n.0 in
    let after : s.end <ℤ last.start = last_after s.end q last ss n.1 n.2 l in
    late_step t e s last (q ∷ ss) (with_last_end e (q ∷ ss)) (has_end_after t s) (omega (arith, ints)) h (λ k. late_from t e q last ss n.2 l k)

pub found_late : (t e : ℤ) (last : Span) (ss : List Span) → IsNormalized ss → last_of ss ≡ Some last → IsNotBefore last.start (find (has_end_after t) ss) → find (has_end_after t) (with_last_end e ss) ≡ cond (has_end_after t (lasting_to last e)) (Some (lasting_to last e)) None
found_late t e last [] n l h = absurd cc
found_late t e last (s ∷ ss) n l h = late_from t e s last ss n l h

-- the range that is found, or else the last one: before the last, it is the one that is found
pub found_or_last : (o : Option Span) (x last : Span) → x ≡ unwrap_or o last → x.start <ℤ last.start → o ≡ Some x
found_or_last None x last is low = absurd (let far : last.start <ℤ last.start = subst (λ (z : Span). z.start <ℤ last.start) is low in omega (arith, ints))
found_or_last (Some y) x last is low = ap Some (sym is)

pub not_before_last : (o : Option Span) (x last : Span) → x ≡ unwrap_or o last → last.start ≤ℤ x.start → IsNotBefore last.start o
not_before_last None x last is low = tt
not_before_last (Some y) x last is low = subst (λ (z : Span). last.start ≤ℤ z.start) is low

pub late_found : (t e : ℤ) (last : Span) (ss : List Span) (b : Bool) → IsNormalized ss → last_of ss ≡ Some last → IsNotBefore last.start (find (has_end_after t) ss) → has_end_after t (lasting_to last e) ≡ b → cond b (Some (lasting_to last e)) None ≡ find (has_end_after t) (with_last_end e ss)
late_found t e last ss b n l h is = sym (found_late t e last ss n l h ∙ ap (λ c. cond c (Some (lasting_to last e)) None) is)

pub none_extended : (t e : ℤ) (ss : List Span) → last_of ss ≡ None → None ≡ find (has_end_after t) (with_last_end e ss)
none_extended t e [] l = refl
none_extended t e (s ∷ ss) l = absurd (is_some s ss l)

-- ---- where the look-ups begin

-- the frames of sound tracks lie between 0 and a time
abbrev high : List Stored → ℤ
high [] = pos 0
high (f ∷ fs) = int_max (f.frame.pts +ℤ f.frame.dur) (high fs)

abbrev high_all : {S : Type 0} → (S → List Stored) → List (Track S) → ℤ
high_all frames [] = pos 0
high_all frames (t ∷ ts) = int_max (high (frames t.store)) (high_all frames ts)

left_below : (a b e : ℤ) → int_max a b ≤ℤ e → a ≤ℤ e
left_below a b e h = grind (arith, ints)

right_below : (a b e : ℤ) → int_max a b ≤ℤ e → b ≤ℤ e
right_below a b e h = grind (arith, ints)

itself : (e : ℤ) → e ≤ℤ e
itself e = omega (arith, ints)

frames_within : (e : ℤ) (fs : List Stored) → AllByRecursion IsNotNegative fs → high fs ≤ℤ e → AllByRecursion (λ f. IsSpanWithin (pos 0) e (interval f)) fs
frames_within e [] h k = tt
frames_within e (f ∷ fs) h k = (((h.0).0, left_below (f.frame.pts +ℤ f.frame.dur) (high fs) e k), frames_within e fs h.1 (right_below (f.frame.pts +ℤ f.frame.dur) (high fs) e k))

ranges_within : {S : Type 0} (frames : S → List Stored) (gap : S → ℤ) (e : ℤ) (ts : List (Track S)) → AllByRecursion IsSound (states_of frames ts) → high_all frames ts ≤ℤ e → AllByRecursion (AllByRecursion (IsSpanWithin (pos 0) e)) (ranges_in frames gap ts)
ranges_within frames gap e [] h k = tt
ranges_within frames gap e (t ∷ ts) h k =
    let sound = h.0 in
    (ranges_inside (pos 0) e (gap t.store) (frames t.store) (frames_within e (frames t.store) sound.not_negative (left_below (high (frames t.store)) (high_all frames ts) e k)), ranges_within frames gap e ts h.1 (right_below (high (frames t.store)) (high_all frames ts) e k))

starts_within : (a b : ℤ) (ss : List Span) → AllByRecursion (IsSpanWithin a b) ss → AllByRecursion (λ s. a ≤ℤ s.start) ss
starts_within a b [] h = tt
starts_within a b (s ∷ ss) h = ((h.0).0, starts_within a b ss h.1)

-- nothing that sound tracks share is before 0
pub none_before_zero : {S : Type 0} (frames : S → List Stored) (gap : S → ℤ) (ended : Bool) (ts : List (Track S)) → AreSoundAndCountable (states_of frames ts) → HasNoneBefore (pos 0) (meet_of_all (with_common_end ended (ranges_in frames gap ts)))
none_before_zero frames gap ended ts h =
    let e = high_all frames ts in
    let within = common_inside (pos 0) e ended (ranges_in frames gap ts) (ranges_within frames gap e ts h.sound (itself e)) in
    let shared = shared_inside (pos 0) e (with_common_end ended (ranges_in frames gap ts)) within in
    none_before_all (pos 0) (meet_of_all (with_common_end ended (ranges_in frames gap ts))) (starts_within (pos 0) e (meet_of_all (with_common_end ended (ranges_in frames gap ts))) shared)

first_low : (e : ℤ) (o : Option Span) (ts : List ℤ) (last : Span) → o ≡ Some last → AllByRecursion (λ t. t ≤ℤ e) (option_to_list (option_map (λ (s : Span). s.end) o) ++ ts) → last.end ≤ℤ e
first_low e None ts last is h = absurd cc
first_low e (Some s) ts last is h = let same : s ≡ last = cc in subst (λ (z : Span). z.end ≤ℤ e) same h.0

none_from_by : (e : ℤ) (r : List Span) (rs : List (List Span)) (o : Option Span) → last_of r ≡ o → IsNormalized r → AllByRecursion (λ t. t ≤ℤ e) (last_ends (r ∷ rs)) → HasNoneFrom e r
none_from_by e [] rs o l n h = λ u low. refl
none_from_by e (s ∷ ss) rs None l n h = absurd (is_some s ss l)
none_from_by e (s ∷ ss) rs (Some last) l n h = none_from_last e last (s ∷ ss) n l (first_low e (last_from s ss) (last_ends rs) last l h)

-- nothing that tracks share is behind the highest end of all
pub none_from_highest : (e : ℤ) (rs : List (List Span)) → AllByRecursion IsNormalized rs → greatest (last_ends rs) ≡ Some e → HasNoneFrom e (meet_of_all rs)
none_from_highest e [] n h = λ u low. refl
none_from_highest e (r ∷ rs) n h = none_from_one e r rs (none_from_by e r rs (last_of r) refl n.0 (greatest_bounds (last_ends (r ∷ rs)) e h))

-- where no track has a range, nothing is shared
pub no_last : (rs : List (List Span)) → greatest (last_ends rs) ≡ None → None ≡ last_of (meet_of_all rs)
no_last rs h = sym (ap last_of (ap meet_of_all (sym (grown_none rs)) ∙ none_shared rs (greatest_none (last_ends rs) h)))

-- ---- what a round tells

pub first_round : (t : ℤ) (rs : List (List Span)) (o p : Option Span) → AllByRecursion IsNormalized rs → o ≡ narrowed_of_all (map (find (has_end_after t)) rs) → o ≡ p → IsFoundAfter t p (meet_of_all rs)
first_round t rs o p n h is = subst (λ (q : Option Span). IsFoundAfter t q (meet_of_all rs)) (sym h ∙ is) (found_in_all t rs n)

pub last_round : (t : ℤ) (rs : List (List Span)) (o p : Option Span) → AllByRecursion IsNormalized rs → o ≡ narrowed_of_all (map (λ r. last_of (filter (has_start_before t) r)) rs) → o ≡ p → IsFoundBefore t p (meet_of_all rs)
last_round t rs o p n h is = subst (λ (q : Option Span). IsFoundBefore t q (meet_of_all rs)) (sym h ∙ is) (lasts.found_in_all t rs n)

-- ---- each round comes closer to the end

pub gap_falls_up : (t u e : ℤ) → t <ℤ u → u ≤ℤ e → int_gap u e < int_gap t e
gap_falls_up t u e h k = grind (arith, ints)

pub gap_falls_down : (t u e : ℤ) → u <ℤ t → e ≤ℤ u → int_gap e u < int_gap e t
gap_falls_down t u e h k = grind (arith, ints)
