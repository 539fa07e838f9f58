-- What the element has buffered, and what it can seek to, lies from 0 to the duration.
use Rattle.std.proofs.Common.{◌≡◌, ℕ, zero, suc, ℤ, pos, ◌+ℤ◌, ◌≤ℤ◌, int_lt, int_le, Bool, true, false, cond, ◌&&◌, List, [], ◌∷◌, ◌++◌, map, fold, refl, sym, subst, arith}
use Rattle.std.specs.Prelude.{Option, Some, None, find, flat_map, option_map, option_to_list}
use Rattle.std.specs.Int.{int_min, int_max}
use Rattle.std.specs.List.{AllByRecursion}
use Rattle.std.proofs.lemmas.Int.{ints}
use Rattle.mse_base.specs.declared.span.Span.{Span}
use Rattle.mse_base.specs.declared.ticks.Moment.{Moment}
use Rattle.mse_base.specs.declared.ticks.Moment.TheVariants.{Nan, At, Infinite}
use Rattle.mse_base.specs.Moments.{is_after, greater_of, greatest, greater_with, lesser_with}
use Rattle.mse_base.specs.Bridging.{is_empty, is_far_before, span_round, ranges_with_lasting, ranges_with, ranges_with_all}
use Rattle.mse_base.specs.Meets.{overlap, meet, meet_of_all}
use Rattle.mse_base.specs.Spans.{reaches, last_from, last_of}
use Rattle.track_store.specs.declared.store.Stored.{Stored}
use Rattle.track_store.specs.Frames.{ends, intervals, ranges_of}
use Rattle.track_store.specs.Sound.{IsSound, IsNotNegative}
use Rattle.track_store.specs.State.{TrackState}
use Rattle.track_buffers.specs.Media.{Media, AreEndedWithin}
use Rattle.track_buffers.specs.Frames.{highest_end_in}
use Rattle.track_buffers.specs.Buffered.{last_end, last_ends, with_last_end, with_end, with_common_end, track_ranges, buffered_of}
use Rattle.source_state.specs.Seekable.{seekable_span}
use Rattle.source_buffers.specs.State.{in_slot}
use Rattle.source_buffers.specs.All.{AreSlotsWithin, AreSound, slot_times, highest_end_of_all}
use Rattle.source_buffers.specs.Buffered.{slot_ranges, active_ranges, element_ranges}
use Rattle.element_seek.specs.Inside.{IsSpanInside, HasSpansInside}
use Rattle.mse_engine.specs.Scenes.{SourceView, start_of_first, scene_at}

-- the time is not after the duration, which there is
abbrev IsTimeWithin : Moment → ℤ → Type 0
IsTimeWithin Nan t = ⊥
IsTimeWithin (At d) t = t ≤ℤ d
IsTimeWithin Infinite t = Unit {0}

-- the span neither begins nor ends before 0, and ends within the duration
abbrev IsWithin : Moment → Span → Type 0
IsWithin d s = (pos 0 ≤ℤ s.start) × (pos 0 ≤ℤ s.end) × IsTimeWithin d s.end

abbrev AreWithin : Moment → List Span → Type 0
AreWithin d rs = AllByRecursion (IsWithin d) rs

ends_most : (d : Moment) (a b : ℤ) → IsTimeWithin d a → IsTimeWithin d b → IsTimeWithin d (int_max a b)
ends_most Nan a b h k = h
ends_most (At d) a b h k = grind (arith, ints)
ends_most Infinite a b h k = tt

ends_least : (d : Moment) (a b : ℤ) → IsTimeWithin d a → IsTimeWithin d (int_min a b)
ends_least Nan a b h = h
ends_least (At d) a b h = grind (arith, ints)
ends_least Infinite a b h = tt

most_above : (a b : ℤ) → pos 0 ≤ℤ a → pos 0 ≤ℤ int_max a b
most_above a b h = grind (arith, ints)

least_above : (a b : ℤ) → pos 0 ≤ℤ a → pos 0 ≤ℤ b → pos 0 ≤ℤ int_min a b
least_above a b h k = grind (arith, ints)

-- ---- lists

pub all_append : {X : Type 0} (P : X → Type 0) (xs ys : List X) → AllByRecursion P xs → AllByRecursion P ys → AllByRecursion P (xs ++ ys)
all_append P [] ys h k = k
all_append P (x ∷ xs) ys h k = (h.0, all_append P xs ys h.1 k)

all_by : {X : Type 0} (P : X → Type 0) (b : Bool) (xs ys : List X) → AllByRecursion P xs → AllByRecursion P ys → AllByRecursion P (cond b xs ys)
all_by P true xs ys h k = h
all_by P false xs ys h k = k

pick : {X : Type 0} (P : X → Type 0) (b : Bool) (x y : X) → P x → P y → P (cond b x y)
pick P true x y h k = h
pick P false x y h k = k

-- ---- the ranges of a track

round_within : (d : Moment) (s r : Span) → IsWithin d s → IsWithin d r → IsWithin d (span_round s r)
round_within d s r h k = (
  pick (λ t. pos 0 ≤ℤ t) (int_lt r.start s.start) r.start s.start k.0 h.0,
  pick (λ t. pos 0 ≤ℤ t) (int_lt r.end s.end) s.end r.end h.1 k.1,
  pick (IsTimeWithin d) (int_lt r.end s.end) s.end r.end h.2 k.2,
)

lasting_within : (d : Moment) (gap : ℤ) (s : Span) (rs : List Span) → IsWithin d s → AreWithin d rs → AreWithin d (ranges_with_lasting gap s rs)
lasting_within d gap s [] h k = (h, tt)
lasting_within d gap s (r ∷ rs) h k =
    all_by (IsWithin d) (is_far_before gap s r) (s ∷ r ∷ rs) _ (h, k)
    (all_by (IsWithin d) (is_far_before gap r s) (r ∷ ranges_with_lasting gap s rs) (ranges_with_lasting gap (span_round s r) rs)
    (k.0, lasting_within d gap s rs h k.1)
    (lasting_within d gap (span_round s r) rs (round_within d s r h k.0) k.1))

joined_within : (d : Moment) (gap : ℤ) (rs spans : List Span) → AreWithin d rs → AreWithin d spans → AreWithin d (ranges_with_all gap rs spans)
joined_within d gap rs [] h k = h
joined_within d gap rs (s ∷ ss) h k =
    joined_within d gap (ranges_with gap rs s) ss (all_by (IsWithin d) (is_empty s) rs (ranges_with_lasting gap s rs) h (lasting_within d gap s rs k.0 h)) k.1

frame_above : (a b : ℤ) → pos 0 ≤ℤ a → pos 0 ≤ℤ b → pos 0 ≤ℤ (a +ℤ b)
frame_above a b h k = omega (arith, ints)

frames_at : (d : ℤ) (fs : List Stored) → AllByRecursion IsNotNegative fs → AllByRecursion (λ f. (f.frame.pts +ℤ f.frame.dur) ≤ℤ d) fs → AreWithin (At d) (intervals fs)
frames_at d [] h k = tt
frames_at d (f ∷ fs) h k = ((h.0.0, frame_above f.frame.pts f.frame.dur h.0.0 h.0.1, k.0), frames_at d fs h.1 k.1)

frames_infinite : (fs : List Stored) → AllByRecursion IsNotNegative fs → AreWithin Infinite (intervals fs)
frames_infinite [] h = tt
frames_infinite (f ∷ fs) h = ((h.0.0, frame_above f.frame.pts f.frame.dur h.0.0 h.0.1, tt), frames_infinite fs h.1)

tracks_within : (d : Moment) (gap : ℤ) (ts : List TrackState) → AllByRecursion IsSound ts → AreEndedWithin d ts → AllByRecursion (AreWithin d) (map (λ t. ranges_of gap t.frames) ts)
tracks_within Nan gap [] h k = tt
tracks_within Nan gap (t ∷ ts) h k = (subst (λ (fs : List Stored). AreWithin Nan (ranges_of gap fs)) (sym k.0) tt, tracks_within Nan gap ts h.1 k.1)
tracks_within (At d) gap [] h k = tt
tracks_within (At d) gap (t ∷ ts) h k = (joined_within (At d) gap [] (intervals t.frames) tt (frames_at d t.frames h.0.not_negative k.0), tracks_within (At d) gap ts h.1 k.1)
tracks_within Infinite gap [] h k = tt
tracks_within Infinite gap (t ∷ ts) h k = (joined_within Infinite gap [] (intervals t.frames) tt (frames_infinite t.frames h.0.not_negative), tracks_within Infinite gap ts h.1 tt)

-- ---- the last range lasts longer

last_within : (d : Moment) (s : Span) (rs : List Span) (r : Span) → IsWithin d s → AreWithin d rs → last_from s rs ≡ Some r → IsWithin d r
last_within d s [] r h k e = let same : s ≡ r = cc in subst (λ (x : Span). IsWithin d x) same h
last_within d s (x ∷ xs) r h k e = last_within d x xs r k.0 k.1 e

last_is_within : (d : Moment) (rs : List Span) (r : Span) → AreWithin d rs → last_of rs ≡ Some r → IsWithin d r
last_is_within d [] r h e = absurd (cc)
last_is_within d (s ∷ rs) r h e = last_within d s rs r h.0 h.1 e

end_of : (d : Moment) (o : Option Span) → ((r : Span) → o ≡ Some r → IsWithin d r) → AllByRecursion (IsTimeWithin d) (option_to_list (option_map (λ s. s.end) o))
end_of d None f = tt
end_of d (Some r) f = ((f r refl).2, tt)

all_ends : (d : Moment) (rs : List (List Span)) → AllByRecursion (AreWithin d) rs → AllByRecursion (IsTimeWithin d) (last_ends rs)
all_ends d [] h = tt
all_ends d (r ∷ rs) h =
    all_append (IsTimeWithin d) (option_to_list (last_end r)) (last_ends rs) (end_of d (last_of r) (λ s e. last_is_within d r s h.0 e)) (all_ends d rs h.1)

greatest_from : (P : ℤ → Type 0) (s : ℤ) (ts : List ℤ) (e : ℤ) → ((a b : ℤ) → P a → P b → P (int_max a b)) → P s → AllByRecursion P ts → fold greater_of (Some s) ts ≡ Some e → P e
greatest_from P s [] e f h k is = let same : s ≡ e = cc in subst (λ (x : ℤ). P x) same h
greatest_from P s (t ∷ ts) e f h k is = greatest_from P (int_max s t) ts e f (f s t h k.0) k.1 is

-- what holds of some times, and of the greater of two, holds of the greatest
pub greatest_by : (P : ℤ → Type 0) (ts : List ℤ) (e : ℤ) → ((a b : ℤ) → P a → P b → P (int_max a b)) → AllByRecursion P ts → greatest ts ≡ Some e → P e
greatest_by P [] e f h is = absurd (cc)
greatest_by P (t ∷ ts) e f h is = greatest_from P t ts e f h.0 h.1 is

longer_within : (d : Moment) (e : ℤ) (rs : List Span) → IsTimeWithin d e → AreWithin d rs → AreWithin d (with_last_end e rs)
longer_within d e [] h k = tt
longer_within d e (s ∷ []) h k = ((k.0.0, most_above s.end e k.0.1, ends_most d s.end e k.0.2 h), tt)
longer_within d e (s ∷ r ∷ rs) h k = (k.0, longer_within d e (r ∷ rs) h k.1)

each_longer : (d : Moment) (o : Option ℤ) (rs : List (List Span)) → ((e : ℤ) → o ≡ Some e → IsTimeWithin d e) → AllByRecursion (AreWithin d) rs → AllByRecursion (AreWithin d) (map (with_end o) rs)
each_longer d o [] f h = tt
each_longer d None (r ∷ rs) f h = (h.0, each_longer d None rs f h.1)
each_longer d (Some e) (r ∷ rs) f h = (longer_within d e r (f e refl) h.0, each_longer d (Some e) rs f h.1)

common_within : (d : Moment) (ended : Bool) (rs : List (List Span)) → AllByRecursion (AreWithin d) rs → AllByRecursion (AreWithin d) (with_common_end ended rs)
common_within d false rs h = h
common_within d true rs h = each_longer d (greatest (last_ends rs)) rs (λ e is. greatest_by (IsTimeWithin d) (last_ends rs) e (ends_most d) (all_ends d rs h) is) h

-- ---- the ticks that are shared

shared_within : (d : Moment) (b : Bool) (s : Span) → IsWithin d s → AreWithin d (option_to_list (cond b (Some s) None))
shared_within d true s h = (h, tt)
shared_within d false s h = tt

overlap_within : (d : Moment) (x y : Span) → IsWithin d x → IsWithin d y → AreWithin d (overlap x y)
overlap_within d x y h k =
    shared_within d (int_lt (int_max x.start y.start) (int_min x.end y.end)) _
    (most_above x.start y.start h.0, least_above x.end y.end h.1 k.1, ends_least d x.end y.end h.2)

one_meets : (d : Moment) (x : Span) (ys : List Span) → IsWithin d x → AreWithin d ys → AreWithin d (flat_map (λ y. overlap x y) ys)
one_meets d x [] h k = tt
one_meets d x (y ∷ ys) h k = all_append (IsWithin d) (overlap x y) _ (overlap_within d x y h k.0) (one_meets d x ys h k.1)

meet_within : (d : Moment) (xs ys : List Span) → AreWithin d xs → AreWithin d ys → AreWithin d (meet xs ys)
meet_within d [] ys h k = tt
meet_within d (x ∷ xs) ys h k = all_append (IsWithin d) (flat_map (λ y. overlap x y) ys) _ (one_meets d x ys h.0 k) (meet_within d xs ys h.1 k)

fold_within : (d : Moment) (r : List Span) (rs : List (List Span)) → AreWithin d r → AllByRecursion (AreWithin d) rs → AreWithin d (fold meet r rs)
fold_within d r [] h k = h
fold_within d r (x ∷ xs) h k = fold_within d (meet r x) xs (meet_within d r x h k.0) k.1

all_meet : (d : Moment) (rs : List (List Span)) → AllByRecursion (AreWithin d) rs → AreWithin d (meet_of_all rs)
all_meet d [] h = tt
all_meet d (r ∷ rs) h = fold_within d r rs h.0 h.1

buffer_within : (d : Moment) (ended : Bool) (m : Media) → AllByRecursion IsSound m.tracks → AreEndedWithin d m.tracks → AreWithin d (buffered_of ended m)
buffer_within d ended m h k = all_meet d (with_common_end ended (track_ranges m)) (common_within d ended (track_ranges m) (tracks_within d m.gap m.tracks h k))

slot_within : (d : Moment) (ended : Bool) (k : ℕ) (ms : List (Option Media)) → AreSound ms → AreSlotsWithin d ms → AreWithin d (slot_ranges ended (in_slot k ms))
slot_within d ended k [] h w = tt
slot_within d ended zero (None ∷ ms) h w = tt
slot_within d ended zero (Some m ∷ ms) h w = buffer_within d ended m h.0.0 w.0
slot_within d ended (suc k) (m ∷ ms) h w = slot_within d ended k ms h.1 w.1

active_within : (d : Moment) (ended : Bool) (active : List ℕ) (ms : List (Option Media)) → AreSound ms → AreSlotsWithin d ms → AllByRecursion (AreWithin d) (active_ranges ended active ms)
active_within d ended [] ms h w = tt
active_within d ended (k ∷ ks) ms h w = (slot_within d ended k ms h w, active_within d ended ks ms h w)

ranges_within : (d : Moment) (ended : Bool) (active : List ℕ) (ms : List (Option Media)) → AreSound ms → AreSlotsWithin d ms → AreWithin d (element_ranges ended active ms)
ranges_within d ended active ms h w = all_meet d _ (common_within d ended (active_ranges ended active ms) (active_within d ended active ms h w))

-- ---- the span at a position

not_after_by : (d : Moment) (t : ℤ) → IsTimeWithin d t → is_after t d ≡ false
not_after_by Nan t h = refl
not_after_by (At d) t h = grind (arith, ints)
not_after_by Infinite t h = refl

reached_lasts : (t a b : ℤ) → (int_le a t && int_le t b) ≡ true → a ≤ℤ b
reached_lasts t a b e = grind (arith, ints)

lies_by : (d : Moment) (t : ℤ) (b : Bool) (s : Span) (o : Option Span) → reaches t s ≡ b → IsWithin d s → IsSpanInside d o → IsSpanInside d (cond b (Some s) o)
lies_by d t true s o e h k = (h.0, reached_lasts t s.start s.end e, not_after_by d s.end h.2)
lies_by d t false s o e h k = k

found_lies : (d : Moment) (t : ℤ) (rs : List Span) → AreWithin d rs → IsSpanInside d (find (reaches t) rs)
found_lies d t [] h = tt
found_lies d t (s ∷ rs) h = lies_by d t (reaches t s) s (find (reaches t) rs) refl h.0 (found_lies d t rs h.1)

-- ---- what can be sought

live_start : (first : Option ℤ) (s : ℤ) → ((t : ℤ) → first ≡ Some t → pos 0 ≤ℤ t) → pos 0 ≤ℤ s → pos 0 ≤ℤ lesser_with first s
live_start None s f h = h
live_start (Some t) s f h = least_above t s (f t refl) h

live_lasts : (first last : Option ℤ) (a b : ℤ) → a ≤ℤ b → lesser_with first a ≤ℤ greater_with last b
live_lasts None None a b h = h
live_lasts None (Some t) a b h = grind (arith, ints)
live_lasts (Some s) None a b h = grind (arith, ints)
live_lasts (Some s) (Some t) a b h = grind (arith, ints)

not_negative : (d : ℤ) → is_after (pos 0) (At d) ≡ false → pos 0 ≤ℤ d
not_negative d e = grind (arith, ints)

same_end : (d : ℤ) → is_after d (At d) ≡ false
same_end d = grind (arith, ints)

sought_lies : (d : Moment) (live : Option Span) (first last : Option ℤ) → is_after (pos 0) d ≡ false → IsSpanInside Infinite live
    → ((t : ℤ) → first ≡ Some t → pos 0 ≤ℤ t) → ((t : ℤ) → last ≡ Some t → pos 0 ≤ℤ t) → IsSpanInside d (seekable_span d live first last)
sought_lies Nan live first last h k f g = tt
sought_lies (At d) live first last h k f g = (omega (arith, ints), not_negative d h, same_end d)
sought_lies Infinite (Some live) first last h k f g = (live_start first live.start f k.0, live_lasts first last live.start live.end k.1, refl)
sought_lies Infinite None first (Some last) h k f g = (omega (arith, ints), g last refl, refl)
sought_lies Infinite None first None h k f g = tt

first_above : (d : Moment) (rs : List Span) (t : ℤ) → AreWithin d rs → start_of_first rs ≡ Some t → pos 0 ≤ℤ t
first_above d [] t h e = absurd (cc)
first_above d (s ∷ rs) t h e = let same : s.start ≡ t = cc in subst (λ (x : ℤ). pos 0 ≤ℤ x) same h.0.0

end_above : (d : Moment) (o : Option Span) (t : ℤ) → ((r : Span) → o ≡ Some r → IsWithin d r) → option_map (λ s. s.end) o ≡ Some t → pos 0 ≤ℤ t
end_above d None t f e = absurd (cc)
end_above d (Some r) t f e = let same : r.end ≡ t = cc in subst (λ (x : ℤ). pos 0 ≤ℤ x) same (f r refl).1

last_above : (d : Moment) (rs : List Span) (t : ℤ) → AreWithin d rs → last_end rs ≡ Some t → pos 0 ≤ℤ t
last_above d rs t h e = end_above d (last_of rs) t (λ r is. last_is_within d rs r h is) e

-- ---- the scene

-- where the duration is not negative, the frames end within it, and the live seekable range is one
pub spans-inside : (position : ℤ) (v : SourceView) → AreSound v.media → AreSlotsWithin v.state.duration v.media
    → is_after (pos 0) v.state.duration ≡ false → IsSpanInside Infinite v.state.live → HasSpansInside (scene_at position v)
spans-inside position v sound within lasting live =
    let d : Moment = v.state.duration in
    let rs : List Span = element_ranges _ v.state.active v.media in
    let all : AreWithin d rs = ranges_within d _ v.state.active v.media sound within in
    record {
      span = found_lies d position rs all;
      seekable = sought_lies d v.state.live (start_of_first rs) (last_end rs) lasting live (λ t e. first_above d rs t all e) (λ t e. last_above d rs t all e);
    }

-- ---- the highest end

both_above : (a b : ℤ) → pos 0 ≤ℤ a → pos 0 ≤ℤ b → pos 0 ≤ℤ int_max a b
both_above a b h k = most_above a b h

frame_ends : (fs : List Stored) → AllByRecursion IsNotNegative fs → AllByRecursion (λ t. pos 0 ≤ℤ t) (ends fs)
frame_ends [] h = tt
frame_ends (f ∷ fs) h = (frame_above f.frame.pts f.frame.dur h.0.0 h.0.1, frame_ends fs h.1)

track_ends : (ts : List TrackState) → AllByRecursion IsSound ts → AllByRecursion (λ t. pos 0 ≤ℤ t) (flat_map (λ t. ends t.frames) ts)
track_ends [] h = tt
track_ends (t ∷ ts) h = all_append (λ t. pos 0 ≤ℤ t) (ends t.frames) _ (frame_ends t.frames h.0.not_negative) (track_ends ts h.1)

one_end : (o : Option ℤ) → ((e : ℤ) → o ≡ Some e → pos 0 ≤ℤ e) → AllByRecursion (λ t. pos 0 ≤ℤ t) (option_to_list o)
one_end None f = tt
one_end (Some e) f = (f e refl, tt)

buffer_ends : (ms : List (Option Media)) → AreSound ms → AllByRecursion (λ t. pos 0 ≤ℤ t) (flat_map (slot_times highest_end_in) ms)
buffer_ends [] h = tt
buffer_ends (None ∷ ms) h = buffer_ends ms h.1
buffer_ends (Some m ∷ ms) h =
    all_append (λ t. pos 0 ≤ℤ t) (option_to_list (highest_end_in m)) _
    (one_end (highest_end_in m) (λ e is. greatest_by (λ t. pos 0 ≤ℤ t) (flat_map (λ t. ends t.frames) m.tracks) e both_above (track_ends m.tracks h.0.0) is)) (buffer_ends ms h.1)

-- the highest end of all buffers is not negative
pub highest-above : (ms : List (Option Media)) (e : ℤ) → AreSound ms → highest_end_of_all ms ≡ Some e → pos 0 ≤ℤ e
highest-above ms e h is = greatest_by (λ t. pos 0 ≤ℤ t) (flat_map (slot_times highest_end_in) ms) e both_above (buffer_ends ms h) is
