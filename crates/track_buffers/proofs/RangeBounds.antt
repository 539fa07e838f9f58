-- Within which times the buffered ranges lie.
use Rattle.std.proofs.Common.{◌≡◌, ◌∙◌, ℤ, pos, ◌+ℤ◌, ◌≤ℤ◌, int_lt, Bool, true, false, cond, List, [], ◌∷◌, ◌++◌, map, fold, Option, Some, None, option_map, option_to_list, refl, sym, ap, subst, arith}
use Rattle.std.specs.List.{AllByRecursion, flat_map}
use Rattle.std.specs.Int.{int_max, int_min}
use Rattle.std.proofs.lemmas.Int.{ints}
use Rattle.mse_base.specs.declared.span.Span.{Span}
use Rattle.mse_base.specs.declared.ticks.Moment.TheVariants.{At}
use Rattle.mse_base.specs.Spans.{last_from, last_of}
use Rattle.mse_base.specs.Bridging.{is_empty, is_far_before, span_round, ranges_with_lasting, ranges_with, ranges_with_all}
use Rattle.mse_base.specs.Meets.{overlap, meet, meet_of_all}
use Rattle.mse_base.specs.Moments.{greater_of, greatest}
use Rattle.track_store.specs.declared.store.Stored.{Stored}
use Rattle.track_store.specs.Frames.{interval, intervals, ranges_of}
use Rattle.track_store.specs.Kept.{AreEndedBy}
use Rattle.track_store.specs.Sound.{IsSound, IsNotNegative}
use Rattle.track_store.specs.State.{TrackState}
use Rattle.track_buffers.specs.Media.{Media, AreEndedWithin}
use Rattle.track_buffers.specs.Frames.{highest_end_in}
use Rattle.track_buffers.specs.Buffered.{last_ends, with_last_end, with_end, with_common_end, track_ranges, buffered_of}
use Rattle.track_buffers.specs.Extended.{IsSpanWithin}
use Rattle.track_buffers.proofs.Durations.{highest_bounds, highest_none}
use Rattle.track_buffers.proofs.SharedRanges.{grown_none}
use Rattle.track_buffers.proofs.SharedEnds.{IsEndedBy}

-- ---- ranges of frames

least_stays : (a x y : ℤ) → a ≤ℤ x → a ≤ℤ y → a ≤ℤ int_min x y
least_stays a x y h k = grind (arith, ints)

most_stays : (b x y : ℤ) → x ≤ℤ b → y ≤ℤ b → int_max x y ≤ℤ b
most_stays b x y h k = grind (arith, ints)

round_inside : (a b : ℤ) (s r : Span) → IsSpanWithin a b s → IsSpanWithin a b r → IsSpanWithin a b (span_round s r)
round_inside a b s r h k = (least_stays a s.start r.start h.0 k.0, most_stays b s.end r.end h.1 k.1)

pick_inside : (a b : ℤ) (c d : Bool) (xs ys zs : List Span) → AllByRecursion (IsSpanWithin a b) xs → AllByRecursion (IsSpanWithin a b) ys → AllByRecursion (IsSpanWithin a b) zs → AllByRecursion (IsSpanWithin a b) (cond c xs (cond d ys zs))
pick_inside a b true d xs ys zs h k l = h
pick_inside a b false true xs ys zs h k l = k
pick_inside a b false false xs ys zs h k l = l

lasting_inside : (a b gap : ℤ) (s : Span) (rs : List Span) → IsSpanWithin a b s → AllByRecursion (IsSpanWithin a b) rs → AllByRecursion (IsSpanWithin a b) (ranges_with_lasting gap s rs)
lasting_inside a b gap s [] h k = (h, tt)
lasting_inside a b gap s (r ∷ rs) h k =
    pick_inside a b (is_far_before gap s r) (is_far_before gap r s) (s ∷ r ∷ rs) (r ∷ ranges_with_lasting gap s rs) (ranges_with_lasting gap (span_round s r) rs)
    (h, k) (k.0, lasting_inside a b gap s rs h k.1) (lasting_inside a b gap (span_round s r) rs (round_inside a b s r h k.0) k.1)

one_inside : (a b : ℤ) (c : Bool) (xs ys : List Span) → AllByRecursion (IsSpanWithin a b) xs → AllByRecursion (IsSpanWithin a b) ys → AllByRecursion (IsSpanWithin a b) (cond c xs ys)
one_inside a b true xs ys h k = h
one_inside a b false xs ys h k = k

with_inside : (a b gap : ℤ) (rs : List Span) (s : Span) → AllByRecursion (IsSpanWithin a b) rs → IsSpanWithin a b s → AllByRecursion (IsSpanWithin a b) (ranges_with gap rs s)
with_inside a b gap rs s h k = one_inside a b (is_empty s) rs (ranges_with_lasting gap s rs) h (lasting_inside a b gap s rs k h)

all_inside : (a b gap : ℤ) (rs ss : List Span) → AllByRecursion (IsSpanWithin a b) rs → AllByRecursion (IsSpanWithin a b) ss → AllByRecursion (IsSpanWithin a b) (ranges_with_all gap rs ss)
all_inside a b gap rs [] h k = h
all_inside a b gap rs (s ∷ ss) h k = all_inside a b gap (ranges_with gap rs s) ss (with_inside a b gap rs s h k.0) k.1

each_interval : (a b : ℤ) (fs : List Stored) → AllByRecursion (λ f. IsSpanWithin a b (interval f)) fs → AllByRecursion (IsSpanWithin a b) (intervals fs)
each_interval a b [] h = tt
each_interval a b (f ∷ fs) h = (h.0, each_interval a b fs h.1)

-- each range of a track lies within the times within which all its frames lie
pub ranges_inside : (a b gap : ℤ) (fs : List Stored) → AllByRecursion (λ f. IsSpanWithin a b (interval f)) fs → AllByRecursion (IsSpanWithin a b) (ranges_of gap fs)
ranges_inside a b gap fs h = all_inside a b gap [] (intervals fs) tt (each_interval a b fs h)

-- ---- last ranges that last to a common end

grown_most : (b x y : ℤ) → x ≤ℤ b → y ≤ℤ b → int_max x y ≤ℤ b
grown_most b x y h k = grind (arith, ints)

grown_inside : (a b e : ℤ) (ss : List Span) → e ≤ℤ b → AllByRecursion (IsSpanWithin a b) ss → AllByRecursion (IsSpanWithin a b) (with_last_end e ss)
grown_inside a b e [] le h = tt
grown_inside a b e (s ∷ []) le h = let own = h.0 in ((own.0, grown_most b s.end e own.1 le), tt)
grown_inside a b e (s ∷ r ∷ ss) le h = (h.0, grown_inside a b e (r ∷ ss) le h.1)

each_grown : (a b e : ℤ) (rs : List (List Span)) → e ≤ℤ b → AllByRecursion (AllByRecursion (IsSpanWithin a b)) rs → AllByRecursion (AllByRecursion (IsSpanWithin a b)) (map (with_end (Some e)) rs)
each_grown a b e [] le h = tt
each_grown a b e (r ∷ rs) le h = (grown_inside a b e r le h.0, each_grown a b e rs le h.1)

last_low : (a b : ℤ) (s : Span) (ss : List Span) (last : Span) → AllByRecursion (IsSpanWithin a b) (s ∷ ss) → last_from s ss ≡ Some last → last.end ≤ℤ b
last_low a b s [] last h e = let same : s ≡ last = cc in subst (λ (z : Span). z.end ≤ℤ b) same (h.0).1
last_low a b s (r ∷ ss) last h e = last_low a b r ss last h.1 e

last_by : (a b : ℤ) (ss : List Span) (o : Option Span) → last_of ss ≡ o → AllByRecursion (IsSpanWithin a b) ss → IsEndedBy b o
last_by a b ss None e h = tt
last_by a b [] (Some last) e h = absurd cc
last_by a b (s ∷ ss) (Some last) e h = last_low a b s ss last h e

join_ends : (b : ℤ) (o : Option Span) (ts : List ℤ) → IsEndedBy b o → AllByRecursion (λ t. t ≤ℤ b) ts → AllByRecursion (λ t. t ≤ℤ b) (option_to_list (option_map (λ (s : Span). s.end) o) ++ ts)
join_ends b None ts h k = k
join_ends b (Some s) ts h k = (h, k)

ends_low : (a b : ℤ) (rs : List (List Span)) → AllByRecursion (AllByRecursion (IsSpanWithin a b)) rs → AllByRecursion (λ t. t ≤ℤ b) (last_ends rs)
ends_low a b [] h = tt
ends_low a b (r ∷ rs) h = join_ends b (last_of r) (last_ends rs) (last_by a b r (last_of r) refl h.0) (ends_low a b rs h.1)

fold_low : (s : ℤ) (ts : List ℤ) (b e : ℤ) → s ≤ℤ b → AllByRecursion (λ t. t ≤ℤ b) ts → fold greater_of (Some s) ts ≡ Some e → e ≤ℤ b
fold_low s [] b e le h k = let same : s ≡ e = cc in subst (λ (z : ℤ). z ≤ℤ b) same le
fold_low s (t ∷ ts) b e le h k = fold_low (int_max s t) ts b e (grown_most b s t le h.0) h.1 k

-- the greatest of some times is not after a time that none of them is after
pub greatest_low : (ts : List ℤ) (b e : ℤ) → AllByRecursion (λ t. t ≤ℤ b) ts → greatest ts ≡ Some e → e ≤ℤ b
greatest_low [] b e h k = absurd cc
greatest_low (t ∷ ts) b e h k = fold_low t ts b e h.0 h.1 k

grown_by : (a b : ℤ) (o : Option ℤ) (rs : List (List Span)) → greatest (last_ends rs) ≡ o → AllByRecursion (AllByRecursion (IsSpanWithin a b)) rs → AllByRecursion (AllByRecursion (IsSpanWithin a b)) (map (with_end o) rs)
grown_by a b None rs e h = subst (AllByRecursion (AllByRecursion (IsSpanWithin a b))) (sym (grown_none rs)) h
grown_by a b (Some z) rs e h = each_grown a b z rs (greatest_low (last_ends rs) b z (ends_low a b rs h) e) h

pub common_inside : (a b : ℤ) (ended : Bool) (rs : List (List Span)) → AllByRecursion (AllByRecursion (IsSpanWithin a b)) rs → AllByRecursion (AllByRecursion (IsSpanWithin a b)) (with_common_end ended rs)
common_inside a b false rs h = h
common_inside a b true rs h = grown_by a b (greatest (last_ends rs)) rs refl h

-- ---- what lists share

least_left : (a x y : ℤ) → a ≤ℤ x → a ≤ℤ int_max x y
least_left a x y h = grind (arith, ints)

most_left : (b x y : ℤ) → x ≤ℤ b → int_min x y ≤ℤ b
most_left b x y h = grind (arith, ints)

append_inside : (a b : ℤ) (xs ys : List Span) → AllByRecursion (IsSpanWithin a b) xs → AllByRecursion (IsSpanWithin a b) ys → AllByRecursion (IsSpanWithin a b) (xs ++ ys)
append_inside a b [] ys h k = k
append_inside a b (x ∷ xs) ys h k = (h.0, append_inside a b xs ys h.1 k)

shared_one : (a b : ℤ) (c : Bool) (s : Span) → IsSpanWithin a b s → AllByRecursion (IsSpanWithin a b) (option_to_list (cond c (Some s) None))
shared_one a b true s h = (h, tt)
shared_one a b false s h = tt

overlap_inside : (a b : ℤ) (x y : Span) → IsSpanWithin a b x → AllByRecursion (IsSpanWithin a b) (overlap x y)
overlap_inside a b x y h = shared_one a b (int_lt (int_max x.start y.start) (int_min x.end y.end)) _ (least_left a x.start y.start h.0, most_left b x.end y.end h.1)

parts_inside : (a b : ℤ) (x : Span) (ys : List Span) → IsSpanWithin a b x → AllByRecursion (IsSpanWithin a b) (flat_map (λ y. overlap x y) ys)
parts_inside a b x [] h = tt
parts_inside a b x (y ∷ ys) h = append_inside a b (overlap x y) (flat_map (λ z. overlap x z) ys) (overlap_inside a b x y h) (parts_inside a b x ys h)

pub meet_inside : (a b : ℤ) (xs ys : List Span) → AllByRecursion (IsSpanWithin a b) xs → AllByRecursion (IsSpanWithin a b) (meet xs ys)
meet_inside a b [] ys h = tt
meet_inside a b (x ∷ xs) ys h = append_inside a b (flat_map (λ y. overlap x y) ys) (meet xs ys) (parts_inside a b x ys h.0) (meet_inside a b xs ys h.1)

fold_inside : (a b : ℤ) (r : List Span) (rs : List (List Span)) → AllByRecursion (IsSpanWithin a b) r → AllByRecursion (IsSpanWithin a b) (fold meet r rs)
fold_inside a b r [] h = h
fold_inside a b r (q ∷ rs) h = fold_inside a b (meet r q) rs (meet_inside a b r q h)

pub shared_inside : (a b : ℤ) (rs : List (List Span)) → AllByRecursion (AllByRecursion (IsSpanWithin a b)) rs → AllByRecursion (IsSpanWithin a b) (meet_of_all rs)
shared_inside a b [] h = tt
shared_inside a b (r ∷ rs) h = fold_inside a b r rs h.0

-- ---- the buffered ranges

tracks_inside : (a b gap : ℤ) (ts : List TrackState) → AllByRecursion (λ t. AllByRecursion (λ f. IsSpanWithin a b (interval f)) t.frames) ts → AllByRecursion (AllByRecursion (IsSpanWithin a b)) (map (λ t. ranges_of gap t.frames) ts)
tracks_inside a b gap [] h = tt
tracks_inside a b gap (t ∷ ts) h = (ranges_inside a b gap t.frames h.0, tracks_inside a b gap ts h.1)

-- each buffered range lies within the times within which all frames lie
pub buffered_inside : (a b : ℤ) (ended : Bool) (m : Media) → AllByRecursion (λ t. AllByRecursion (λ f. IsSpanWithin a b (interval f)) t.frames) m.tracks → AllByRecursion (IsSpanWithin a b) (buffered_of ended m)
buffered_inside a b ended m h = shared_inside a b (with_common_end ended (track_ranges m)) (common_inside a b ended (track_ranges m) (tracks_inside a b m.gap m.tracks h))

sound_frames : (e : ℤ) (fs : List Stored) → AllByRecursion IsNotNegative fs → AllByRecursion (λ f. (f.frame.pts +ℤ f.frame.dur) ≤ℤ e) fs → AllByRecursion (λ f. IsSpanWithin (pos 0) e (interval f)) fs
sound_frames e [] h k = tt
sound_frames e (f ∷ fs) h k = (((h.0).0, k.0), sound_frames e fs h.1 k.1)

sound_inside : (e : ℤ) (ts : List TrackState) → AllByRecursion IsSound ts → AreEndedBy e ts → AllByRecursion (λ t. AllByRecursion (λ f. IsSpanWithin (pos 0) e (interval f)) t.frames) ts
sound_inside e [] h k = tt
sound_inside e (t ∷ ts) h k = (sound_frames e t.frames (h.0).not_negative k.0, sound_inside e ts h.1 k.1)

-- Each buffered range of sound tracks begins at or after 0, and ends at or before each time by which all frames end:
-- so also the duration.
pub buffered_within : (e : ℤ) (ended : Bool) (m : Media) → AllByRecursion IsSound m.tracks → AreEndedWithin (At e) m.tracks → AllByRecursion (IsSpanWithin (pos 0) e) (buffered_of ended m)
buffered_within e ended m h k = buffered_inside (pos 0) e ended m (sound_inside e m.tracks h k)

-- each buffered range of sound tracks lies between 0 and the highest end
pub buffered_to_highest : (e : ℤ) (ended : Bool) (m : Media) → AllByRecursion IsSound m.tracks → highest_end_in m ≡ Some e → AllByRecursion (IsSpanWithin (pos 0) e) (buffered_of ended m)
buffered_to_highest e ended m h k = buffered_within e ended m h (highest_bounds m e k)

-- ---- no frames

empty_frames : (gap : ℤ) (fs : List Stored) → fs ≡ [] → ranges_of gap fs ≡ []
empty_frames gap fs e = ap (ranges_of gap) e

empty_ranges : (gap : ℤ) (ts : List TrackState) → AllByRecursion (λ t. t.frames ≡ []) ts → AllByRecursion (λ r. r ≡ []) (map (λ t. ranges_of gap t.frames) ts)
empty_ranges gap [] h = tt
empty_ranges gap (t ∷ ts) h = (empty_frames gap t.frames h.0, empty_ranges gap ts h.1)

end_of_empty : (o : Option ℤ) (r : List Span) → r ≡ [] → with_end o r ≡ []
end_of_empty None r e = e
end_of_empty (Some z) r e = ap (with_last_end z) e

common_empty : (o : Option ℤ) (rs : List (List Span)) → AllByRecursion (λ r. r ≡ []) rs → AllByRecursion (λ r. r ≡ []) (map (with_end o) rs)
common_empty o [] h = tt
common_empty o (r ∷ rs) h = (end_of_empty o r h.0, common_empty o rs h.1)

ended_empty : (ended : Bool) (rs : List (List Span)) → AllByRecursion (λ r. r ≡ []) rs → AllByRecursion (λ r. r ≡ []) (with_common_end ended rs)
ended_empty false rs h = h
ended_empty true rs h = common_empty (greatest (last_ends rs)) rs h

fold_empty : (rs : List (List Span)) → fold meet [] rs ≡ []
fold_empty [] = refl
fold_empty (r ∷ rs) = fold_empty rs

shared_empty : (rs : List (List Span)) → AllByRecursion (λ r. r ≡ []) rs → meet_of_all rs ≡ []
shared_empty [] h = refl
shared_empty (r ∷ rs) h = ap (λ (z : List Span). fold meet z rs) h.0 ∙ fold_empty rs

-- where no track has a frame, nothing is buffered
pub buffered_empty : (ended : Bool) (m : Media) → AllByRecursion (λ t. t.frames ≡ []) m.tracks → buffered_of ended m ≡ []
buffered_empty ended m h = shared_empty (with_common_end ended (track_ranges m)) (ended_empty ended (track_ranges m) (empty_ranges m.gap m.tracks h))

-- where there is no highest end, nothing is buffered
pub buffered_none : (ended : Bool) (m : Media) → highest_end_in m ≡ None → buffered_of ended m ≡ []
buffered_none ended m h = buffered_empty ended m (highest_none m h)
