-- Ranges of which the last one lasts to an end, by look-ups in the ranges themselves.
use Rattle.std.proofs.Common.{◌≡◌, ◌∙◌, ℤ, ◌≤ℤ◌, ◌<ℤ◌, int_lt, int_le, Bool, true, false, cond, List, [], ◌∷◌, map, Option, Some, None, option_map, find, refl, sym, ap, arith}
use Rattle.std.specs.List.{AllByRecursion}
use Rattle.std.proofs.lemmas.Int.{ints}
use Rattle.mse_base.specs.declared.span.Span.{Span}
use Rattle.mse_base.specs.Spans.{IsNormalized, reaches, last_from, last_of}
use Rattle.mse_base.specs.Moments.{greatest}
use Rattle.mse_base.specs.Meets.{meet_of_all, overlap_of_all}
use Rattle.mse_base.proofs.RangeAtTime.{find-meet_of_all}
use Rattle.track_buffers.specs.Buffered.{last_ends, with_last_end, with_end, with_common_end}
use Rattle.track_buffers.specs.Extended.{span_up_to, last_up_to_end, if_reaches, held_up_to, held_with_end, common_end}
use Rattle.track_buffers.proofs.SharedRanges.{grown_all, grown_none}
use Rattle.track_buffers.proofs.Lookups.{found_before, last_holds, last_misses, none_holds}

-- ---- the range that holds a time

is_before_start : (t : ℤ) (s : Span) → int_lt t s.start ≡ true → t <ℤ s.start
is_before_start t s h = grind (arith, ints)

not_before_start : (t : ℤ) (s : Span) → int_lt t s.start ≡ false → s.start ≤ℤ t
not_before_start t s h = grind (arith, ints)

starts_by : (t : ℤ) (s : Span) → s.start ≤ℤ t → reaches t s ≡ int_le t s.end
starts_by t s h = grind (arith, ints)

is_up_to : (t e : ℤ) → int_le t e ≡ true → t ≤ℤ e
is_up_to t e h = grind (arith, ints)

is_past : (t e : ℤ) → int_le t e ≡ false → e <ℤ t
is_past t e h = grind (arith, ints)

by_end : (t e : ℤ) (last : Span) (ss : List Span) (b : Bool) → int_le t (span_up_to e last).end ≡ b → IsNormalized ss → last_of ss ≡ Some last → last.start ≤ℤ t → find (reaches t) (with_last_end e ss) ≡ cond b (Some (span_up_to e last)) None
by_end t e last ss true h n l low = sym (last_holds t e last (span_up_to e last) ss n l low refl (is_up_to t (span_up_to e last).end h))
by_end t e last ss false h n l low = sym (last_misses t e last (span_up_to e last) ss n l low refl (is_past t (span_up_to e last).end h))

by_start : (t e : ℤ) (last : Span) (ss : List Span) (b : Bool) → int_lt t last.start ≡ b → IsNormalized ss → last_of ss ≡ Some last → find (reaches t) (with_last_end e ss) ≡ cond b (find (reaches t) ss) (if_reaches t (span_up_to e last))
by_start t e last ss true h n l = sym (found_before t e last ss l (is_before_start t last h))
by_start t e last ss false h n l =
    let low = not_before_start t last h in
    by_end t e last ss (int_le t (span_up_to e last).end) refl n l low
    ∙ ap (λ (c : Bool). cond c (Some (span_up_to e last)) None) (sym (starts_by t (span_up_to e last) low))

by_last : (t e : ℤ) (ss : List Span) (o : Option Span) → last_of ss ≡ o → IsNormalized ss → find (reaches t) (with_last_end e ss) ≡ held_up_to t e o (find (reaches t) ss)
by_last t e ss None l n = sym (none_holds t e ss l)
by_last t e ss (Some last) l n = by_start t e last ss (int_lt t last.start) refl n l

-- The range that holds a time, where the last range lasts to an end: before the last range begins it is the one that
-- held the time, and from there on only the last can.
pub find-with_last_end : (t e : ℤ) (ss : List Span) → IsNormalized ss → find (reaches t) (with_last_end e ss) ≡ held_up_to t e (last_of ss) (find (reaches t) ss)
find-with_last_end t e ss n = by_last t e ss (last_of ss) refl n

-- the same where there is an end, and else the range that held the time
pub find-with_end : (t : ℤ) (o : Option ℤ) (ss : List Span) → IsNormalized ss → find (reaches t) (with_end o ss) ≡ held_with_end t o (last_of ss) (find (reaches t) ss)
find-with_end t None ss n = refl
find-with_end t (Some e) ss n = find-with_last_end t e ss n

-- ---- the last range

past_first : (e : ℤ) (s r : Span) (ss : List Span) → last_from s (with_last_end e (r ∷ ss)) ≡ last_of (with_last_end e (r ∷ ss))
past_first e s r [] = refl
past_first e s r (q ∷ ss) = refl

last-grown : (e : ℤ) (s : Span) (ss : List Span) → last_of (with_last_end e (s ∷ ss)) ≡ option_map (span_up_to e) (last_from s ss)
last-grown e s [] = refl
last-grown e s (r ∷ ss) = past_first e s r ss ∙ last-grown e r ss

-- the last range lasts to the end
pub last-with_last_end : (e : ℤ) (ss : List Span) → last_of (with_last_end e ss) ≡ option_map (span_up_to e) (last_of ss)
last-with_last_end e [] = refl
last-with_last_end e (s ∷ ss) = last-grown e s ss

pub last-with_end : (o : Option ℤ) (ss : List Span) → last_of (with_end o ss) ≡ last_up_to_end o (last_of ss)
last-with_end None ss = refl
last-with_end (Some e) ss = last-with_last_end e ss

-- ---- all of some lists

pub common_is : (ended : Bool) (rs : List (List Span)) → with_common_end ended rs ≡ map (with_end (common_end ended rs)) rs
common_is false rs = sym (grown_none rs)
common_is true rs = refl

pub common_normalized : (ended : Bool) (rs : List (List Span)) → AllByRecursion IsNormalized rs → AllByRecursion IsNormalized (with_common_end ended rs)
common_normalized false rs h = h
common_normalized true rs h = grown_all (greatest (last_ends rs)) rs h

each_held : (t : ℤ) (o : Option ℤ) (rs : List (List Span)) → AllByRecursion IsNormalized rs → map (find (reaches t)) (map (with_end o) rs) ≡ map (λ r. held_with_end t o (last_of r) (find (reaches t) r)) rs
each_held t o [] h = refl
each_held t o (r ∷ rs) h =
    ap (λ (x : Option Span). x ∷ map (find (reaches t)) (map (with_end o) rs)) (find-with_end t o r h.0)
    ∙ ap (λ (xs : List (Option Span)). held_with_end t o (last_of r) (find (reaches t) r) ∷ xs) (each_held t o rs h.1)

-- The range that holds a time of the ticks that all of some lists share, where the last range of each lasts to the
-- common end, is an overlap of look-ups in the lists (HTML, media element's buffered ranges of all buffers; Media
-- Source Extensions, 3.1, buffered of all tracks).
pub find-common : (t : ℤ) (ended : Bool) (rs : List (List Span)) → AllByRecursion IsNormalized rs → find (reaches t) (meet_of_all (with_common_end ended rs)) ≡ overlap_of_all (map (λ r. held_with_end t (common_end ended rs) (last_of r) (find (reaches t) r)) rs)
find-common t ended rs h =
    find-meet_of_all t (with_common_end ended rs) (common_normalized ended rs h)
    ∙ ap (λ (qs : List (List Span)). overlap_of_all (map (find (reaches t)) qs)) (common_is ended rs)
    ∙ ap overlap_of_all (each_held t (common_end ended rs) rs h)
