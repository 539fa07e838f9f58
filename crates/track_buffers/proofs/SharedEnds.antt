-- The last and the first range of the ticks that some lists share.
use Rattle.std.proofs.Common.{◌≡◌, ◌∙◌, ℤ, pos, ◌≤ℤ◌, ◌<ℤ◌, int_lt, true, cond, List, [], ◌∷◌, ◌++◌, map, fold, Option, Some, None, option_map, option_to_list, refl, sym, ap, subst, arith}
use Rattle.std.specs.List.{AllByRecursion, flat_map}
use Rattle.std.specs.Int.{int_max, int_min}
use Rattle.std.proofs.lemmas.Int.{ints}
use Rattle.mse_base.specs.declared.span.Span.{Span}
use Rattle.mse_base.specs.Spans.{IsNormalized, first_of, last_from, last_of}
use Rattle.mse_base.specs.Meets.{overlap, meet, meet_of_all, overlap_span, overlap_of_two, overlap_of_all}
use Rattle.mse_base.specs.Moments.{greatest}
use Rattle.track_buffers.specs.Buffered.{last_ends, with_end, with_common_end}
use Rattle.track_buffers.specs.Extended.{span_up_to, last_up_to_end}
use Rattle.track_buffers.proofs.SharedRanges.{grown_none}
use Rattle.track_buffers.proofs.Durations.{greatest_bounds, greatest_none}
use Rattle.track_buffers.proofs.LastRanges.{last-with_end, last-with_last_end}

-- ---- the last of two lists

last_past : (s : Span) (ss : List Span) (x : Span) → last_of ss ≡ Some x → last_from s ss ≡ Some x
last_past s [] x h = absurd cc
last_past s (r ∷ ss) x h = h

last-append : (xs ys : List Span) (x : Span) → last_of ys ≡ Some x → last_of (xs ++ ys) ≡ Some x
last-append [] ys x h = h
last-append (s ∷ xs) ys x h = last_past s (xs ++ ys) x (last-append xs ys x h)

-- one span and the ranges of a list
abbrev parts : Span → List Span → List Span
parts x ys = flat_map (λ y. overlap x y) ys

overlap_last : (x y s : Span) (rest : List Span) → overlap_span x y ≡ Some s → rest ≡ [] → last_of (overlap x y ++ rest) ≡ Some s
overlap_last x y s rest h none = ap (λ (zs : List Span). last_of (overlap x y ++ zs)) none ∙ ap (λ (zs : List Span). last_of (zs ++ [])) (ap option_to_list h)

last-parts : (x y s : Span) (ys : List Span) → last_of ys ≡ Some y → overlap_span x y ≡ Some s → last_of (parts x ys) ≡ Some s
last-parts x y s [] l h = absurd cc
last-parts x y s (z ∷ []) l h = let same : z ≡ y = cc in overlap_last x z s [] (ap (overlap_span x) same ∙ h) refl
last-parts x y s (z ∷ q ∷ ys) l h = last-append (overlap x z) (parts x (q ∷ ys)) s (last-parts x y s (q ∷ ys) l h)

-- where the last ranges of two lists share a tick, what they share is the last range that the lists share
pub last-meet : (x y s : Span) (xs ys : List Span) → last_of xs ≡ Some x → last_of ys ≡ Some y → overlap_span x y ≡ Some s → last_of (meet xs ys) ≡ Some s
last-meet x y s [] ys l k h = absurd cc
last-meet x y s (z ∷ []) ys l k h =
    let same : z ≡ x = cc in
    ap last_of (parts_end (parts z ys)) ∙ last-parts z y s ys k (ap (λ (w : Span). overlap_span w y) same ∙ h)
  where
    parts_end : (zs : List Span) → zs ++ [] ≡ zs
    parts_end [] = refl
    parts_end (z ∷ zs) = ap (λ (ws : List Span). z ∷ ws) (parts_end zs)
last-meet x y s (z ∷ q ∷ xs) ys l k h = last-append (parts z ys) (meet (q ∷ xs) ys) s (last-meet x y s (q ∷ xs) ys l k h)

-- ---- the last of all

pub none_shared : (os : List (Option Span)) → fold overlap_of_two None os ≡ None
none_shared [] = refl
none_shared (o ∷ os) = none_shared os

two_shared : (r q : List Span) (o p : Option Span) (z : Span) → ((x : Span) → o ≡ Some x → last_of r ≡ Some x) → last_of q ≡ p → overlap_of_two o p ≡ Some z → last_of (meet r q) ≡ Some z
two_shared r q None p z f l e = absurd cc
two_shared r q (Some x) None z f l e = absurd cc
two_shared r q (Some x) (Some y) z f l e = last-meet x y z r q (f x refl) l e

fold_shared : (r : List Span) (rs : List (List Span)) (o : Option Span) (s : Span) → ((x : Span) → o ≡ Some x → last_of r ≡ Some x) → fold overlap_of_two o (map last_of rs) ≡ Some s → last_of (fold meet r rs) ≡ Some s
fold_shared r [] o s f e = f s e
fold_shared r (q ∷ rs) o s f e = fold_shared (meet r q) rs (overlap_of_two o (last_of q)) s (λ z ez. two_shared r q o (last_of q) z f refl ez) e

-- Where the last ranges of all of some lists share a tick, what they share is the last range that all lists share.
pub last-meet_of_all : (rs : List (List Span)) (s : Span) → overlap_of_all (map last_of rs) ≡ Some s → last_of (meet_of_all rs) ≡ Some s
last-meet_of_all [] s e = absurd cc
last-meet_of_all (r ∷ rs) s e = fold_shared r rs (last_of r) s (λ x h. h) e

-- ---- the first of all

first-parts : (x y s : Span) (ys : List Span) → first_of ys ≡ Some y → overlap_span x y ≡ Some s → first_of (parts x ys) ≡ Some s
first-parts x y s [] l h = absurd cc
first-parts x y s (z ∷ ys) l h = let same : z ≡ y = cc in ap (λ (zs : List Span). first_of (zs ++ parts x ys)) (ap option_to_list (ap (overlap_span x) same ∙ h))

first-append : (xs ys : List Span) (s : Span) → first_of xs ≡ Some s → first_of (xs ++ ys) ≡ Some s
first-append [] ys s h = absurd cc
first-append (x ∷ xs) ys s h = h

pub first-meet : (x y s : Span) (xs ys : List Span) → first_of xs ≡ Some x → first_of ys ≡ Some y → overlap_span x y ≡ Some s → first_of (meet xs ys) ≡ Some s
first-meet x y s [] ys l k h = absurd cc
first-meet x y s (z ∷ xs) ys l k h =
    let same : z ≡ x = cc in
    first-append (parts z ys) (meet xs ys) s (first-parts z y s ys k (ap (λ (w : Span). overlap_span w y) same ∙ h))

two_first : (r q : List Span) (o p : Option Span) (z : Span) → ((x : Span) → o ≡ Some x → first_of r ≡ Some x) → first_of q ≡ p → overlap_of_two o p ≡ Some z → first_of (meet r q) ≡ Some z
two_first r q None p z f l e = absurd cc
two_first r q (Some x) None z f l e = absurd cc
two_first r q (Some x) (Some y) z f l e = first-meet x y z r q (f x refl) l e

fold_first : (r : List Span) (rs : List (List Span)) (o : Option Span) (s : Span) → ((x : Span) → o ≡ Some x → first_of r ≡ Some x) → fold overlap_of_two o (map first_of rs) ≡ Some s → first_of (fold meet r rs) ≡ Some s
fold_first r [] o s f e = f s e
fold_first r (q ∷ rs) o s f e = fold_first (meet r q) rs (overlap_of_two o (first_of q)) s (λ z ez. two_first r q o (first_of q) z f refl ez) e

-- Where the first ranges of all of some lists share a tick, what they share is the first range that all lists share.
pub first-meet_of_all : (rs : List (List Span)) (s : Span) → overlap_of_all (map first_of rs) ≡ Some s → first_of (meet_of_all rs) ≡ Some s
first-meet_of_all [] s e = absurd cc
first-meet_of_all (r ∷ rs) s e = fold_first r rs (first_of r) s (λ x h. h) e

-- ---- where all last ranges end at one time

-- the range, if there is one, is not empty and ends at a time
abbrev IsNonEmptyTo : ℤ → Option Span → Type 0
IsNonEmptyTo e None = Unit {0}
IsNonEmptyTo e (Some s) = (s.start <ℤ e) × (s.end ≡ e)

both_start : (x y : Span) (e : ℤ) → x.start <ℤ e → y.start <ℤ e → int_max x.start y.start <ℤ e
both_start x y e h k = grind (arith, ints)

both_end : (x y : Span) (e : ℤ) → x.end ≡ e → y.end ≡ e → int_min x.end y.end ≡ e
both_end x y e h k = grind (arith, ints)

is_less : (a b : ℤ) → a <ℤ b → int_lt a b ≡ true
is_less a b h = grind (arith, ints)

abbrev both : Span → Span → Span
both x y = record { start = int_max x.start y.start; end = int_min x.end y.end }

they_share : (x y : Span) (e : ℤ) → IsNonEmptyTo e (Some x) → IsNonEmptyTo e (Some y) → overlap_span x y ≡ Some (both x y)
they_share x y e h k =
    let last = both_end x y e h.1 k.1 in
    let low : int_max x.start y.start <ℤ int_min x.end y.end = subst (λ (z : ℤ). int_max x.start y.start <ℤ z) (sym last) (both_start x y e h.0 k.0) in
    ap (λ c. cond c (Some (both x y)) None) (is_less (int_max x.start y.start) (int_min x.end y.end) low)

both_ends_at : (x y : Span) (e : ℤ) → IsNonEmptyTo e (Some x) → IsNonEmptyTo e (Some y) → IsNonEmptyTo e (Some (both x y))
both_ends_at x y e h k = (both_start x y e h.0 k.0, both_end x y e h.1 k.1)

two_end_at : (o p : Option Span) (e : ℤ) → IsNonEmptyTo e o → IsNonEmptyTo e p → IsNonEmptyTo e (overlap_of_two o p)
two_end_at None p e h k = tt
two_end_at (Some x) None e h k = tt
two_end_at (Some x) (Some y) e h k = subst (IsNonEmptyTo e) (sym (they_share x y e h k)) (both_ends_at x y e h k)

has_last : (s : Span) (ss : List Span) → last_from s ss ≡ None → ⊥
has_last s [] h = cc
has_last s (r ∷ ss) h = has_last r ss h

no_last : (ss : List Span) → last_of ss ≡ None → ss ≡ []
no_last [] h = refl
no_last (s ∷ ss) h = absurd (has_last s ss h)

meet_none : (xs : List Span) → meet xs [] ≡ []
meet_none [] = refl
meet_none (x ∷ xs) = meet_none xs

last_of_two : (r q : List Span) (o p : Option Span) (e : ℤ) → last_of r ≡ o → last_of q ≡ p → IsNonEmptyTo e o → IsNonEmptyTo e p → last_of (meet r q) ≡ overlap_of_two o p
last_of_two r q None p e l k h i = ap (λ (z : List Span). last_of (meet z q)) (no_last r l)
last_of_two r q (Some x) None e l k h i = ap (λ (z : List Span). last_of (meet r z)) (no_last q k) ∙ ap last_of (meet_none r)
last_of_two r q (Some x) (Some y) e l k h i = last-meet x y (both x y) r q l k (they_share x y e h i) ∙ sym (they_share x y e h i)

fold_ends : (r : List Span) (rs : List (List Span)) (o : Option Span) (e : ℤ) → last_of r ≡ o → IsNonEmptyTo e o → AllByRecursion (λ q. IsNonEmptyTo e (last_of q)) rs → last_of (fold meet r rs) ≡ fold overlap_of_two o (map last_of rs)
fold_ends r [] o e l h i = l
fold_ends r (q ∷ rs) o e l h i = fold_ends (meet r q) rs (overlap_of_two o (last_of q)) e (last_of_two r q o (last_of q) e l refl h i.0) (two_end_at o (last_of q) e h i.0) i.1

last_ending : (rs : List (List Span)) (e : ℤ) → AllByRecursion (λ q. IsNonEmptyTo e (last_of q)) rs → last_of (meet_of_all rs) ≡ overlap_of_all (map last_of rs)
last_ending [] e h = refl
last_ending (r ∷ rs) e h = fold_ends r rs (last_of r) e refl h.0 h.1

-- ---- the common end of an ended source

lasts : (s : Span) (ss : List Span) (last : Span) → IsNormalized (s ∷ ss) → last_from s ss ≡ Some last → last.start <ℤ last.end
lasts s [] last n h = let same : s ≡ last = cc in subst (λ (z : Span). z.start <ℤ z.end) same n.0
lasts s (r ∷ ss) last n h = lasts r ss last n.2 h

pub last_lasts : (ss : List Span) (last : Span) → IsNormalized ss → last_of ss ≡ Some last → last.start <ℤ last.end
last_lasts [] last n h = absurd cc
last_lasts (s ∷ ss) last n h = lasts s ss last n h

grown_end : (a b e : ℤ) → a <ℤ b → b ≤ℤ e → (a <ℤ e) × (int_max b e ≡ e)
grown_end a b e h k = (omega (arith, ints), grind (arith, ints))

-- the ends of a list of ranges are not after a time
abbrev pub IsEndedBy : ℤ → Option Span → Type 0
IsEndedBy e None = Unit {0}
IsEndedBy e (Some s) = s.end ≤ℤ e

ends_there : (ss : List Span) (o : Option Span) (e : ℤ) → IsNormalized ss → last_of ss ≡ o → IsEndedBy e o → IsNonEmptyTo e (option_map (span_up_to e) o)
ends_there ss None e n h k = tt
ends_there ss (Some s) e n h k = grown_end s.start s.end e (last_lasts ss s n h) k

pub split_ends : (e : ℤ) (o : Option Span) (ts : List ℤ) → AllByRecursion (λ t. t ≤ℤ e) (option_to_list (option_map (λ (s : Span). s.end) o) ++ ts) → IsEndedBy e o × AllByRecursion (λ t. t ≤ℤ e) ts
split_ends e None ts h = (tt, h)
split_ends e (Some s) ts h = (h.0, h.1)

each_ends : (rs : List (List Span)) (e : ℤ) → AllByRecursion IsNormalized rs → AllByRecursion (λ t. t ≤ℤ e) (last_ends rs) → AllByRecursion (λ q. IsNonEmptyTo e (last_of q)) (map (with_end (Some e)) rs)
each_ends [] e n h = tt
each_ends (r ∷ rs) e n h =
    let parts = split_ends e (last_of r) (last_ends rs) h in
    (subst (IsNonEmptyTo e) (sym (last-with_last_end e r)) (ends_there r (last_of r) e n.0 refl parts.0), each_ends rs e n.1 parts.1)

pub no_end : (o : Option Span) (ts : List ℤ) → option_to_list (option_map (λ (s : Span). s.end) o) ++ ts ≡ [] → (o ≡ None) × (ts ≡ [])
no_end None ts h = (refl, h)
no_end (Some s) ts h = absurd cc

none_ends : (rs : List (List Span)) (e : ℤ) → last_ends rs ≡ [] → AllByRecursion (λ q. IsNonEmptyTo e (last_of q)) rs
none_ends [] e h = tt
none_ends (r ∷ rs) e h =
    let parts = no_end (last_of r) (last_ends rs) h in
    (subst (IsNonEmptyTo e) (sym parts.0) tt, none_ends rs e parts.1)

last_by : (o : Option ℤ) (rs : List (List Span)) → greatest (last_ends rs) ≡ o → AllByRecursion IsNormalized rs → last_of (meet_of_all (map (with_end o) rs)) ≡ overlap_of_all (map last_of (map (with_end o) rs))
last_by None rs h n =
    let ends = none_ends rs (pos 0) (greatest_none (last_ends rs) h) in
    last_ending (map (with_end None) rs) (pos 0) (subst (AllByRecursion (λ q. IsNonEmptyTo (pos 0) (last_of q))) (sym (grown_none rs)) ends)
last_by (Some e) rs h n = last_ending (map (with_end (Some e)) rs) e (each_ends rs e n (greatest_bounds (last_ends rs) e h))

each_last : (o : Option ℤ) (rs : List (List Span)) → map last_of (map (with_end o) rs) ≡ map (λ r. last_up_to_end o (last_of r)) rs
each_last o [] = refl
each_last o (r ∷ rs) =
    ap (λ (x : Option Span). x ∷ map last_of (map (with_end o) rs)) (last-with_end o r)
    ∙ ap (λ (xs : List (Option Span)). last_up_to_end o (last_of r) ∷ xs) (each_last o rs)

-- Where the source is ended, the last range of each list lasts to the highest end of all: so what these ranges share is
-- the last range that all lists share, and there is none exactly where some list has no range.
pub last-common : (rs : List (List Span)) → AllByRecursion IsNormalized rs → last_of (meet_of_all (with_common_end true rs)) ≡ overlap_of_all (map (λ r. last_up_to_end (greatest (last_ends rs)) (last_of r)) rs)
last-common rs n = last_by (greatest (last_ends rs)) rs refl n ∙ ap overlap_of_all (each_last (greatest (last_ends rs)) rs)
