-- The range of a meet that has a time, or ends at it.
use Rattle.std.proofs.Common.{◌≡◌, ◌∙◌, ℤ, ◌≤◌, ◌≤ℤ◌, int_lt, Bool, true, false, cond, ◌&&◌, List, [], ◌∷◌, ◌++◌, length, find, fold, map, flat_map, Option, Some, None, option_to_list, refl, ap, arith}
use Rattle.std.specs.Int.{int_min, int_max}
use Rattle.std.specs.List.{AllByRecursion}
use Rattle.std.specs.Option.{option_or}
use Rattle.std.proofs.lemmas.Int.{ints}
use Rattle.std.proofs.lemmas.List.Folds.{find-append}
use Rattle.std.proofs.lemmas.List.Sums.{fold-append}
use Rattle.mse_base.specs.declared.span.Span.{Span}
use Rattle.mse_base.specs.Spans.{IsNormalized, reaches}
use Rattle.mse_base.specs.Meets.{overlap, meet, meet_of_all, overlap_span, overlap_of_two, overlap_of_all}
use Rattle.mse_base.proofs.RangeLookUps.{starts_late}
use Rattle.mse_base.proofs.SharedTicks.{meet_normalized}

abbrev both : Span → Span → Span
both x y = record { start = int_max x.start y.start; end = int_min x.end y.end }

reaches-both : (t : ℤ) (x y : Span) → reaches t (both x y) ≡ (reaches t x && reaches t y)
reaches-both t x y = grind (arith, ints)

same_either : (c : Bool) (o : Option Span) → o ≡ cond c o o
same_either true o = refl
same_either false o = refl

-- the time is in a span and in another: then in their overlap, if that has a tick
find-overlap_by : (t : ℤ) (x y : Span) (b p q : Bool) → reaches t (both x y) ≡ (p && q) → find (reaches t) (option_to_list (cond b (Some (both x y)) None)) ≡ cond (p && q) (cond b (Some (both x y)) None) None
find-overlap_by t x y false p q e = same_either (p && q) None
find-overlap_by t x y true p q e = ap (λ c. cond c (Some (both x y)) None) e

find-overlap : (t : ℤ) (x y : Span) → find (reaches t) (overlap x y) ≡ cond (reaches t x && reaches t y) (overlap_span x y) None
find-overlap t x y = find-overlap_by t x y (int_lt (int_max x.start y.start) (int_min x.end y.end)) (reaches t x) (reaches t y) (reaches-both t x y)

or_none : (o : Option Span) → option_or o None ≡ o
or_none None = refl
or_none (Some s) = refl

late : (t : ℤ) (y : Span) (ys : List Span) → reaches t y ≡ true → IsNormalized (y ∷ ys) → find (reaches t) ys ≡ None
late t y ys e n = starts_late t y.end ys (ends_late t y e) n.1 n.2
  where
    ends_late : (t : ℤ) (y : Span) → reaches t y ≡ true → t ≤ℤ y.end
    ends_late t y e = grind (arith, ints)

-- one span and the ranges of a list
abbrev parts : Span → List Span → List Span
parts x ys = flat_map (λ y. overlap x y) ys

parts-step : (t : ℤ) (x y : Span) (ys : List Span) (p q : Bool) → reaches t x ≡ p → reaches t y ≡ q → (q ≡ true → find (reaches t) ys ≡ None) → find (reaches t) (parts x ys) ≡ cond p (overlap_of_two (Some x) (find (reaches t) ys)) None → option_or (cond (p && q) (overlap_span x y) None) (find (reaches t) (parts x ys)) ≡ cond p (overlap_of_two (Some x) (cond q (Some y) (find (reaches t) ys))) None
parts-step t x y ys false q e f none rest = rest
parts-step t x y ys true false e f none rest = rest
parts-step t x y ys true true e f none rest = ap (λ o. option_or (overlap_span x y) o) (rest ∙ ap (λ o. overlap_of_two (Some x) o) (none refl)) ∙ or_none (overlap_span x y)

find-parts : (t : ℤ) (x : Span) (ys : List Span) → IsNormalized ys → find (reaches t) (parts x ys) ≡ cond (reaches t x) (overlap_of_two (Some x) (find (reaches t) ys)) None
find-parts t x [] n = same_either (reaches t x) None
find-parts t x (y ∷ ys) n =
    find-append (reaches t) (overlap x y) (parts x ys)
    ∙ ap (λ o. option_or o (find (reaches t) (parts x ys))) (find-overlap t x y)
    ∙ parts-step t x y ys (reaches t x) (reaches t y) refl refl (λ e. late t y ys e n) (find-parts t x ys n.2)

meet-step : (t : ℤ) (x : Span) (xs : List Span) (o m : Option Span) (p : Bool) → (p ≡ true → find (reaches t) xs ≡ None) → m ≡ overlap_of_two (find (reaches t) xs) o → option_or (cond p (overlap_of_two (Some x) o) None) m ≡ overlap_of_two (cond p (Some x) (find (reaches t) xs)) o
meet-step t x xs o m false none rest = rest
meet-step t x xs o m true none rest = ap (λ r. option_or (overlap_of_two (Some x) o) r) (rest ∙ ap (λ r. overlap_of_two r o) (none refl)) ∙ or_none (overlap_of_two (Some x) o)

-- the range of a meet that has a time is the overlap of the two that have it
pub find-meet : (t : ℤ) (xs ys : List Span) → IsNormalized xs → IsNormalized ys → find (reaches t) (meet xs ys) ≡ overlap_of_two (find (reaches t) xs) (find (reaches t) ys)
find-meet t [] ys n m = refl
find-meet t (x ∷ xs) ys n m =
    find-append (reaches t) (parts x ys) (meet xs ys)
    ∙ ap (λ o. option_or o (find (reaches t) (meet xs ys))) (find-parts t x ys m)
    ∙ meet-step t x xs (find (reaches t) ys) (find (reaches t) (meet xs ys)) (reaches t x) (λ e. late t x xs e n) (find-meet t xs ys n.2 m)

find-fold : (t : ℤ) (r : List Span) (rs : List (List Span)) → IsNormalized r → AllByRecursion IsNormalized rs → find (reaches t) (fold meet r rs) ≡ fold overlap_of_two (find (reaches t) r) (map (find (reaches t)) rs)
find-fold t r [] n h = refl
find-fold t r (q ∷ rs) n h =
    find-fold t (meet r q) rs (meet_normalized r q n h.0) h.1
    ∙ ap (λ o. fold overlap_of_two o (map (find (reaches t)) rs)) (find-meet t r q n h.0)

-- the range of the meet of some lists that has a time is the overlap of those that have it
pub find-meet_of_all : (t : ℤ) (rs : List (List Span)) → AllByRecursion IsNormalized rs → find (reaches t) (meet_of_all rs) ≡ overlap_of_all (map (find (reaches t)) rs)
find-meet_of_all t [] h = refl
find-meet_of_all t (r ∷ rs) h = find-fold t r rs h.0 h.1

-- the overlap of one more
pub overlap_push : (os : List (Option Span)) (o : Option Span) → 1 ≤ length os → overlap_of_all (os ++ o ∷ []) ≡ overlap_of_two (overlap_of_all os) o
overlap_push [] o h = absurd (omega arith)
overlap_push (p ∷ os) o h = fold-append overlap_of_two p os (o ∷ [])
