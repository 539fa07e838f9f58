-- The ticks that lists of ranges share, as one list.
use Rattle.std.proofs.Common.{◌≡◌, ◌≢◌, ◌∙◌, ℤ, ◌≤◌, ◌≤ℤ◌, ◌<ℤ◌, int_lt, Bool, true, false, cond, ◌&&◌, ◌||◌, List, [], ◌∷◌, ◌++◌, Some, None, option_to_list, length, fold, flat_map, refl, sym, ap, subst, arith}
use Rattle.std.specs.Int.{int_min, int_max}
use Rattle.std.specs.List.{AllByRecursion, list_all}
use Rattle.std.proofs.lemmas.Int.{ints}
use Rattle.std.proofs.lemmas.List.Sums.{fold-append}
use Rattle.mse_base.specs.declared.span.Span.{Span}
use Rattle.mse_base.specs.Spans.{has_tick, has_tick_in, IsFirstStartAfter, IsNormalized, IsIntersection}
use Rattle.mse_base.specs.Meets.{has_shared_tick, overlap, meet, meet_of_all}
use Rattle.mse_base.proofs.Sets.{covers-append}
use Rattle.mse_base.proofs.Neighbours.{one_met}

pub later_than : (e : ℤ) (ss : List Span) → IsFirstStartAfter e ss → IsNormalized ss → AllByRecursion (λ q. e <ℤ q.start) ss
later_than e [] h n = tt
later_than e (s ∷ ss) h n = (h, later_than e ss (after_more e s ss h n.0 n.1) n.2)
  where
    after_more : (e : ℤ) (s : Span) (ss : List Span) → e <ℤ s.start → s.start <ℤ s.end → IsFirstStartAfter s.end ss → IsFirstStartAfter e ss
    after_more e s [] h k n = tt
    after_more e s (r ∷ ss) h k n = omega (arith, ints)

starts_first : (e : ℤ) (ss : List Span) → AllByRecursion (λ q. e <ℤ q.start) ss → IsFirstStartAfter e ss
starts_first e [] h = tt
starts_first e (s ∷ ss) h = h.0

starts_append : (e : ℤ) (xs ys : List Span) → IsFirstStartAfter e xs → AllByRecursion (λ q. e <ℤ q.start) ys → IsFirstStartAfter e (xs ++ ys)
starts_append e [] ys h k = starts_first e ys k
starts_append e (x ∷ xs) ys h k = h

all_further : (d e : ℤ) (ss : List Span) → d ≤ℤ e → AllByRecursion (λ q. e <ℤ q.start) ss → AllByRecursion (λ q. d <ℤ q.start) ss
all_further d e [] le h = tt
all_further d e (s ∷ ss) le h = (let low = h.0 in omega (arith, ints), all_further d e ss le h.1)

-- one list after another that begins where the first has ended
pub normalized-append : (e : ℤ) (xs ys : List Span) → IsNormalized xs → IsNormalized ys → AllByRecursion (λ s. s.end ≤ℤ e) xs → AllByRecursion (λ q. e <ℤ q.start) ys → IsNormalized (xs ++ ys)
normalized-append e [] ys n m ends starts = m
normalized-append e (x ∷ xs) ys n m ends starts = (n.0, starts_append x.end xs ys n.1 (all_further x.end e ys ends.0 starts), normalized-append e xs ys n.2 m ends.1 starts)

abbrev both : Span → Span → Span
both x y = record { start = int_max x.start y.start; end = int_min x.end y.end }

covers-overlap : (x y : Span) (t : ℤ) → has_tick_in (overlap x y) t ≡ (has_tick x t && has_tick y t)
covers-overlap x y t = grind (arith, ints)

and_none : (a : Bool) → (a && false) ≡ false
and_none true = refl
and_none false = refl

and_spread : (a b c : Bool) → ((a && b) || (a && c)) ≡ (a && (b || c))
and_spread true b c = refl
and_spread false b c = refl

-- the ticks of one span in a list
abbrev parts : Span → List Span → List Span
parts x ys = flat_map (λ y. overlap x y) ys

covers-parts : (x : Span) (ys : List Span) (t : ℤ) → has_tick_in (parts x ys) t ≡ (has_tick x t && has_tick_in ys t)
covers-parts x [] t = sym (and_none (has_tick x t))
covers-parts x (y ∷ ys) t =
    covers-append (overlap x y) (parts x ys) t
    ∙ ap (λ b. b || has_tick_in (parts x ys) t) (covers-overlap x y t)
    ∙ ap (λ b. (has_tick x t && has_tick y t) || b) (covers-parts x ys t)
    ∙ and_spread (has_tick x t) (has_tick y t) (has_tick_in ys t)

or_spread : (a b c : Bool) → ((a && c) || (b && c)) ≡ ((a || b) && c)
or_spread true true true = refl
or_spread true true false = refl
or_spread true false true = refl
or_spread true false false = refl
or_spread false b c = refl

pub covers-meet : (xs ys : List Span) (t : ℤ) → has_tick_in (meet xs ys) t ≡ (has_tick_in xs t && has_tick_in ys t)
covers-meet [] ys t = refl
covers-meet (x ∷ xs) ys t =
    covers-append (parts x ys) (meet xs ys) t
    ∙ ap (λ b. b || has_tick_in (meet xs ys) t) (covers-parts x ys t)
    ∙ ap (λ b. (has_tick x t && has_tick_in ys t) || b) (covers-meet xs ys t)
    ∙ or_spread (has_tick x t) (has_tick_in xs t) (has_tick_in ys t)

-- where the spans of a part begin and end
overlap_normalized : (x y : Span) (b : Bool) → int_lt (int_max x.start y.start) (int_min x.end y.end) ≡ b → IsNormalized (option_to_list (cond b (Some (both x y)) None))
overlap_normalized x y true e = (grind (arith, ints), tt, tt)
overlap_normalized x y false e = tt

overlap_ends : (x y : Span) (e : ℤ) (b : Bool) → int_min x.end y.end ≤ℤ e → AllByRecursion (λ s. s.end ≤ℤ e) (option_to_list (cond b (Some (both x y)) None))
overlap_ends x y e true h = (h, tt)
overlap_ends x y e false h = tt

overlap_starts : (x y : Span) (e : ℤ) (b : Bool) → e <ℤ int_max x.start y.start → AllByRecursion (λ s. e <ℤ s.start) (option_to_list (cond b (Some (both x y)) None))
overlap_starts x y e true h = (h, tt)
overlap_starts x y e false h = tt

lesser_left : (a b : ℤ) → int_min a b ≤ℤ a
lesser_left a b = grind (arith, ints)

lesser_right : (a b : ℤ) → int_min a b ≤ℤ b
lesser_right a b = grind (arith, ints)

greater_left : (e a b : ℤ) → e <ℤ a → e <ℤ int_max a b
greater_left e a b h = grind (arith, ints)

greater_right : (e a b : ℤ) → e <ℤ b → e <ℤ int_max a b
greater_right e a b h = grind (arith, ints)

all-append : (P : Span → Type 0) (xs ys : List Span) → AllByRecursion P xs → AllByRecursion P ys → AllByRecursion P (xs ++ ys)
all-append P [] ys h k = k
all-append P (x ∷ xs) ys h k = (h.0, all-append P xs ys h.1 k)

parts_ends : (x : Span) (ys : List Span) → AllByRecursion (λ s. s.end ≤ℤ x.end) (parts x ys)
parts_ends x [] = tt
parts_ends x (y ∷ ys) = all-append (λ s. s.end ≤ℤ x.end) (overlap x y) (parts x ys) (overlap_ends x y x.end (has_shared_tick x y) (lesser_left x.end y.end)) (parts_ends x ys)

parts_begin : (x : Span) (e : ℤ) (ys : List Span) → e <ℤ x.start → AllByRecursion (λ s. e <ℤ s.start) (parts x ys)
parts_begin x e [] h = tt
parts_begin x e (y ∷ ys) h = all-append (λ s. e <ℤ s.start) (overlap x y) (parts x ys) (overlap_starts x y e (has_shared_tick x y) (greater_left e x.start y.start h)) (parts_begin x e ys h)

parts_after : (x : Span) (e : ℤ) (ys : List Span) → AllByRecursion (λ q. e <ℤ q.start) ys → AllByRecursion (λ s. e <ℤ s.start) (parts x ys)
parts_after x e [] h = tt
parts_after x e (y ∷ ys) h = all-append (λ s. e <ℤ s.start) (overlap x y) (parts x ys) (overlap_starts x y e (has_shared_tick x y) (greater_right e x.start y.start h.0)) (parts_after x e ys h.1)

parts_normalized : (x : Span) (ys : List Span) → IsNormalized ys → IsNormalized (parts x ys)
parts_normalized x [] n = tt
parts_normalized x (y ∷ ys) n =
    normalized-append y.end (overlap x y) (parts x ys) (overlap_normalized x y (has_shared_tick x y) refl) (parts_normalized x ys n.2)
    (overlap_ends x y y.end (has_shared_tick x y) (lesser_right x.end y.end)) (parts_after x y.end ys (later_than y.end ys n.1 n.2))

meet_after : (e : ℤ) (xs ys : List Span) → AllByRecursion (λ q. e <ℤ q.start) xs → AllByRecursion (λ s. e <ℤ s.start) (meet xs ys)
meet_after e [] ys h = tt
meet_after e (x ∷ xs) ys h = all-append (λ s. e <ℤ s.start) (parts x ys) (meet xs ys) (parts_begin x e ys h.0) (meet_after e xs ys h.1)

pub meet_normalized : (xs ys : List Span) → IsNormalized xs → IsNormalized ys → IsNormalized (meet xs ys)
meet_normalized [] ys n m = tt
meet_normalized (x ∷ xs) ys n m = normalized-append x.end (parts x ys) (meet xs ys) (parts_normalized x ys m) (meet_normalized xs ys n.2 m) (parts_ends x ys) (meet_after x.end xs ys (later_than x.end xs n.1 n.2))

pub met_meet : (xs ys : List Span) → IsNormalized xs → IsNormalized ys → IsIntersection xs ys (meet xs ys)
met_meet xs ys n m = record { same = covers-meet xs ys; normalized = meet_normalized xs ys n m }

-- what all of some lists share

fold_normalized : (r : List Span) (rs : List (List Span)) → IsNormalized r → AllByRecursion IsNormalized rs → IsNormalized (fold meet r rs)
fold_normalized r [] n h = n
fold_normalized r (q ∷ rs) n h = fold_normalized (meet r q) rs (meet_normalized r q n h.0) h.1

pub all_normalized : (rs : List (List Span)) → AllByRecursion IsNormalized rs → IsNormalized (meet_of_all rs)
all_normalized [] h = tt
all_normalized (r ∷ rs) h = fold_normalized r rs h.0 h.1

and_assoc : (a b c : Bool) → ((a && b) && c) ≡ (a && (b && c))
and_assoc true b c = refl
and_assoc false b c = refl

and_all : (a : Bool) → a ≡ (a && true)
and_all true = refl
and_all false = refl

covers-fold : (r : List Span) (rs : List (List Span)) (t : ℤ) → has_tick_in (fold meet r rs) t ≡ (has_tick_in r t && list_all (λ r. has_tick_in r t) rs)
covers-fold r [] t = and_all (has_tick_in r t)
covers-fold r (q ∷ rs) t = covers-fold (meet r q) rs t ∙ ap (λ b. b && list_all (λ r. has_tick_in r t) rs) (covers-meet r q t) ∙ and_assoc (has_tick_in r t) (has_tick_in q t) (list_all (λ r. has_tick_in r t) rs)

pub covers-all : (rs : List (List Span)) (t : ℤ) → rs ≢ [] → has_tick_in (meet_of_all rs) t ≡ list_all (λ r. has_tick_in r t) rs
covers-all [] t some = absurd (some refl)
covers-all (r ∷ rs) t some = covers-fold r rs t

pub meet_push : (rs : List (List Span)) (x : List Span) → 1 ≤ length rs → meet_of_all (rs ++ x ∷ []) ≡ meet (meet_of_all rs) x
meet_push [] x h = absurd (omega arith)
meet_push (r ∷ rs) x h = fold-append meet r rs (x ∷ [])

pub meet_is : (xs ys met : List Span) → IsNormalized xs → IsNormalized ys → IsIntersection xs ys met → met ≡ meet xs ys
meet_is xs ys met n m h = one_met xs ys met (meet xs ys) h (met_meet xs ys n m)

-- the same of equal lists
pub met_again : (xs ys left right given met : List Span) → left ≡ xs → right ≡ ys → met ≡ given → IsIntersection left right given → IsIntersection xs ys met
met_again xs ys left right given met e f g m = subst (λ (zs : List Span). IsIntersection xs ys zs) (sym g) (subst (λ (zs : List Span). IsIntersection xs zs given) f (subst (λ (zs : List Span). IsIntersection zs right given) e m))
