-- The first range of the ticks that some lists share, by the first range of each list that ends after a time.
use Rattle.std.proofs.Common.{◌≡◌, ◌∙◌, ℤ, ◌≤◌, ◌≤ℤ◌, ◌<ℤ◌, ◌⊎◌, inl, inr, Bool, true, false, cond, ◌&&◌, ◌||◌, List, [], ◌∷◌, ◌++◌, length, find, fold, map, Option, Some, None, refl, sym, ap, subst, arith}
use Rattle.std.specs.Int.{int_min, int_max}
use Rattle.std.specs.List.{AllByRecursion}
use Rattle.std.proofs.lemmas.Int.{ints}
use Rattle.std.proofs.lemmas.List.Sums.{fold-append}
use Rattle.mse_base.specs.declared.span.Span.{Span}
use Rattle.mse_base.specs.Spans.{has_tick, has_tick_in, IsNormalized, first_of, has_end_after}
use Rattle.mse_base.specs.Meets.{meet, meet_of_all, narrowed_span, narrowed_of_two, narrowed_of_all}
use Rattle.mse_base.proofs.SharedTicks.{covers-meet}
use Rattle.mse_base.proofs.Unique.{at_end, before_all, inner, pick, same_span, starts_in}

-- ---- ticks of one span more

pub past : (s : Span) (u : ℤ) (b : Bool) → s.end ≤ℤ u → (has_tick s u || b) ≡ b
past s u b h = grind (arith, ints)

pub either_has : (b : Bool) (c : Bool) → c ≡ true → (b || c) ≡ true
either_has true c h = refl
either_has false c h = h

-- ---- the first range

-- no tick before a time is in the list
abbrev pub HasNoneBefore : ℤ → List Span → Type 0
HasNoneBefore t m = (u : ℤ) → u <ℤ t → has_tick_in m u ≡ false

-- no tick from a time on is in the list
abbrev pub HasNoneFrom : ℤ → List Span → Type 0
HasNoneFrom t m = (u : ℤ) → t ≤ℤ u → has_tick_in m u ≡ false

-- a span that ends after a time: the list has its ticks, none from the time up to it, and not the tick at its end
pub record IsFirstAfter (t : ℤ) (c : Span) (m : List Span) : Type 0 where
  pub late : t <ℤ c.end
  pub before : (u : ℤ) → t ≤ℤ u → u <ℤ c.start → has_tick_in m u ≡ false
  pub within : (u : ℤ) → c.start ≤ℤ u → u <ℤ c.end → has_tick_in m u ≡ true
  pub behind : has_tick_in m c.end ≡ false

-- the same of a span that may be missing: then the list has no tick from the time on
abbrev pub IsFoundAfter : ℤ → Option Span → List Span → Type 0
IsFoundAfter t None m = HasNoneFrom t m
IsFoundAfter t (Some c) m = IsFirstAfter t c m

ends_by : (t : ℤ) (s : Span) → has_end_after t s ≡ false → s.end ≤ℤ t
ends_by t s h = grind (arith, ints)

ends_late : (t : ℤ) (s : Span) → has_end_after t s ≡ true → t <ℤ s.end
ends_late t s h = grind (arith, ints)

-- behind a span that ends by the time
skipped : (t : ℤ) (s : Span) (ss : List Span) (o : Option Span) → s.end ≤ℤ t → IsFoundAfter t o ss → IsFoundAfter t o (s ∷ ss)
skipped t s ss None h k = λ u low. past s u (has_tick_in ss u) (omega (arith, ints)) ∙ k u low
skipped t s ss (Some c) h k =
    let far = k.late in
    record {
      late = k.late;
      before = λ u low high. past s u (has_tick_in ss u) (omega (arith, ints)) ∙ k.before u low high;
      within = λ u low high. either_has (has_tick s u) (has_tick_in ss u) (k.within u low high);
      behind = past s c.end (has_tick_in ss c.end) (omega (arith, ints)) ∙ k.behind;
    }

here : (t : ℤ) (s : Span) (ss : List Span) → IsNormalized (s ∷ ss) → t <ℤ s.end → IsFirstAfter t s (s ∷ ss)
here t s ss n h = record {
  late = h;
  before = λ u low high. before_all s ss u n high;
  within = λ u low high. inner s u (has_tick_in ss u) low high;
  behind = at_end s ss n;
}

found_by : (t : ℤ) (s : Span) (ss : List Span) (b : Bool) → has_end_after t s ≡ b → IsNormalized (s ∷ ss) → IsFoundAfter t (find (has_end_after t) ss) ss → IsFoundAfter t (cond b (Some s) (find (has_end_after t) ss)) (s ∷ ss)
found_by t s ss true e n rest = here t s ss n (ends_late t s e)
found_by t s ss false e n rest = skipped t s ss (find (has_end_after t) ss) (ends_by t s e) rest

found_after : (t : ℤ) (r : List Span) → IsNormalized r → IsFoundAfter t (find (has_end_after t) r) r
found_after t [] n = λ u h. refl
found_after t (s ∷ ss) n = found_by t s ss (has_end_after t s) refl n (found_after t ss n.2)

-- ---- that of two lists

and_left : (a b : Bool) → a ≡ false → (a && b) ≡ false
and_left a b h = ap (λ c. c && b) h

and_right : (a b : Bool) → b ≡ false → (a && b) ≡ false
and_right true b h = h
and_right false b h = refl

and_both : (a b : Bool) → a ≡ true → b ≡ true → (a && b) ≡ true
and_both a b h k = ap (λ c. c && b) h ∙ k

pub left_out : (xs ys : List Span) (u : ℤ) → has_tick_in xs u ≡ false → has_tick_in (meet xs ys) u ≡ false
left_out xs ys u h = covers-meet xs ys u ∙ and_left (has_tick_in xs u) (has_tick_in ys u) h

pub right_out : (xs ys : List Span) (u : ℤ) → has_tick_in ys u ≡ false → has_tick_in (meet xs ys) u ≡ false
right_out xs ys u h = covers-meet xs ys u ∙ and_right (has_tick_in xs u) (has_tick_in ys u) h

pub both_in : (xs ys : List Span) (u : ℤ) → has_tick_in xs u ≡ true → has_tick_in ys u ≡ true → has_tick_in (meet xs ys) u ≡ true
both_in xs ys u h k = covers-meet xs ys u ∙ and_both (has_tick_in xs u) (has_tick_in ys u) h k

pub before_one : (u a b : ℤ) → u <ℤ int_max a b → (u <ℤ a) ⊎ (u <ℤ b)
before_one u a b h = grind (arith, ints)

pub from_both : (u a b : ℤ) → int_max a b ≤ℤ u → (a ≤ℤ u) × (b ≤ℤ u)
from_both u a b h = (grind (arith, ints), grind (arith, ints))

pub before_both : (u a b : ℤ) → u <ℤ int_min a b → (u <ℤ a) × (u <ℤ b)
before_both u a b h = (grind (arith, ints), grind (arith, ints))

least_late : (t a b : ℤ) → t <ℤ a → t <ℤ b → t <ℤ int_min a b
least_late t a b h k = grind (arith, ints)

is_one : (a b : ℤ) → (int_min a b ≡ a) ⊎ (int_min a b ≡ b)
is_one a b = grind (arith, ints)

narrowed_after : (t : ℤ) (c d : Span) (xs ys : List Span) → IsFirstAfter t c xs → IsFirstAfter t d ys → IsFirstAfter t (narrowed_span c d) (meet xs ys)
narrowed_after t c d xs ys h k = record {
  late = least_late t c.end d.end h.late k.late;
  before = λ u low high. elim (before_one u c.start d.start high) [
    | inl l ↦ left_out xs ys u (h.before u low l)
    | inr r ↦ right_out xs ys u (k.before u low r)
  ];
  within = λ u low high.
      let from = from_both u c.start d.start low in
      let to = before_both u c.end d.end high in
      both_in xs ys u (h.within u from.0 to.0) (k.within u from.1 to.1);
  behind = elim (is_one c.end d.end) [
    | inl l ↦ subst (λ (e : ℤ). has_tick_in (meet xs ys) e ≡ false) (sym l) (left_out xs ys c.end h.behind)
    | inr r ↦ subst (λ (e : ℤ). has_tick_in (meet xs ys) e ≡ false) (sym r) (right_out xs ys d.end k.behind)
  ];
}

found_both : (t : ℤ) (o p : Option Span) (xs ys : List Span) → IsFoundAfter t o xs → IsFoundAfter t p ys → IsFoundAfter t (narrowed_of_two o p) (meet xs ys)
found_both t None p xs ys h k = λ u low. left_out xs ys u (h u low)
found_both t (Some c) None xs ys h k = λ u low. right_out xs ys u (k u low)
found_both t (Some c) (Some d) xs ys h k = narrowed_after t c d xs ys h k

found_fold : (t : ℤ) (o : Option Span) (r : List Span) (rs : List (List Span)) → IsFoundAfter t o r → AllByRecursion IsNormalized rs → IsFoundAfter t (fold narrowed_of_two o (map (find (has_end_after t)) rs)) (fold meet r rs)
found_fold t o r [] h n = h
found_fold t o r (q ∷ rs) h n = found_fold t (narrowed_of_two o (find (has_end_after t) q)) (meet r q) rs (found_both t o (find (has_end_after t) q) r q h (found_after t q n.0)) n.1

-- what the first ranges of all lists that end after a time tell of the ticks that the lists share
pub found_in_all : (t : ℤ) (rs : List (List Span)) → AllByRecursion IsNormalized rs → IsFoundAfter t (narrowed_of_all (map (find (has_end_after t)) rs)) (meet_of_all rs)
found_in_all t [] n = λ u h. refl
found_in_all t (r ∷ rs) n = found_fold t (find (has_end_after t) r) r rs (found_after t r n.0) n.1

-- ---- the first range of all

pub before_or_from : (u t : ℤ) → (u <ℤ t) ⊎ (t ≤ℤ u)
before_or_from u t = grind (arith, ints)

not_before : (t : ℤ) (c s : Span) (ss : List Span) → IsNormalized (s ∷ ss) → HasNoneBefore t (s ∷ ss) → IsFirstAfter t c (s ∷ ss) → s.start <ℤ c.start → ⊥
not_before t c s ss n none h low =
    let own : has_tick_in (s ∷ ss) s.start ≡ true = starts_in s (has_tick_in ss s.start) n.0 in
    elim (before_or_from s.start t) [
      | inl l ↦ let out = none s.start l in cc
      | inr r ↦ let out = h.before s.start r low in cc
    ]

not_after : (t : ℤ) (c s : Span) (ss : List Span) → IsNormalized (s ∷ ss) → IsFirstAfter t c (s ∷ ss) → c.start <ℤ c.end → c.start <ℤ s.start → ⊥
not_after t c s ss n h some low =
    let own = h.within c.start (omega (arith, ints)) some in
    let out = before_all s ss c.start n low in
    cc

not_shorter : (t : ℤ) (c s : Span) (ss : List Span) → IsNormalized (s ∷ ss) → IsFirstAfter t c (s ∷ ss) → s.start ≡ c.start → s.end <ℤ c.end → ⊥
not_shorter t c s ss n h same low =
    let long = n.0 in
    let own = h.within s.end (omega (arith, ints)) low in
    let out = at_end s ss n in
    cc

not_longer : (t : ℤ) (c s : Span) (ss : List Span) → IsFirstAfter t c (s ∷ ss) → c.start <ℤ c.end → s.start ≡ c.start → c.end <ℤ s.end → ⊥
not_longer t c s ss h some same low =
    let own : has_tick_in (s ∷ ss) c.end ≡ true = inner s c.end (has_tick_in ss c.end) (omega (arith, ints)) low in
    let out = h.behind in
    cc

-- where no tick is before the time, a span with a tick that is found so is the first range
pub first_is : (t : ℤ) (c : Span) (m : List Span) → IsNormalized m → HasNoneBefore t m → IsFirstAfter t c m → c.start <ℤ c.end → Some c ≡ first_of m
first_is t c [] n none h some =
    let own : false ≡ true = h.within c.start (omega (arith, ints)) some in
    cc
first_is t c (s ∷ ss) n none h some =
    let same : s.start ≡ c.start = pick s.start c.start (not_before t c s ss n none h) (not_after t c s ss n h some) in
    let last : s.end ≡ c.end = pick s.end c.end (not_shorter t c s ss n h same) (not_longer t c s ss h some same) in
    ap Some (sym (same_span s c same last))

-- where no tick is before the time and none from it on, there is no range
pub none_at_all : (t : ℤ) (m : List Span) → IsNormalized m → HasNoneBefore t m → HasNoneFrom t m → m ≡ []
none_at_all t [] n none h = refl
none_at_all t (s ∷ ss) n none h =
    let own : has_tick_in (s ∷ ss) s.start ≡ true = starts_in s (has_tick_in ss s.start) n.0 in
    elim (before_or_from s.start t) [
      | inl l ↦ let out = none s.start l in cc
      | inr r ↦ let out = h s.start r in cc
    ]

pub first_none : (t : ℤ) (m : List Span) → IsNormalized m → HasNoneBefore t m → HasNoneFrom t m → None ≡ first_of m
first_none t m n none h = sym (ap first_of (none_at_all t m n none h))

-- no tick is before the start of a span that is found so
pub none_before_it : (t : ℤ) (c : Span) (m : List Span) → HasNoneBefore t m → IsFirstAfter t c m → HasNoneBefore c.start m
none_before_it t c m none h u low = elim (before_or_from u t) [
  | inl l ↦ none u l
  | inr r ↦ h.before u r low
]

-- no tick is before a time before which no range begins
pub none_before_all : (t : ℤ) (m : List Span) → AllByRecursion (λ s. t ≤ℤ s.start) m → HasNoneBefore t m
none_before_all t [] h u low = refl
none_before_all t (s ∷ ss) h u low = let first = h.0 in not_begun s u (has_tick_in ss u) (omega (arith, ints)) ∙ none_before_all t ss h.1 u low
  where
    not_begun : (s : Span) (u : ℤ) (b : Bool) → u <ℤ s.start → (has_tick s u || b) ≡ b
    not_begun s u b h = grind (arith, ints)

-- ---- one more list

-- the narrowed span of one more
pub narrowed_push : (os : List (Option Span)) (o : Option Span) → 1 ≤ length os → narrowed_of_all (os ++ o ∷ []) ≡ narrowed_of_two (narrowed_of_all os) o
narrowed_push [] o h = absurd (omega arith)
narrowed_push (p ∷ os) o h = fold-append narrowed_of_two p os (o ∷ [])
