-- The last range of the ticks that some lists share, by the last range of each list that begins before a time.
use Rattle.std.proofs.Common.{◌≡◌, ◌∙◌, ℤ, pos, ◌-ℤ◌, ◌≤ℤ◌, ◌<ℤ◌, ◌⊎◌, inl, inr, Bool, true, false, cond, List, [], ◌∷◌, fold, map, Option, Some, None, refl, sym, ap, subst, arith}
use Rattle.std.specs.Int.{int_min, int_max}
use Rattle.std.specs.List.{AllByRecursion, filter}
use Rattle.std.proofs.lemmas.Int.{ints}
use Rattle.mse_base.specs.declared.span.Span.{Span}
use Rattle.mse_base.specs.Spans.{has_tick, has_tick_in, IsFirstStartAfter, IsNormalized, last_from, last_of, has_start_before}
use Rattle.mse_base.specs.Meets.{meet, meet_of_all, narrowed_span, narrowed_of_two, narrowed_of_all}
use Rattle.mse_base.proofs.SharedTicks.{later_than}
use Rattle.mse_base.proofs.Unique.{before_all, inner, pick, same_span}
use Rattle.mse_base.proofs.Firsts.{HasNoneBefore, HasNoneFrom, before_both, before_or_from, both_in, either_has, from_both, left_out, none_at_all, past, right_out}

-- a span that begins before a time: the list has its ticks, none behind it and before the time, and not the tick
-- before it
pub record IsLastBefore (t : ℤ) (c : Span) (m : List Span) : Type 0 where
  pub early : c.start <ℤ t
  pub after : (u : ℤ) → c.end ≤ℤ u → u <ℤ t → has_tick_in m u ≡ false
  pub within : (u : ℤ) → c.start ≤ℤ u → u <ℤ c.end → has_tick_in m u ≡ true
  pub ahead : has_tick_in m (c.start -ℤ pos 1) ≡ false

-- the same of a span that may be missing: then the list has no tick before the time
abbrev pub IsFoundBefore : ℤ → Option Span → List Span → Type 0
IsFoundBefore t None m = HasNoneBefore t m
IsFoundBefore t (Some c) m = IsLastBefore t c m

-- ---- one list

starts_from : (t : ℤ) (s : Span) → has_start_before t s ≡ false → t ≤ℤ s.start
starts_from t s h = grind (arith, ints)

starts_early : (t : ℤ) (s : Span) → has_start_before t s ≡ true → s.start <ℤ t
starts_early t s h = grind (arith, ints)

-- no range begins before the time
none_started : (t e : ℤ) (ss : List Span) → t ≤ℤ e → IsFirstStartAfter e ss → IsNormalized ss → filter (has_start_before t) ss ≡ []
none_started t e [] low a n = refl
none_started t e (s ∷ ss) low a n =
    let long = n.0 in
    ap (λ c. cond c (s ∷ filter (has_start_before t) ss) (filter (has_start_before t) ss)) (not_started t s (omega (arith, ints)))
    ∙ none_started t s.end ss (omega (arith, ints)) n.1 n.2
  where
    not_started : (t : ℤ) (s : Span) → t ≤ℤ s.start → has_start_before t s ≡ false
    not_started t s h = grind (arith, ints)

-- the last of some spans is one of them
last_step : (P : Span → Type 0) (p : Span → Bool) (s q x : Span) (ss : List Span) (b : Bool) → (last_from q (filter p ss) ≡ Some x → P x) → (last_from s (filter p ss) ≡ Some x → P x) → last_from s (cond b (q ∷ filter p ss) (filter p ss)) ≡ Some x → P x
last_step P p s q x ss true f g e = f e
last_step P p s q x ss false f g e = g e

last_holds : (P : Span → Type 0) (p : Span → Bool) (s x : Span) (ss : List Span) → P s → AllByRecursion P ss → last_from s (filter p ss) ≡ Some x → P x
last_holds P p s x [] h all e = let same : s ≡ x = cc in subst P same h
last_holds P p s x (q ∷ ss) h all e = last_step P p s q x ss (p q) (λ f. last_holds P p q x ss all.0 all.1 f) (λ f. last_holds P p s x ss h all.1 f) e

all_long : (ss : List Span) → IsNormalized ss → AllByRecursion (λ z. z.start <ℤ z.end) ss
all_long [] n = tt
all_long (s ∷ ss) n = (n.0, all_long ss n.2)

only : (t : ℤ) (s : Span) (ss : List Span) → IsNormalized (s ∷ ss) → s.start <ℤ t → HasNoneBefore t ss → IsLastBefore t s (s ∷ ss)
only t s ss n early none = record {
  early = early;
  after = λ u low high. past s u (has_tick_in ss u) low ∙ none u high;
  within = λ u low high. inner s u (has_tick_in ss u) low high;
  ahead = before_all s ss (s.start -ℤ pos 1) n (omega (arith, ints));
}

one_more : (t : ℤ) (s x : Span) (ss : List Span) → s.end <ℤ x.start → x.start <ℤ x.end → IsLastBefore t x ss → IsLastBefore t x (s ∷ ss)
one_more t s x ss far long h = record {
  early = h.early;
  after = λ u low high. past s u (has_tick_in ss u) (omega (arith, ints)) ∙ h.after u low high;
  within = λ u low high. either_has (has_tick s u) (has_tick_in ss u) (h.within u low high);
  ahead = past s (x.start -ℤ pos 1) (has_tick_in ss (x.start -ℤ pos 1)) (omega (arith, ints)) ∙ h.ahead;
}

next_started : (t : ℤ) (s q x : Span) (ss : List Span) → IsNormalized (s ∷ q ∷ ss) → last_from q (filter (has_start_before t) ss) ≡ Some x → IsLastBefore t x (q ∷ ss) → IsLastBefore t x (s ∷ q ∷ ss)
next_started t s q x ss n e h =
    let later = later_than s.end (q ∷ ss) n.1 n.2 in
    let long = all_long (q ∷ ss) n.2 in
    one_more t s x (q ∷ ss) (last_holds (λ z. s.end <ℤ z.start) (has_start_before t) q x ss later.0 later.1 e) (last_holds (λ z. z.start <ℤ z.end) (has_start_before t) q x ss long.0 long.1 e) h

next_not_started : (t : ℤ) (s q x : Span) (ss : List Span) → IsNormalized (s ∷ q ∷ ss) → s.start <ℤ t → t ≤ℤ q.start → last_from s (filter (has_start_before t) ss) ≡ Some x → IsLastBefore t x (s ∷ q ∷ ss)
next_not_started t s q x ss n early late e =
    let rest = n.2 in
    let long = rest.0 in
    let none = none_started t q.end ss (omega (arith, ints)) rest.1 rest.2 in
    let last : last_from s [] ≡ Some x = sym (ap (λ (zs : List Span). last_from s zs) none) ∙ e in
    let same : s ≡ x = cc in
    subst (λ (z : Span). IsLastBefore t z (s ∷ q ∷ ss)) same (only t s (q ∷ ss) n early (λ u low. before_all q ss u rest (omega (arith, ints))))

started_by : (t : ℤ) (s q x : Span) (ss : List Span) (b : Bool) → has_start_before t q ≡ b → IsNormalized (s ∷ q ∷ ss) → s.start <ℤ t → (q.start <ℤ t → last_from q (filter (has_start_before t) ss) ≡ Some x → IsLastBefore t x (q ∷ ss)) → last_from s (cond b (q ∷ filter (has_start_before t) ss) (filter (has_start_before t) ss)) ≡ Some x → IsLastBefore t x (s ∷ q ∷ ss)
started_by t s q x ss true is n early f e = next_started t s q x ss n e (f (starts_early t q is) e)
started_by t s q x ss false is n early f e = next_not_started t s q x ss n early (starts_from t q is) e

found_from : (t : ℤ) (s x : Span) (ss : List Span) → IsNormalized (s ∷ ss) → s.start <ℤ t → last_from s (filter (has_start_before t) ss) ≡ Some x → IsLastBefore t x (s ∷ ss)
found_from t s x [] n early e = let same : s ≡ x = cc in subst (λ (z : Span). IsLastBefore t z (s ∷ [])) same (only t s [] n early (λ u low. refl))
found_from t s x (q ∷ ss) n early e = started_by t s q x ss (has_start_before t q) refl n early (λ low f. found_from t q x ss n.2 low f) e

is_some : (s : Span) (ss : List Span) → last_from s ss ≡ None → ⊥
is_some s [] h = cc
is_some s (r ∷ ss) h = is_some r ss h

found_first : (t : ℤ) (s : Span) (ss : List Span) (o : Option Span) → IsNormalized (s ∷ ss) → s.start <ℤ t → last_from s (filter (has_start_before t) ss) ≡ o → IsFoundBefore t o (s ∷ ss)
found_first t s ss None n early e = absurd (is_some s (filter (has_start_before t) ss) e)
found_first t s ss (Some x) n early e = found_from t s x ss n early e

found_by : (t : ℤ) (s : Span) (ss : List Span) (b : Bool) → has_start_before t s ≡ b → IsNormalized (s ∷ ss) → IsFoundBefore t (last_of (cond b (s ∷ filter (has_start_before t) ss) (filter (has_start_before t) ss))) (s ∷ ss)
found_by t s ss true is n = found_first t s ss (last_from s (filter (has_start_before t) ss)) n (starts_early t s is) refl
found_by t s ss false is n =
    let long = n.0 in
    let late = starts_from t s is in
    let none = none_started t s.end ss (omega (arith, ints)) n.1 n.2 in
    subst (λ (zs : List Span). IsFoundBefore t (last_of zs) (s ∷ ss)) (sym none) (λ u low. before_all s ss u n (omega (arith, ints)))

found_before : (t : ℤ) (r : List Span) → IsNormalized r → IsFoundBefore t (last_of (filter (has_start_before t) r)) r
found_before t [] n = λ u h. refl
found_before t (s ∷ ss) n = found_by t s ss (has_start_before t s) refl n

-- ---- all of some lists

most_early : (t a b : ℤ) → a <ℤ t → b <ℤ t → int_max a b <ℤ t
most_early t a b h k = grind (arith, ints)

from_one : (u a b : ℤ) → int_min a b ≤ℤ u → (a ≤ℤ u) ⊎ (b ≤ℤ u)
from_one u a b h = grind (arith, ints)

is_one : (a b : ℤ) → (int_max a b ≡ a) ⊎ (int_max a b ≡ b)
is_one a b = grind (arith, ints)

narrowed_before : (t : ℤ) (c d : Span) (xs ys : List Span) → IsLastBefore t c xs → IsLastBefore t d ys → IsLastBefore t (narrowed_span c d) (meet xs ys)
narrowed_before t c d xs ys h k = record {
  early = most_early t c.start d.start h.early k.early;
  after = λ u low high. elim (from_one u c.end d.end low) [
    | inl l ↦ left_out xs ys u (h.after u l high)
    | inr r ↦ right_out xs ys u (k.after u r high)
  ];
  within = λ u low high.
      let from = from_both u c.start d.start low in
      let to = before_both u c.end d.end high in
      both_in xs ys u (h.within u from.0 to.0) (k.within u from.1 to.1);
  ahead = elim (is_one c.start d.start) [
    | inl l ↦ subst (λ (e : ℤ). has_tick_in (meet xs ys) (e -ℤ pos 1) ≡ false) (sym l) (left_out xs ys (c.start -ℤ pos 1) h.ahead)
    | inr r ↦ subst (λ (e : ℤ). has_tick_in (meet xs ys) (e -ℤ pos 1) ≡ false) (sym r) (right_out xs ys (d.start -ℤ pos 1) k.ahead)
  ];
}

found_both : (t : ℤ) (o p : Option Span) (xs ys : List Span) → IsFoundBefore t o xs → IsFoundBefore t p ys → IsFoundBefore t (narrowed_of_two o p) (meet xs ys)
found_both t None p xs ys h k = λ u low. left_out xs ys u (h u low)
found_both t (Some c) None xs ys h k = λ u low. right_out xs ys u (k u low)
found_both t (Some c) (Some d) xs ys h k = narrowed_before t c d xs ys h k

found_fold : (t : ℤ) (o : Option Span) (r : List Span) (rs : List (List Span)) → IsFoundBefore t o r → AllByRecursion IsNormalized rs → IsFoundBefore t (fold narrowed_of_two o (map (λ q. last_of (filter (has_start_before t) q)) rs)) (fold meet r rs)
found_fold t o r [] h n = h
found_fold t o r (q ∷ rs) h n = found_fold t (narrowed_of_two o (last_of (filter (has_start_before t) q))) (meet r q) rs (found_both t o (last_of (filter (has_start_before t) q)) r q h (found_before t q n.0)) n.1

-- what the last ranges of all lists that begin before a time tell of the ticks that the lists share
pub found_in_all : (t : ℤ) (rs : List (List Span)) → AllByRecursion IsNormalized rs → IsFoundBefore t (narrowed_of_all (map (λ r. last_of (filter (has_start_before t) r)) rs)) (meet_of_all rs)
found_in_all t [] n = λ u h. refl
found_in_all t (r ∷ rs) n = found_fold t (last_of (filter (has_start_before t) r)) r rs (found_before t r n.0) n.1

-- ---- the last range of all

-- a span of the list whose ticks the list has, and neither the tick before it nor one behind it
pub record IsLastPart (z : Span) (m : List Span) : Type 0 where
  pub long : z.start <ℤ z.end
  pub within : (u : ℤ) → z.start ≤ℤ u → u <ℤ z.end → has_tick_in m u ≡ true
  pub behind : HasNoneFrom z.end m
  pub ahead : has_tick_in m (z.start -ℤ pos 1) ≡ false

last_part_more : (s z : Span) (ss : List Span) → s.end <ℤ z.start → IsLastPart z ss → IsLastPart z (s ∷ ss)
last_part_more s z ss far h =
    let long = h.long in
    record {
      long = h.long;
      within = λ u low high. either_has (has_tick s u) (has_tick_in ss u) (h.within u low high);
      behind = λ u low. past s u (has_tick_in ss u) (omega (arith, ints)) ∙ h.behind u low;
      ahead = past s (z.start -ℤ pos 1) (has_tick_in ss (z.start -ℤ pos 1)) (omega (arith, ints)) ∙ h.ahead;
    }

last_is_part : (s z : Span) (ss : List Span) → IsNormalized (s ∷ ss) → last_from s ss ≡ Some z → IsLastPart z (s ∷ ss) × (s.start ≤ℤ z.start)
last_is_part s z [] n e =
    let same : s ≡ z = cc in
    subst (λ (x : Span). IsLastPart x (s ∷ []) × (s.start ≤ℤ x.start)) same (
      record {
        long = n.0;
        within = λ u low high. inner s u false low high;
        behind = λ u low. past s u false low;
        ahead = before_all s [] (s.start -ℤ pos 1) n (omega (arith, ints));
      },
      omega (arith, ints),
    )
last_is_part s z (q ∷ ss) n e =
    let rest = last_is_part q z ss n.2 e in
    let next = n.1 in
    let long = n.0 in
    let far = rest.1 in
    (last_part_more s z (q ∷ ss) (omega (arith, ints)) rest.0, omega (arith, ints))

not_ended : (t : ℤ) (c z : Span) (m : List Span) → HasNoneFrom t m → IsLastBefore t c m → IsLastPart z m → c.end <ℤ z.end → ⊥
not_ended t c z m none h p low =
    let long = p.long in
    let own = p.within (z.end -ℤ pos 1) (omega (arith, ints)) (omega (arith, ints)) in
    elim (before_or_from (z.end -ℤ pos 1) t) [
      | inl l ↦ let out = h.after (z.end -ℤ pos 1) (omega (arith, ints)) l in cc
      | inr r ↦ let out = none (z.end -ℤ pos 1) r in cc
    ]

not_longer : (t : ℤ) (c z : Span) (m : List Span) → IsLastBefore t c m → IsLastPart z m → c.start <ℤ c.end → z.end <ℤ c.end → ⊥
not_longer t c z m h p some low =
    let own = h.within (c.end -ℤ pos 1) (omega (arith, ints)) (omega (arith, ints)) in
    let out = p.behind (c.end -ℤ pos 1) (omega (arith, ints)) in
    cc

not_before : (t : ℤ) (c z : Span) (m : List Span) → IsLastBefore t c m → IsLastPart z m → c.start <ℤ c.end → z.end ≡ c.end → z.start <ℤ c.start → ⊥
not_before t c z m h p some same low =
    let own = p.within (c.start -ℤ pos 1) (omega (arith, ints)) (omega (arith, ints)) in
    let out = h.ahead in
    cc

not_after : (t : ℤ) (c z : Span) (m : List Span) → IsLastBefore t c m → IsLastPart z m → z.end ≡ c.end → c.start <ℤ z.start → ⊥
not_after t c z m h p same low =
    let long = p.long in
    let own = h.within (z.start -ℤ pos 1) (omega (arith, ints)) (omega (arith, ints)) in
    let out = p.ahead in
    cc

same_last : (t : ℤ) (c z : Span) (m : List Span) → HasNoneFrom t m → IsLastBefore t c m → c.start <ℤ c.end → IsLastPart z m → c ≡ z
same_last t c z m none h some p =
    let last : z.end ≡ c.end = pick z.end c.end (not_longer t c z m h p some) (not_ended t c z m none h p) in
    let first : z.start ≡ c.start = pick z.start c.start (not_before t c z m h p some last) (not_after t c z m h p last) in
    sym (same_span z c first last)

last_by : (t : ℤ) (c s : Span) (ss : List Span) (o : Option Span) → IsNormalized (s ∷ ss) → HasNoneFrom t (s ∷ ss) → IsLastBefore t c (s ∷ ss) → c.start <ℤ c.end → last_from s ss ≡ o → Some c ≡ o
last_by t c s ss None n none h some e = absurd (is_some s ss e)
last_by t c s ss (Some z) n none h some e = ap Some (same_last t c z (s ∷ ss) none h some (last_is_part s z ss n e).0)

-- where no tick is from the time on, a span with a tick that is found so is the last range
pub last_is : (t : ℤ) (c : Span) (m : List Span) → IsNormalized m → HasNoneFrom t m → IsLastBefore t c m → c.start <ℤ c.end → Some c ≡ last_of m
last_is t c [] n none h some =
    let own : false ≡ true = h.within c.start (omega (arith, ints)) some in
    cc
last_is t c (s ∷ ss) n none h some = last_by t c s ss (last_from s ss) n none h some refl

-- where no tick is from the time on and none before it, there is no range
pub last_none : (t : ℤ) (m : List Span) → IsNormalized m → HasNoneFrom t m → HasNoneBefore t m → None ≡ last_of m
last_none t m n none h = sym (ap last_of (none_at_all t m n h none))

-- no tick is from the end of a span on that is found so
pub none_from_it : (t : ℤ) (c : Span) (m : List Span) → HasNoneFrom t m → IsLastBefore t c m → HasNoneFrom c.end m
none_from_it t c m none h u low = elim (before_or_from u t) [
  | inl l ↦ h.after u low l
  | inr r ↦ none u r
]

-- ---- behind the last range

-- no tick is from the end of the last range on
pub none_from_last : (e : ℤ) (z : Span) (m : List Span) → IsNormalized m → last_of m ≡ Some z → z.end ≤ℤ e → HasNoneFrom e m
none_from_last e z [] n h high u low = refl
none_from_last e z (s ∷ ss) n h high u low = ((last_is_part s z ss n h).0).behind u (omega (arith, ints))

none_from_fold : (e : ℤ) (r : List Span) (rs : List (List Span)) → HasNoneFrom e r → HasNoneFrom e (fold meet r rs)
none_from_fold e r [] h = h
none_from_fold e r (q ∷ rs) h = none_from_fold e (meet r q) rs (λ u low. left_out r q u (h u low))

-- where one list has no tick from a time on, all share none
pub none_from_one : (e : ℤ) (r : List Span) (rs : List (List Span)) → HasNoneFrom e r → HasNoneFrom e (meet_of_all (r ∷ rs))
none_from_one e r rs h = none_from_fold e r rs h
