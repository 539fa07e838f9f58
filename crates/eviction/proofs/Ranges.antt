-- Removal ranges, found one after another by what is left of the times.
use Rattle.std.proofs.Common.{◌≡◌, ◌∙◌, ℤ, ◌<ℤ◌, ◌≤ℤ◌, int_lt, int_le, Bool, true, false, not, cond, ◌&&◌, List, [], ◌∷◌, ◌++◌, filter, reverse, Option, Some, None, refl, sym, ap, subst, inl, inr, arith}
use Rattle.std.specs.List.{AllByRecursion}
use Rattle.std.proofs.lemmas.Int.{ints}
use Rattle.std.proofs.lemmas.List.{reverse-append}
use Rattle.mse_base.specs.declared.ticks.Moment.{Moment}
use Rattle.mse_base.specs.declared.ticks.Moment.TheVariants.{Nan, At, Infinite}
use Rattle.mse_base.specs.Moments.{is_before, is_at_or_before}
use Rattle.mse_base.specs.Moments.{time_or}
use Rattle.eviction.specs.Evicting.{RemovalRange, first_of, removal_ranges, is_up_to_position, is_after_position}
use Rattle.eviction.specs.Steps.{IsLatest, is_below, ranges_back, times_from, times_between}
use Rattle.eviction.specs.Times.{IsAmong}
use Rattle.eviction.specs.Times.{IsRising}
use Rattle.eviction.proofs.Times.{all_along, all_both, all_has, each_of, filter-step, filter_all, filter_none, filter_same, filter_both, first_least, first_none}
use Rattle.eviction.proofs.Syncs.{is_gone, gone_to}

-- ---- single times

pub no_lt : (t u : ℤ) → t ≤ℤ u → int_lt u t ≡ false
no_lt t u h = grind (arith, ints)

pub yes_lt : (t u : ℤ) → t <ℤ u → int_lt t u ≡ true
yes_lt t u h = grind (arith, ints)

no_le : (t u : ℤ) → t <ℤ u → int_le u t ≡ false
no_le t u h = grind (arith, ints)

yes_le : (t u : ℤ) → t ≤ℤ u → int_le t u ≡ true
yes_le t u h = grind (arith, ints)

pub lt_of : (t u : ℤ) → int_lt t u ≡ true → t <ℤ u
lt_of t u h = grind (arith, ints)

pub le_of : (t u : ℤ) → int_le t u ≡ true → t ≤ℤ u
le_of t u h = grind (arith, ints)

pub not_lt_of : (t u : ℤ) → int_lt t u ≡ false → u ≤ℤ t
not_lt_of t u h = grind (arith, ints)

no_lt_same : (t : ℤ) → int_lt t t ≡ false
no_lt_same t = grind (arith, ints)

le_lt_same : (s t : ℤ) → s <ℤ t → int_le s t ≡ int_lt s t
le_lt_same s t h = yes_le s t (omega (arith, ints)) ∙ sym (yes_lt s t h)

-- ---- from one time on

-- the times from one of them on are it and those after it
pub from_is : (s : ℤ) (ts : List ℤ) → IsRising ts → IsAmong s ts → filter (int_le s) ts ≡ s ∷ filter (int_lt s) ts
from_is s [] up has = absurd has
from_is s (t ∷ ts) up (inl e) =
    subst (λ x. filter (int_le x) (t ∷ ts) ≡ x ∷ filter (int_lt x) (t ∷ ts)) e
    (filter-step (int_le t) t ts true (yes_le t t (omega (arith, ints)))
    ∙ ap (λ us. t ∷ us) (filter_same (int_le t) (int_lt t) ts (all_along (λ u. t <ℤ u) (λ u. int_le t u ≡ int_lt t u) ts (λ u h. le_lt_same t u h) up.0) ∙ sym (filter-step (int_lt t) t ts false (no_lt_same t))))
from_is s (t ∷ ts) up (inr has) =
    let less = all_has (λ u. t <ℤ u) s ts up.0 has in
    filter-step (int_le s) t ts false (no_le t s less) ∙ from_is s ts up.1 has
    ∙ ap (λ us. s ∷ us) (sym (filter-step (int_lt s) t ts false (no_lt t s (let k = less in omega (arith, ints)))))

from_pick : (s u t : ℤ) (b : Bool) → int_lt s t ≡ b → int_lt s u ≡ true → (b ≡ true → u ≤ℤ t) → int_le u t ≡ b
from_pick s u t true e h f = yes_le u t (f refl)
from_pick s u t false e h f = no_le t u (let low = not_lt_of s t e in let high = lt_of s u h in omega (arith, ints))

from_step : (s u t : ℤ) → int_lt s u ≡ true → (int_lt s t ≡ true → u ≤ℤ t) → int_le u t ≡ int_lt s t
from_step s u t h f = from_pick s u t (int_lt s t) refl h f

-- from the first time after another on are all times after that
pub from_next : (s : ℤ) (ts : List ℤ) (o : Option ℤ) → IsRising ts → first_of (filter (int_lt s) ts) ≡ o → times_from o ts ≡ filter (int_lt s) ts
from_next s ts None up e = sym (filter_none (int_lt s) ts (first_none (int_lt s) ts e))
from_next s ts (Some u) up e =
    let facts = first_least (int_lt s) ts u up e in
    filter_same (int_le u) (int_lt s) ts (all_along (λ t. int_lt s t ≡ true → u ≤ℤ t) (λ t. int_le u t ≡ int_lt s t) ts (λ t f. from_step s u t facts.0 f) facts.2)

-- from the first time on are all
pub from_first : (ts : List ℤ) → IsRising ts → times_from (first_of ts) ts ≡ ts
from_first [] up = refl
from_first (t ∷ ts) up = filter_all (int_le t) (t ∷ ts) (yes_le t t (omega (arith, ints)), all_along (λ u. t <ℤ u) (λ u. int_le t u ≡ true) ts (λ u h. yes_le t u (omega (arith, ints))) up.0)

-- ---- what goes with a range that ends at or before the position

-- where times go up to another of the times, they are before it
pub and_parts : (a b : Bool) → (a && b) ≡ true → (a ≡ true) × (b ≡ true)
and_parts true true h = (refl, refl)
and_parts true false h = cc
and_parts false b h = cc

not_no : (b : Bool) → not b ≡ false → b ≡ true
not_no true h = refl
not_no false h = sym h

not_yes : (b : Bool) → not b ≡ true → b ≡ false
not_yes true h = sym h
not_yes false h = refl

pub stays_of : (b : Bool) → (b ≡ true → ⊥) → not b ≡ true
stays_of true f = absurd (f refl)
stays_of false f = refl

gone_pick : (s u t : ℤ) (d : Moment) (ts : List ℤ) → IsRising ts → IsAmong u ts → (o : Option ℤ) → first_of (filter (λ v. not (is_before v (At u))) ts) ≡ o → is_gone s (time_or o d) t ≡ true → t <ℤ u
gone_pick s u t d ts up has None e h =
    let all = first_none (λ v. not (is_before v (At u))) ts e in
    let no : int_lt u u ≡ true = not_no _ (all_has (λ v. not (int_lt v u) ≡ false) u ts all has) in
    absurd (let yes = no_lt_same u in cc)
gone_pick s u t d ts up has (Some w) e h =
    let facts = first_least (λ v. not (is_before v (At u))) ts w up e in
    let least = all_has (λ v. not (int_lt v u) ≡ true → w ≤ℤ v) u ts facts.2 has (ap not (no_lt_same u)) in
    let less = lt_of t w (and_parts (int_le s t) (int_lt t w) h).1 in
    omega (arith, ints)

gone_before : (s u t : ℤ) (d : Moment) (ts : List ℤ) → IsRising ts → IsAmong u ts → is_gone s (gone_to (At u) d ts) t ≡ true → t <ℤ u
gone_before s u t d ts up has h = gone_pick s u t d ts up has (first_of (filter (λ v. not (is_before v (At u))) ts)) refl h

-- the times after a range that ends at one of them stay
pub later_stay : (s u : ℤ) (d : Moment) (ts : List ℤ) → IsRising ts → IsAmong u ts → filter (int_le u) (filter (λ t. not (is_gone s (gone_to (At u) d ts) t)) ts) ≡ filter (int_le u) ts
later_stay s u d ts up has = filter_both (int_le u) (λ t. not (is_gone s (gone_to (At u) d ts) t)) ts (each_of _ ts (λ t h. stays_of (is_gone s (gone_to (At u) d ts) t) (λ g. (let low = gone_before s u t d ts up has g in let high = le_of u t h in omega (arith, ints)))))

pub next_stay : (s : ℤ) (d : Moment) (ts : List ℤ) (o : Option ℤ) → IsRising ts → first_of (filter (int_lt s) ts) ≡ o → times_from o (filter (λ t. not (is_gone s (gone_to (time_or o d) d ts) t)) ts) ≡ filter (int_lt s) ts
next_stay s d ts None up e = from_next s ts None up e
next_stay s d ts (Some u) up e = let facts = first_least (int_lt s) ts u up e in later_stay s u d ts up facts.1 ∙ from_next s ts (Some u) up e

-- of a range that ends at or before the position go no times after it
last_pick : (p s x : ℤ) (ts : List ℤ) (t : ℤ) → IsRising ts → AllByRecursion (λ u. int_lt s u ≡ false) ts → int_le x p ≡ true → (o : Option ℤ) → first_of (filter (λ v. not (is_before v (At x))) ts) ≡ o → is_gone s (time_or o (At x)) t ≡ true → t ≤ℤ p
last_pick p s x ts t up last h None e g =
    let less = lt_of t x (and_parts (int_le s t) (int_lt t x) g).1 in
    let high = le_of x p h in
    omega (arith, ints)
last_pick p s x ts t up last h (Some w) e g =
    let facts = first_least (λ v. not (is_before v (At x))) ts w up e in
    let parts = and_parts (int_le s t) (int_lt t w) g in
    let low = le_of s t parts.0 in
    let less = lt_of t w parts.1 in
    let most = not_lt_of s w (all_has (λ u. int_lt s u ≡ false) w ts last facts.1) in
    absurd (omega (arith, ints))

gone_last : (p s : ℤ) (d : Moment) (ts : List ℤ) (t : ℤ) → IsRising ts → AllByRecursion (λ u. int_lt s u ≡ false) ts → is_at_or_before d p ≡ true → is_gone s (gone_to d d ts) t ≡ true → t ≤ℤ p
gone_last p s Nan ts t up last h g = absurd cc
gone_last p s Infinite ts t up last h g = absurd cc
gone_last p s (At x) ts t up last h g = last_pick p s x ts t up last h (first_of (filter (λ v. not (is_before v (At x))) ts)) refl g

gone_any : (p s : ℤ) (d : Moment) (ts : List ℤ) (o : Option ℤ) (t : ℤ) → IsRising ts → first_of (filter (int_lt s) ts) ≡ o → is_at_or_before (time_or o d) p ≡ true → is_gone s (gone_to (time_or o d) d ts) t ≡ true → t ≤ℤ p
gone_any p s d ts None t up e h g = gone_last p s d ts t up (first_none (int_lt s) ts e) h g
gone_any p s d ts (Some u) t up e h g =
    let facts = first_least (int_lt s) ts u up e in
    let less = gone_before s u t d ts up facts.1 g in
    let high = le_of u p h in
    omega (arith, ints)

pub after_stay : (p s : ℤ) (d : Moment) (ts : List ℤ) (o : Option ℤ) → IsRising ts → first_of (filter (int_lt s) ts) ≡ o → is_at_or_before (time_or o d) p ≡ true → filter (int_lt p) (filter (λ t. not (is_gone s (gone_to (time_or o d) d ts) t)) ts) ≡ filter (int_lt p) ts
after_stay p s d ts o up e h = filter_both (int_lt p) (λ t. not (is_gone s (gone_to (time_or o d) d ts) t)) ts (each_of _ ts (λ t a. stays_of (is_gone s (gone_to (time_or o d) d ts) t) (λ g. (let low = gone_any p s d ts o t up e h g in let high = lt_of p t a in omega (arith, ints)))))

-- ---- where no more ranges end at or before the position

pub ends-step : (p : ℤ) (r : RemovalRange) (rs : List RemovalRange) (b : Bool) → is_at_or_before r.end p ≡ b → filter (is_up_to_position p) (r ∷ rs) ≡ cond b (r ∷ filter (is_up_to_position p) rs) (filter (is_up_to_position p) rs)
ends-step p r rs b e = ap (λ c. cond c (r ∷ filter (is_up_to_position p) rs) (filter (is_up_to_position p) rs)) e

pub no_more : (p : ℤ) (d : Moment) (ts : List ℤ) → IsRising ts → AllByRecursion (λ t. p ≤ℤ t) ts → is_at_or_before d p ≡ false → filter (is_up_to_position p) (removal_ranges d ts) ≡ []
no_more p d [] up h e = refl
no_more p d (t ∷ []) up h e = ends-step p (record { start = t; end = d }) [] false e
no_more p d (t ∷ u ∷ ts) up h e = ends-step p (record { start = t; end = At u }) (removal_ranges d (u ∷ ts)) false (no_le p u (let less = up.0.0 in let low = h.0 in omega (arith, ints))) ∙ no_more p d (u ∷ ts) up.1 h.1 e

-- ---- the ranges after the position, from the latest back

starts-step : (p : ℤ) (r : RemovalRange) (rs : List RemovalRange) (b : Bool) → int_lt p r.start ≡ b → filter (is_after_position p) (r ∷ rs) ≡ cond b (r ∷ filter (is_after_position p) rs) (filter (is_after_position p) rs)
starts-step p r rs b e = ap (λ c. cond c (r ∷ filter (is_after_position p) rs) (filter (is_after_position p) rs)) e

starts_all : (p : ℤ) (d : Moment) (ts : List ℤ) → AllByRecursion (λ t. int_lt p t ≡ true) ts → filter (is_after_position p) (removal_ranges d ts) ≡ removal_ranges d ts
starts_all p d [] h = refl
starts_all p d (t ∷ ts) h = starts-step p _ (removal_ranges d ts) true h.0 ∙ ap (λ rs. record { start = t; end = time_or (first_of ts) d } ∷ rs) (starts_all p d ts h.1)

starts-pick : (p : ℤ) (d : Moment) (t : ℤ) (ts : List ℤ) (b : Bool) → int_lt p t ≡ b → IsRising (t ∷ ts) → filter (is_after_position p) (removal_ranges d ts) ≡ removal_ranges d (filter (int_lt p) ts) → filter (is_after_position p) (removal_ranges d (t ∷ ts)) ≡ removal_ranges d (filter (int_lt p) (t ∷ ts))
starts-pick p d t ts true e up h =
    let less = lt_of p t e in
    let all = all_along (λ u. t <ℤ u) (λ u. int_lt p u ≡ true) ts (λ u k. yes_lt p u (omega (arith, ints))) up.0 in
    starts_all p d (t ∷ ts) (e, all) ∙ ap (removal_ranges d) (sym (filter_all (int_lt p) (t ∷ ts) (e, all)))
starts-pick p d t ts false e up h = starts-step p _ (removal_ranges d ts) false e ∙ h ∙ ap (removal_ranges d) (sym (filter-step (int_lt p) t ts false e))

starts_are : (p : ℤ) (d : Moment) (ts : List ℤ) → IsRising ts → filter (is_after_position p) (removal_ranges d ts) ≡ removal_ranges d (filter (int_lt p) ts)
starts_are p d [] up = refl
starts_are p d (t ∷ ts) up = starts-pick p d t ts (int_lt p t) refl up (starts_are p d ts up.1)

-- where the ranges of descending times end
back_end : Moment → List ℤ → Moment
back_end end [] = end
back_end end (t ∷ ts) = back_end (At t) ts

back_more : (end : Moment) (ts : List ℤ) (t : ℤ) → ranges_back end (ts ++ t ∷ []) ≡ ranges_back end ts ++ record { start = t; end = back_end end ts } ∷ []
unfolding back_end
back_more end [] t = refl
back_more end (u ∷ ts) t = ap (λ rs. record { start = u; end = end } ∷ rs) (back_more (At u) ts t)

back_end_more : (end : Moment) (ts : List ℤ) (t : ℤ) → back_end end (ts ++ t ∷ []) ≡ At t
unfolding back_end
back_end_more end [] t = refl
back_end_more end (u ∷ ts) t = back_end_more (At u) ts t

back_end_first : (d : Moment) (ts : List ℤ) → back_end d (reverse ts) ≡ time_or (first_of ts) d
unfolding back_end
back_end_first d [] = refl
back_end_first d (t ∷ ts) = ap (back_end d) (reverse-append (t ∷ []) ts) ∙ back_end_more d (reverse ts) t

reversed_ranges : (d : Moment) (ts : List ℤ) → reverse (removal_ranges d ts) ≡ ranges_back d (reverse ts)
reversed_ranges d [] = refl
reversed_ranges d (t ∷ ts) =
    let r : RemovalRange = record { start = t; end = time_or (first_of ts) d } in
    reverse-append (r ∷ []) (removal_ranges d ts)
    ∙ ap (λ rs. rs ++ r ∷ []) (reversed_ranges d ts)
    ∙ ap (λ e. ranges_back d (reverse ts) ++ record { start = t; end = e } ∷ []) (sym (back_end_first d ts))
    ∙ sym (back_more d (reverse ts) t)
    ∙ ap (ranges_back d) (sym (reverse-append (t ∷ []) ts))

and_yes : (b : Bool) → (b && true) ≡ b
and_yes true = refl
and_yes false = refl

and_no : (b : Bool) → (b && false) ≡ false
and_no true = refl
and_no false = refl

between_all : (p : ℤ) (ts : List ℤ) → times_between p None ts ≡ filter (int_lt p) ts
between_all p ts = filter_same _ (int_lt p) ts (each_of _ ts (λ t. and_yes (int_lt p t)))

-- the ranges that start after the position, from the latest back, are those of the descending times after it
pub back_is : (p : ℤ) (d : Moment) (ts us : List ℤ) → IsRising ts → filter (int_lt p) us ≡ filter (int_lt p) ts → ranges_back d (reverse (times_between p None us)) ≡ reverse (filter (is_after_position p) (removal_ranges d ts))
back_is p d ts us up same =
    ap (λ vs. ranges_back d (reverse vs)) (between_all p us ∙ same) ∙ sym (reversed_ranges d (filter (int_lt p) ts)) ∙ ap reverse (sym (starts_are p d ts up))

-- ---- the latest time

later_pick : (b : Bool) (x t : ℤ) → (b ≡ true → t ≤ℤ x) → x <ℤ t → b ≡ false
later_pick true x t f h = absurd (let k = f refl in omega (arith, ints))
later_pick false x t f h = refl

later_than : (next : Option ℤ) (x t : ℤ) → (is_below next t ≡ true → t ≤ℤ x) → x <ℤ t → is_below next t ≡ false
later_than next x t f h = later_pick (is_below next t) x t f h

below_too : (next : Option ℤ) (t x : ℤ) → t <ℤ x → is_below next x ≡ true → is_below next t ≡ true
below_too None t x h e = refl
below_too (Some u) t x h e = let less = lt_of x u e in yes_lt t u (omega (arith, ints))

split_here : (p : ℤ) (next : Option ℤ) (t : ℤ) (ts : List ℤ) → IsRising (t ∷ ts) → is_below next t ≡ true → AllByRecursion (λ u. is_below next u ≡ true → u ≤ℤ t) (t ∷ ts) → p <ℤ t → times_between p next (t ∷ ts) ≡ times_between p (Some t) (t ∷ ts) ++ t ∷ []
split_here p next t ts up below all less =
    let later = all_both (λ u. t <ℤ u) (λ u. is_below next u ≡ true → u ≤ℤ t) (λ u. (int_lt p u && is_below next u) ≡ false) ts (λ u h f. ap (λ b. int_lt p u && b) (later_than next t u f h) ∙ and_no (int_lt p u)) up.0 all.1 in
    let none = all_along (λ u. t <ℤ u) (λ u. (int_lt p u && int_lt u t) ≡ false) ts (λ u h. ap (λ b. int_lt p u && b) (no_lt t u (omega (arith, ints))) ∙ and_no (int_lt p u)) up.0 in
    filter-step (λ u. int_lt p u && is_below next u) t ts true (ap (λ b. b && is_below next t) (yes_lt p t less) ∙ below)
    ∙ ap (λ us. t ∷ us) (filter_none (λ u. int_lt p u && is_below next u) ts later)
    ∙ ap (λ us. us ++ t ∷ []) (sym (filter-step (λ u. int_lt p u && int_lt u t) t ts false (ap (λ b. int_lt p t && b) (no_lt_same t) ∙ and_no (int_lt p t)) ∙ filter_none (λ u. int_lt p u && int_lt u t) ts none))

split_step : (p : ℤ) (next : Option ℤ) (x t : ℤ) (ts : List ℤ) (b : Bool) → int_lt p t ≡ b → is_below next t ≡ true → int_lt t x ≡ true → times_between p next ts ≡ times_between p (Some x) ts ++ x ∷ [] → times_between p next (t ∷ ts) ≡ times_between p (Some x) (t ∷ ts) ++ x ∷ []
split_step p next x t ts true e first one rest =
    filter-step (λ u. int_lt p u && is_below next u) t ts true (ap (λ b. b && is_below next t) e ∙ first) ∙ ap (λ us. t ∷ us) rest
    ∙ ap (λ us. us ++ x ∷ []) (sym (filter-step (λ u. int_lt p u && int_lt u x) t ts true (ap (λ b. b && int_lt t x) e ∙ one)))
split_step p next x t ts false e first one rest =
    filter-step (λ u. int_lt p u && is_below next u) t ts false (ap (λ b. b && is_below next t) e) ∙ rest
    ∙ ap (λ us. us ++ x ∷ []) (sym (filter-step (λ u. int_lt p u && int_lt u x) t ts false (ap (λ b. b && int_lt t x) e)))

split : (p : ℤ) (next : Option ℤ) (x : ℤ) (ts : List ℤ) → IsRising ts → IsAmong x ts → is_below next x ≡ true → AllByRecursion (λ u. is_below next u ≡ true → u ≤ℤ x) ts → p <ℤ x → times_between p next ts ≡ times_between p (Some x) ts ++ x ∷ []
split p next x [] up has below all less = absurd has
split p next x (t ∷ ts) up (inl e) below all less = subst (λ y. is_below next y ≡ true → AllByRecursion (λ u. is_below next u ≡ true → u ≤ℤ y) (t ∷ ts) → p <ℤ y → times_between p next (t ∷ ts) ≡ times_between p (Some y) (t ∷ ts) ++ y ∷ []) e (split_here p next t ts up) below all less
split p next x (t ∷ ts) up (inr has) below all less =
    let under = all_has (λ u. t <ℤ u) x ts up.0 has in
    let yes = below_too next t x under below in
    let one = yes_lt t x under in
    let rest = split p next x ts up.1 has below all.1 less in
    split_step p next x t ts (int_lt p t) refl yes one rest

-- the times before the next are those before the latest of them, and it
pub split_latest : (p : ℤ) (next : Option ℤ) (x : ℤ) (ts : List ℤ) → IsRising ts → IsLatest next ts x → p <ℤ x → times_between p next ts ≡ times_between p (Some x) ts ++ x ∷ []
split_latest p next x ts up h less = split p next x ts up h.has h.below h.latest less
