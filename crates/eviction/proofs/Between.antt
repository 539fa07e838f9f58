-- Looking for the latest time before another.
use Rattle.std.proofs.Common.{◌≡◌, ◌∙◌, ◌<◌, ℤ, ◌+ℤ◌, ◌<ℤ◌, ◌≤ℤ◌, int_lt, Bool, true, false, cond, ◌&&◌, List, [], ◌∷◌, ◌++◌, filter, Option, Some, None, refl, sym, ap, arith}
use Rattle.std.specs.List.{AllByRecursion}
use Rattle.std.specs.Int.{int_gap}
use Rattle.std.proofs.lemmas.Int.{ints}
use Rattle.mse_base.specs.Time.{IsTick, IsFloor, floor_div}
use Rattle.mse_base.proofs.Floors.{floor_is}
use Rattle.eviction.specs.Evicting.{first_of}
use Rattle.eviction.specs.Steps.{IsLatest, is_below, times_between}
use Rattle.eviction.specs.Times.{IsAmong}
use Rattle.eviction.specs.Times.{IsRising}
use Rattle.eviction.proofs.Times.{all_along, filter-step, filter_none, first_least, first_none}
use Rattle.eviction.proofs.Ranges.{and_parts, lt_of, not_lt_of, no_lt, split_latest}

-- ---- the middle

half_is : (low high q : ℤ) → low <ℤ high → IsFloor (low +ℤ high) 2 q → (low ≤ℤ q) × (q <ℤ high)
half_is low high q less h = let a = h.0 in let b = h.1 in (omega (arith, ints), omega (arith, ints))

pub half_between : (low high : ℤ) → low <ℤ high → (low ≤ℤ floor_div (low +ℤ high) 2) × (floor_div (low +ℤ high) 2 <ℤ high)
half_between low high less = half_is low high (floor_div (low +ℤ high) 2) less (floor_is (low +ℤ high) 2 (omega arith))

pub half_ticks : (low high q : ℤ) → IsTick low → IsTick high → (low ≤ℤ q) × (q <ℤ high) → IsTick q
half_ticks low high q h k b = let down = h.0 in let up = k.1 in let above = b.0 in let below = b.1 in (omega (arith, ints), omega (arith, ints))

-- ---- the first time between two

both-pick : (p q : ℤ → Bool) (u : ℤ) (ts : List ℤ) (t : ℤ) (b : Bool) → p u ≡ b → q t ≡ true → first_of (cond b (u ∷ filter p ts) (filter p ts)) ≡ Some t → (first_of (filter p ts) ≡ Some t → first_of (filter (λ v. p v && q v) ts) ≡ Some t) → first_of (filter (λ v. p v && q v) (u ∷ ts)) ≡ Some t
both-pick p q u ts t true e h first rest =
    let same : u ≡ t = cc in
    ap first_of (filter-step (λ v. p v && q v) u ts true (ap (λ b. b && q u) e ∙ ap q same ∙ h)) ∙ ap Some same
both-pick p q u ts t false e h first rest = ap first_of (filter-step (λ v. p v && q v) u ts false (ap (λ b. b && q u) e)) ∙ rest first

first_both : (p q : ℤ → Bool) (ts : List ℤ) (t : ℤ) → q t ≡ true → first_of (filter p ts) ≡ Some t → first_of (filter (λ v. p v && q v) ts) ≡ Some t
first_both p q [] t h e = absurd cc
first_both p q (u ∷ ts) t h e = both-pick p q u ts t (p u) refl h e (first_both p q ts t h)

pub first_between : (a : ℤ) (next : Option ℤ) (ts : List ℤ) (t : ℤ) → first_of (filter (int_lt a) ts) ≡ Some t → is_below next t ≡ true → Some t ≡ first_of (times_between a next ts)
first_between a next ts t e h = sym (first_both (int_lt a) (is_below next) ts t h e)

not_below : (next : Option ℤ) (t u : ℤ) → is_below next t ≡ false → t ≤ℤ u → is_below next u ≡ false
not_below None t u h le = h
not_below (Some n) t u h le = let high = not_lt_of t n h in no_lt n u (omega (arith, ints))

none_pick : (b : Bool) (next : Option ℤ) (t u : ℤ) → is_below next t ≡ false → (b ≡ true → t ≤ℤ u) → (b && is_below next u) ≡ false
none_pick true next t u h f = not_below next t u h (f refl)
none_pick false next t u h f = refl

pub none_between : (a : ℤ) (next : Option ℤ) (ts : List ℤ) (t : ℤ) → IsRising ts → first_of (filter (int_lt a) ts) ≡ Some t → is_below next t ≡ false → None ≡ first_of (times_between a next ts)
none_between a next ts t up e h =
    let facts = first_least (int_lt a) ts t up e in
    sym (ap first_of (filter_none (λ u. int_lt a u && is_below next u) ts (all_along (λ u. int_lt a u ≡ true → t ≤ℤ u) (λ u. (int_lt a u && is_below next u) ≡ false) ts (λ u f. none_pick (int_lt a u) next t u h f) facts.2)))

pub nothing_between : (a : ℤ) (next : Option ℤ) (ts : List ℤ) → first_of (filter (int_lt a) ts) ≡ None → None ≡ first_of (times_between a next ts)
nothing_between a next ts e =
    sym (ap first_of (filter_none (λ u. int_lt a u && is_below next u) ts (all_along (λ u. int_lt a u ≡ false) (λ u. (int_lt a u && is_below next u) ≡ false) ts (λ u f. ap (λ b. b && is_below next u) f) (first_none (int_lt a) ts e))))

pub first_empty : (ts : List ℤ) → first_of ts ≡ None → ts ≡ []
first_empty [] e = refl
first_empty (t ∷ ts) e = absurd cc

-- ---- halving

-- what is found between
pub record IsFound (a : ℤ) (next : Option ℤ) (ts : List ℤ) (t : ℤ) : Type 0 where
  pub after : a <ℤ t
  pub below : is_below next t ≡ true
  pub has : IsAmong t ts

pub found_between : (a : ℤ) (next : Option ℤ) (ts : List ℤ) (t : ℤ) → IsRising ts → first_of (times_between a next ts) ≡ Some t → IsFound a next ts t
found_between a next ts t up e =
    let facts = first_least (λ u. int_lt a u && is_below next u) ts t up e in
    let parts = and_parts (int_lt a t) (is_below next t) facts.0 in
    record { after = lt_of a t parts.0; below = parts.1; has = facts.1 }

lower_pick : (b : Bool) (next : Option ℤ) (a u : ℤ) → int_lt a u ≡ b → (b && is_below next u) ≡ false → is_below next u ≡ true → u ≤ℤ a
lower_pick true next a u e h below = absurd (let none = sym h ∙ below in cc)
lower_pick false next a u e h below = not_lt_of a u e

-- where nothing is found after a time, none of the times before the next is after it
pub lower : (a : ℤ) (next : Option ℤ) (ts : List ℤ) → first_of (times_between a next ts) ≡ None → AllByRecursion (λ u. is_below next u ≡ true → u ≤ℤ a) ts
lower a next ts e = all_along (λ u. (int_lt a u && is_below next u) ≡ false) (λ u. is_below next u ≡ true → u ≤ℤ a) ts (λ u h. lower_pick (int_lt a u) next a u refl h) (first_none (λ u. int_lt a u && is_below next u) ts e)

pub gap_above : (low high t : ℤ) → low <ℤ t → t ≤ℤ high → int_gap t high < int_gap low high
gap_above low high t less le = grind (arith, ints)

pub latest_of : (low high : ℤ) (next : Option ℤ) (ts : List ℤ) → IsAmong low ts → is_below next low ≡ true → AllByRecursion (λ u. is_below next u ≡ true → u ≤ℤ high) ts → high ≤ℤ low → IsLatest next ts low
latest_of low high next ts has below all le = record { has = has; below = below; latest = all_along (λ u. is_below next u ≡ true → u ≤ℤ high) (λ u. is_below next u ≡ true → u ≤ℤ low) ts (λ u f h. (let most = f h in omega (arith, ints))) all }

pub latest_between : (a : ℤ) (next : Option ℤ) (ts : List ℤ) (low t : ℤ) → IsRising ts → first_of (times_between a next ts) ≡ Some low → IsLatest next ts t → low ≤ℤ t → times_between a next ts ≡ times_between a (Some t) ts ++ t ∷ []
latest_between a next ts low t up e h le = let found = found_between a next ts low up e in let more = found.after in split_latest a next t ts up h (omega (arith, ints))
