-- Entries by presentation timestamp and serial.
use Rattle.std.proofs.Common.{◌≡◌, ◌∙◌, ℕ, zero, suc, ℤ, pos, ◌+◌, ◌<◌, ◌≤◌, ◌+ℤ◌, ◌≤ℤ◌, ◌<ℤ◌, Bool, true, false, not, cond, ◌&&◌, ◌||◌, List, [], ◌∷◌, length, get_or, set, take, drop, insert, remove, map, filter, refl, sym, ap, subst, inl, inr, ◌⊎◌, arith, int_le, int_lt, nat_lt, nat_eq}
use Rattle.std.specs.List.{AllByRecursion, list_all, list_any}
use Rattle.std.proofs.lemmas.Int.{ints}
use Rattle.std.proofs.lemmas.List.{drop_more}
use Rattle.std.proofs.lemmas.Bool.Decides.{nat_tests}
use Rattle.mse_base.specs.declared.ticks.Moment.{Moment}
use Rattle.mse_base.specs.Rows.{row_items}
use Rattle.block_list.specs.Rows.{IsCut}
use Rattle.track_store.specs.declared.store.Stored.{Stored}
use Rattle.mse_base.specs.Moments.{is_before}
use Rattle.track_store.specs.Frames.{IsAscending}
use Rattle.track_index.specs.declared.entry.OrderEntry.{OrderEntry}
use Rattle.track_index.specs.declared.key.Key.{Key}
use Rattle.track_index.specs.Order.{entries_with, entries_with_all, entry_of, presentation_order, with_entry_dur}
use Rattle.track_index.specs.Keyed.{is_before_key, key_of, IsKeyed, has_entry_serial, is_entry_named, IsNamedAt, IsFound}
use Rattle.track_index.proofs.EntryOrder.{each_weaker, each_both, each_whole, each_take, each_put, put_at, lt_of, ge_of, is_lt, not_lt, late}

-- ---- the test of a key

or_true : (a b : Bool) → (a || b) ≡ true → (a ≡ true) ⊎ (b ≡ true)
or_true true b e = inl refl
or_true false b e = inr e

and_true : (a b : Bool) → (a && b) ≡ true → (a ≡ true) × (b ≡ true)
and_true true b e = (refl, e)
and_true false b e = absurd cc

or_false : (a b : Bool) → (a || b) ≡ false → (a ≡ false) × (b ≡ false)
or_false true b e = absurd cc
or_false false b e = (refl, e)

and_false : (a b : Bool) → (a && b) ≡ false → (a ≡ false) ⊎ (b ≡ false)
and_false true b e = inr e
and_false false b e = inl refl

le_of : (a b : ℤ) → int_le a b ≡ true → a ≤ℤ b
le_of a b e = grind (arith, ints)

gt_of : (a b : ℤ) → int_le a b ≡ false → b <ℤ a
gt_of a b e = grind (arith, ints)

is_le : (a b : ℤ) → a ≤ℤ b → int_le a b ≡ true
is_le a b h = grind (arith, ints)

not_le : (a b : ℤ) → b <ℤ a → int_le a b ≡ false
not_le a b h = grind (arith, ints)

less_of : (a b : ℕ) → nat_lt a b ≡ true → a < b
less_of a b e = grind (arith, nat_tests)

more_of : (a b : ℕ) → nat_lt a b ≡ false → b ≤ a
more_of a b e = grind (arith, nat_tests)

is_less : (a b : ℕ) → a < b → nat_lt a b ≡ true
is_less a b h = grind (arith, nat_tests)

not_less : (a b : ℕ) → b ≤ a → nat_lt a b ≡ false
not_less a b h = grind (arith, nat_tests)

-- before the key: earlier, or at its time with a lower serial
pub before_parts : (k : Key) (o : OrderEntry) → is_before_key k o ≡ true → (o.pts <ℤ k.mark) ⊎ ((o.pts ≤ℤ k.mark) × (o.serial < k.serial))
before_parts k o e = elim (or_true (int_lt o.pts k.mark) (int_le o.pts k.mark && nat_lt o.serial k.serial) e) as (λ _. (o.pts <ℤ k.mark) ⊎ ((o.pts ≤ℤ k.mark) × (o.serial < k.serial))) [
  | inl a ↦ inl (lt_of o.pts k.mark a)
  | inr b ↦ (let p = and_true (int_le o.pts k.mark) (nat_lt o.serial k.serial) b in inr (le_of o.pts k.mark p.0, less_of o.serial k.serial p.1))
]

pub behind_parts : (k : Key) (o : OrderEntry) → is_before_key k o ≡ false → (k.mark ≤ℤ o.pts) × ((k.mark <ℤ o.pts) ⊎ (k.serial ≤ o.serial))
behind_parts k o e =
    let p = or_false (int_lt o.pts k.mark) (int_le o.pts k.mark && nat_lt o.serial k.serial) e in (
      ge_of o.pts k.mark p.0,
      elim (and_false (int_le o.pts k.mark) (nat_lt o.serial k.serial) p.1) as (λ _. (k.mark <ℤ o.pts) ⊎ (k.serial ≤ o.serial)) [
        | inl a ↦ inl (gt_of o.pts k.mark a)
        | inr b ↦ inr (more_of o.serial k.serial b)
      ],
    )

or_first : (a b : Bool) → a ≡ true → (a || b) ≡ true
or_first a b e = ap (λ x. x || b) e

or_second : (a b : Bool) → b ≡ true → (a || b) ≡ true
or_second true b e = refl
or_second false b e = e

pub before_time : (k : Key) (o : OrderEntry) → o.pts <ℤ k.mark → is_before_key k o ≡ true
before_time k o h = or_first (int_lt o.pts k.mark) _ (is_lt o.pts k.mark h)

pub before_serial : (k : Key) (o : OrderEntry) → o.pts ≤ℤ k.mark → o.serial < k.serial → is_before_key k o ≡ true
before_serial k o h s = or_second (int_lt o.pts k.mark) (int_le o.pts k.mark && nat_lt o.serial k.serial) (ap (λ x. x && nat_lt o.serial k.serial) (is_le o.pts k.mark h) ∙ is_less o.serial k.serial s)

neither : (a b : Bool) → a ≡ false → b ≡ false → (a || b) ≡ false
neither a b e f = ap (λ x. x || b) e ∙ f

no_second : (a b : Bool) → b ≡ false → (a && b) ≡ false
no_second true b e = e
no_second false b e = refl

pub not_before_time : (k : Key) (o : OrderEntry) → k.mark <ℤ o.pts → is_before_key k o ≡ false
not_before_time k o h = neither (int_lt o.pts k.mark) _ (not_lt o.pts k.mark (omega (arith, ints))) (ap (λ x. x && nat_lt o.serial k.serial) (not_le o.pts k.mark h))

pub not_before_serial : (k : Key) (o : OrderEntry) → k.mark ≤ℤ o.pts → k.serial ≤ o.serial → is_before_key k o ≡ false
not_before_serial k o h s = neither (int_lt o.pts k.mark) _ (not_lt o.pts k.mark h) (no_second (int_le o.pts k.mark) (nat_lt o.serial k.serial) (not_less o.serial k.serial s))

-- what stands behind an entry that is not before the key is not before it
pub after_key : (k : Key) (o p : OrderEntry) → is_before_key (key_of p) o ≡ true → is_before_key k o ≡ false → is_before_key k p ≡ false
after_key k o p b e =
    let q = behind_parts k o e in
    let q0 = q.0 in
    elim (before_parts (key_of p) o b) as (λ _. is_before_key k p ≡ false) [
      | inl earlier ↦ not_before_time k p (omega (arith, ints))
      | inr tie ↦ (let t0 = tie.0 in let t1 = tie.1 in elim q.1 as (λ _. is_before_key k p ≡ false) [
        | inl late ↦ not_before_time k p (omega (arith, ints))
        | inr more ↦ not_before_serial k p (omega (arith, ints)) (omega arith)
      ])
    ]

-- of two entries one of which stands before the other, that is not before the first
pub not_back : (o p : OrderEntry) → is_before_key (key_of p) o ≡ true → is_before_key (key_of o) p ≡ false
not_back o p b = elim (before_parts (key_of p) o b) as (λ _. is_before_key (key_of o) p ≡ false) [
  | inl earlier ↦ not_before_time (key_of o) p earlier
  | inr tie ↦ (let t1 = tie.1 in not_before_serial (key_of o) p tie.0 (omega arith))
]

pub not_itself : (o : OrderEntry) → is_before_key (key_of o) o ≡ false
not_itself o = not_before_serial (key_of o) o (omega (arith, ints)) (omega arith)

pub later_start : (o p : OrderEntry) → is_before_key (key_of p) o ≡ true → o.pts ≤ℤ p.pts
later_start o p b = elim (before_parts (key_of p) o b) as (λ _. o.pts ≤ℤ p.pts) [ inl earlier ↦ omega (arith, ints) | inr tie ↦ tie.0 ]

pub cut_keyed : (k : Key) (os : List OrderEntry) → IsKeyed os → IsCut (is_before_key k) os
cut_keyed k [] h = tt
cut_keyed k (o ∷ os) h = (λ e. each_weaker (λ p. is_before_key (key_of p) o ≡ true) (λ p. is_before_key k p ≡ false) os (λ p a. after_key k o p a e) h.0, cut_keyed k os h.1)

-- ---- the order is by key

keyed_step : (e o : OrderEntry) (os : List OrderEntry) (t : Bool) → int_lt e.pts o.pts ≡ t → AllByRecursion (λ p. is_before_key (key_of p) o ≡ true) os → IsKeyed os → o.serial < e.serial → IsKeyed (entries_with e os) → IsKeyed (cond t (e ∷ o ∷ os) (o ∷ entries_with e os))
keyed_step e o os true t a h s k =
    let lt = lt_of e.pts o.pts t in
    ((before_time (key_of o) e lt, each_weaker (λ p. is_before_key (key_of p) o ≡ true) (λ p. is_before_key (key_of p) e ≡ true) os (λ p b. let later = later_start o p b in before_time (key_of p) e (omega (arith, ints))) a), (a, h))
keyed_step e o os false t a h s k = (each_put (λ p. is_before_key (key_of p) o ≡ true) e os (before_serial (key_of e) o (ge_of e.pts o.pts t) s) a, k)

pub keyed_put : (e : OrderEntry) (os : List OrderEntry) → IsKeyed os → AllByRecursion (λ o. o.serial < e.serial) os → IsKeyed (entries_with e os)
keyed_put e [] h l = (tt, tt)
keyed_put e (o ∷ os) h l = keyed_step e o os (int_lt e.pts o.pts) refl h.0 h.1 l.0 (keyed_put e os h.1 l.1)

abbrev AreSerialsBelow : List OrderEntry → List Stored → Type 0
AreSerialsBelow os fs = AllByRecursion (λ f. AllByRecursion (λ o. o.serial < f.serial) os) fs

above_put : (x : Stored) (os : List OrderEntry) (fs : List Stored) → AllByRecursion (λ f. x.serial < f.serial) fs → AreSerialsBelow os fs → AreSerialsBelow (entries_with (entry_of x) os) fs
above_put x os [] u a = tt
above_put x os (f ∷ fs) u a = (each_put (λ o. o.serial < f.serial) (entry_of x) os u.0 a.0, above_put x os fs u.1 a.1)

keyed_all : (os : List OrderEntry) (fs : List Stored) → IsKeyed os → IsAscending fs → AreSerialsBelow os fs → IsKeyed (entries_with_all os fs)
keyed_all os [] h u a = h
keyed_all os (f ∷ fs) h u a = keyed_all (entries_with (entry_of f) os) fs (keyed_put (entry_of f) os h a.0) u.1 (above_put f os fs u.0 a.1)

above_none : (fs : List Stored) → AreSerialsBelow [] fs
above_none [] = tt
above_none (f ∷ fs) = (tt, above_none fs)

pub keyed_ordered : (fs : List Stored) → IsAscending fs → IsKeyed (presentation_order fs)
keyed_ordered fs u = keyed_all [] fs tt u (above_none fs)

pub keyed_of : (os : List OrderEntry) (fs : List Stored) → os ≡ presentation_order fs → IsAscending fs → IsKeyed os
keyed_of os fs e u = subst IsKeyed (sym e) (keyed_ordered fs u)

-- ---- places by key

pub low_of : (m : ℤ) (o : OrderEntry) → is_before_key (record { mark = m; serial = 0 }) o ≡ true → o.pts <ℤ m
low_of m o e = elim (before_parts (record { mark = m; serial = 0 }) o e) as (λ _. o.pts <ℤ m) [ inl early ↦ early | inr tie ↦ (let t1 = tie.1 in absurd (omega arith)) ]

high_of : (m : ℤ) (o : OrderEntry) → is_before_key (record { mark = m; serial = 0 }) o ≡ false → m ≤ℤ o.pts
high_of m o e = (behind_parts (record { mark = m; serial = 0 }) o e).0

pub lows : (m : ℤ) (os : List OrderEntry) → AllByRecursion (λ o. is_before_key (record { mark = m; serial = 0 }) o ≡ true) os → AllByRecursion (λ o. o.pts <ℤ m) os
lows m os h = each_weaker (λ o. is_before_key (record { mark = m; serial = 0 }) o ≡ true) (λ o. o.pts <ℤ m) os (low_of m) h

pub highs : (m : ℤ) (os : List OrderEntry) → AllByRecursion (λ o. is_before_key (record { mark = m; serial = 0 }) o ≡ false) os → AllByRecursion (λ o. m ≤ℤ o.pts) os
highs m os h = each_weaker (λ o. is_before_key (record { mark = m; serial = 0 }) o ≡ false) (λ o. m ≤ℤ o.pts) os (high_of m) h

pub put_by_key : (e : OrderEntry) (os : List OrderEntry) (i : ℕ) (m : ℤ) → m ≡ (e.pts +ℤ pos 1) → AllByRecursion (λ o. is_before_key (record { mark = m; serial = 0 }) o ≡ true) (take i os) → AllByRecursion (λ o. is_before_key (record { mark = m; serial = 0 }) o ≡ false) (drop i os) → insert os i e ≡ entries_with e os
put_by_key e os i m z h k = put_at e os i (subst (λ (n : ℤ). AllByRecursion (λ o. o.pts <ℤ n) (take i os)) z (lows m (take i os) h)) (subst (λ (n : ℤ). AllByRecursion (λ o. n ≤ℤ o.pts) (drop i os)) z (highs m (drop i os) k))

keyed_drop : (os : List OrderEntry) (i : ℕ) → IsKeyed os → IsKeyed (drop i os)
keyed_drop os zero h = h
keyed_drop [] (suc i) h = h
keyed_drop (o ∷ os) (suc i) h = keyed_drop os i h.1

each_drop : (P : OrderEntry → Type 0) (os : List OrderEntry) (n : ℕ) → AllByRecursion P os → AllByRecursion P (drop n os)
each_drop P os zero h = h
each_drop P [] (suc n) h = h
each_drop P (o ∷ os) (suc n) h = each_drop P os n h.1

pub any_none : (c : OrderEntry → Bool) (os : List OrderEntry) → AllByRecursion (λ o. c o ≡ false) os → list_any c os ≡ false
any_none c [] h = refl
any_none c (o ∷ os) h = ap (λ b. b || list_any c os) h.0 ∙ any_none c os h.1

pub any_at : (c : OrderEntry → Bool) (os : List OrderEntry) (i : ℕ) (d : OrderEntry) → i < length os → c (get_or os i d) ≡ true → list_any c os ≡ true
any_at c [] i d l e = absurd (omega arith)
any_at c (o ∷ os) zero d l e = or_first (c o) _ e
any_at c (o ∷ os) (suc i) d l e = or_second (c o) _ (any_at c os i d (omega arith) e)

other : (n m : ℕ) → (n ≡ m → ⊥) → nat_eq n m ≡ false
other n m h = grind (arith, nat_tests)

pub same_serial : (n m : ℕ) → nat_eq n m ≡ true → n ≡ m
same_serial n m e = grind (arith, nat_tests)

true_false : (b : Bool) → b ≡ true → b ≡ false → ⊥
true_false true e f = cc
true_false false e f = cc

bool_cases : (b : Bool) → (b ≡ true) ⊎ (b ≡ false)
bool_cases true = inl refl
bool_cases false = inr refl

take_whole : (os : List OrderEntry) (n : ℕ) → length os ≤ n → take n os ≡ os
take_whole [] zero l = refl
take_whole [] (suc n) l = refl
take_whole (o ∷ os) zero l = absurd (omega arith)
take_whole (o ∷ os) (suc n) l = ap (λ zs. o ∷ zs) (take_whole os n (omega arith))

get_same : (os : List OrderEntry) (i : ℕ) (d e : OrderEntry) → i < length os → get_or os i d ≡ get_or os i e
get_same [] i d e l = absurd (omega arith)
get_same (o ∷ os) zero d e l = refl
get_same (o ∷ os) (suc i) d e l = get_same os i d e (omega arith)

-- an entry of the serial is at the key
at_key : (t : ℤ) (n : ℕ) (o : OrderEntry) → (o.serial ≡ n → o.pts ≡ t) → is_before_key (record { mark = t; serial = n }) o ≡ true → nat_eq o.serial n ≡ false
at_key t n o own b = other o.serial n (λ s. let p = own s in true_false (is_before_key (record { mark = t; serial = n }) o) b (not_before_serial (record { mark = t; serial = n }) o (omega (arith, ints)) (omega arith)))

behind_key : (t : ℤ) (n : ℕ) (y o : OrderEntry) → (o.serial ≡ n → o.pts ≡ t) → is_before_key (record { mark = t; serial = n }) y ≡ false → is_before_key (key_of o) y ≡ true → nat_eq o.serial n ≡ false
behind_key t n y o own e b = other o.serial n (λ s.
    let p = own s in
    let q = behind_parts (record { mark = t; serial = n }) y e in
    let q0 = q.0 in
    elim (before_parts (key_of o) y b) as (λ _. ⊥) [
      | inl early ↦ omega (arith, ints)
      | inr tie ↦ (let t0 = tie.0 in let t1 = tie.1 in elim q.1 as (λ _. ⊥) [ inl late ↦ omega (arith, ints) | inr more ↦ omega arith ])
    ])

names_found : (t : ℤ) (n : ℕ) (os : List OrderEntry) (k : ℕ) → IsKeyed os → AllByRecursion (λ o. o.serial ≡ n → o.pts ≡ t) os → list_any (has_entry_serial n) os ≡ true → AllByRecursion (λ o. has_entry_serial n o ≡ false) (take k os) → AllByRecursion (λ o. is_before_key (record { mark = t; serial = n }) o ≡ false) (drop k os) → IsNamedAt n os k
names_found t n [] k keyed own held before high = absurd cc
names_found t n (y ∷ os) zero keyed own held before high =
    let rest = each_weaker (λ o. (o.serial ≡ n → o.pts ≡ t) × (is_before_key (key_of o) y ≡ true)) (λ o. has_entry_serial n o ≡ false) os (λ o p. behind_key t n y o p.0 high.0 p.1) (each_both (λ o. o.serial ≡ n → o.pts ≡ t) (λ o. is_before_key (key_of o) y ≡ true) os own.1 keyed.0) in
    let mine : has_entry_serial n y ≡ true = elim (bool_cases (has_entry_serial n y)) as (λ _. has_entry_serial n y ≡ true) [ inl e ↦ e | inr f ↦ absurd (true_false _ held (any_none (has_entry_serial n) (y ∷ os) (f, rest))) ] in
    record { within = omega arith; own = λ d. same_serial y.serial n mine; before = tt; behind = rest }
names_found t n (y ∷ os) (suc k) keyed own held before high =
    let less = names_found t n os k keyed.1 own.1 (sym (ap (λ b. b || list_any (has_entry_serial n) os) before.0) ∙ held) before.1 high in
    let z : suc k + 1 ≡ suc (k + 1) = omega arith in
    record { within = omega (arith, less.within); own = less.own; before = (before.0, less.before); behind = rw z less.behind }

pub names_at : (t : ℤ) (n : ℕ) (os : List OrderEntry) (k : ℕ) → IsKeyed os → AllByRecursion (λ o. o.serial ≡ n → o.pts ≡ t) os → list_any (has_entry_serial n) os ≡ true → AllByRecursion (λ o. is_before_key (record { mark = t; serial = n }) o ≡ true) (take k os) → AllByRecursion (λ o. is_before_key (record { mark = t; serial = n }) o ≡ false) (drop k os) → IsNamedAt n os k
names_at t n os k keyed own held low high =
    let before = each_weaker (λ o. (o.serial ≡ n → o.pts ≡ t) × (is_before_key (record { mark = t; serial = n }) o ≡ true)) (λ o. has_entry_serial n o ≡ false) (take k os) (λ o p. at_key t n o p.0 p.1) (each_both (λ o. o.serial ≡ n → o.pts ≡ t) (λ o. is_before_key (record { mark = t; serial = n }) o ≡ true) (take k os) (each_take (λ o. o.serial ≡ n → o.pts ≡ t) os k own) low) in
    names_found t n os k keyed own held before high

-- ---- one entry taken out or changed

filter_all : (q : OrderEntry → Bool) (os : List OrderEntry) → AllByRecursion (λ o. q o ≡ false) os → os ≡ filter (λ o. not (q o)) os
filter_all q [] h = refl
filter_all q (o ∷ os) h = ap (λ zs. o ∷ zs) (filter_all q os h.1) ∙ sym (ap (λ b. cond (not b) (o ∷ filter (λ o. not (q o)) os) (filter (λ o. not (q o)) os)) h.0)

filter_out : (q : OrderEntry → Bool) (os : List OrderEntry) (k : ℕ) (d : OrderEntry) → k < length os → q (get_or os k d) ≡ true → AllByRecursion (λ o. q o ≡ false) (take k os) → AllByRecursion (λ o. q o ≡ false) (drop (k + 1) os) → remove os k ≡ filter (λ o. not (q o)) os
filter_out q [] k d l e h b = absurd (omega arith)
filter_out q (o ∷ os) zero d l e h b = filter_all q os b ∙ sym (ap (λ c. cond (not c) (o ∷ filter (λ o. not (q o)) os) (filter (λ o. not (q o)) os)) e)
filter_out q (o ∷ os) (suc k) d l e h b =
    let z : suc k + 1 ≡ suc (k + 1) = omega arith in
    ap (λ zs. o ∷ zs) (filter_out q os k d (omega arith) e h.1 (subst (λ (n : ℕ). AllByRecursion (λ o. q o ≡ false) (drop n (o ∷ os))) z b)) ∙ sym (ap (λ c. cond (not c) (o ∷ filter (λ o. not (q o)) os) (filter (λ o. not (q o)) os)) h.0)

has_own : (n m : ℕ) → n ≡ m → nat_eq n m ≡ true
has_own n m e = grind (arith, nat_tests)

some_entry : (os : List OrderEntry) (i : ℕ) → i < length os → OrderEntry
some_entry [] i l = absurd (omega arith)
some_entry (o ∷ os) i l = o

pub taken_out : (n : ℕ) (os : List OrderEntry) (k : ℕ) → IsNamedAt n os k → remove os k ≡ filter (λ o. not (has_entry_serial n o)) os
taken_out n os k h =
    let d = some_entry os k h.within in
    filter_out (has_entry_serial n) os k d h.within (has_own (get_or os k d).serial n (h.own d)) h.before h.behind

map_all : (f : OrderEntry → OrderEntry) (q : OrderEntry → Bool) (os : List OrderEntry) → ((o : OrderEntry) → q o ≡ false → f o ≡ o) → AllByRecursion (λ o. q o ≡ false) os → os ≡ map f os
map_all f q [] s h = refl
map_all f q (o ∷ os) s h = ap (λ zs. o ∷ zs) (map_all f q os s h.1) ∙ ap (λ z. z ∷ map f os) (sym (s o h.0))

map_one : (f : OrderEntry → OrderEntry) (q : OrderEntry → Bool) (os : List OrderEntry) (k : ℕ) (x : OrderEntry) → k < length os → ((o : OrderEntry) → q o ≡ false → f o ≡ o) → x ≡ f (get_or os k x) → AllByRecursion (λ o. q o ≡ false) (take k os) → AllByRecursion (λ o. q o ≡ false) (drop (k + 1) os) → set os k x ≡ map f os
map_one f q [] k x l s e h b = absurd (omega arith)
map_one f q (o ∷ os) zero x l s e h b = ap (λ z. z ∷ os) e ∙ ap (λ zs. f o ∷ zs) (map_all f q os s b)
map_one f q (o ∷ os) (suc k) x l s e h b =
    let z : suc k + 1 ≡ suc (k + 1) = omega arith in
    ap (λ zs. o ∷ zs) (map_one f q os k x (omega arith) s e h.1 (subst (λ (n : ℕ). AllByRecursion (λ o. q o ≡ false) (drop n (o ∷ os))) z b)) ∙ ap (λ y. y ∷ map f os) (sym (s o h.0))

other_dur : (n : ℕ) (dur : ℤ) (o : OrderEntry) → has_entry_serial n o ≡ false → with_entry_dur n dur o ≡ o
other_dur n dur o e = ap (λ c. record o { dur = cond c dur o.dur }) e

own_dur : (n : ℕ) (dur : ℤ) (o : OrderEntry) → nat_eq o.serial n ≡ true → record { pts = o.pts; dur = dur; serial = o.serial; sync = o.sync } ≡ with_entry_dur n dur o
own_dur n dur o e = sym (ap (λ c. record o { dur = cond c dur o.dur }) e)

pub shortened_at : (n : ℕ) (dur : ℤ) (os : List OrderEntry) (k : ℕ) (o : OrderEntry) → IsNamedAt n os k → o ≡ get_or os k o → set os k (record { pts = o.pts; dur = dur; serial = o.serial; sync = o.sync }) ≡ map (with_entry_dur n dur) os
shortened_at n dur os k o h at =
    let x : OrderEntry = record { pts = o.pts; dur = dur; serial = o.serial; sync = o.sync } in
    let mine = has_own o.serial n (ap (λ (z : OrderEntry). z.serial) at ∙ h.own o) in
    map_one (with_entry_dur n dur) (has_entry_serial n) os k (record { pts = o.pts; dur = dur; serial = o.serial; sync = o.sync }) h.within (other_dur n dur) (own_dur n dur o mine ∙ ap (with_entry_dur n dur) (at ∙ get_same os k o (record { pts = o.pts; dur = dur; serial = o.serial; sync = o.sync }) h.within)) h.before h.behind

-- ---- a front that passes a test

filter_none : (q : OrderEntry → Bool) (os : List OrderEntry) → AllByRecursion (λ o. q o ≡ false) os → filter q os ≡ []
filter_none q [] h = refl
filter_none q (o ∷ os) h = ap (λ b. cond b (o ∷ filter q os) (filter q os)) h.0 ∙ filter_none q os h.1

pub filter_front : (q : OrderEntry → Bool) (os : List OrderEntry) (n : ℕ) → AllByRecursion (λ o. q o ≡ true) (take n os) → AllByRecursion (λ o. q o ≡ false) (drop n os) → filter q os ≡ take n os
filter_front q os zero h k = filter_none q os k
filter_front q [] (suc n) h k = refl
filter_front q (o ∷ os) (suc n) h k = ap (λ b. cond b (o ∷ filter q os) (filter q os)) h.0 ∙ ap (λ zs. o ∷ zs) (filter_front q os n h.1 k)

filter_every : (q : OrderEntry → Bool) (os : List OrderEntry) → AllByRecursion (λ o. q o ≡ true) os → filter q os ≡ os
filter_every q [] h = refl
filter_every q (o ∷ os) h = ap (λ b. cond b (o ∷ filter q os) (filter q os)) h.0 ∙ ap (λ zs. o ∷ zs) (filter_every q os h.1)

pub filter_back : (q : OrderEntry → Bool) (os : List OrderEntry) (n : ℕ) → AllByRecursion (λ o. q o ≡ false) (take n os) → AllByRecursion (λ o. q o ≡ true) (drop n os) → filter q os ≡ drop n os
filter_back q os zero h k = filter_every q os k
filter_back q [] (suc n) h k = refl
filter_back q (o ∷ os) (suc n) h k = ap (λ b. cond b (o ∷ filter q os) (filter q os)) h.0 ∙ filter_back q os n h.1 k

-- ---- the first that is named

pub found_init : (key : Key) (to : Moment) (below : ℕ) (os : List OrderEntry) (i : ℕ) → AllByRecursion (λ o. is_before_key key o ≡ true) (take i os) → AllByRecursion (λ o. is_before_key key o ≡ false → is_entry_named to below o ≡ false) (take i os)
found_init key to below os i h = each_weaker (λ o. is_before_key key o ≡ true) (λ o. is_before_key key o ≡ false → is_entry_named to below o ≡ false) (take i os) (λ o e f. absurd (true_false _ e f)) h

rest_at : (os : List OrderEntry) (i : ℕ) (x : OrderEntry) → i < length os → x ≡ get_or os i x → drop i os ≡ x ∷ drop (i + 1) os
rest_at os i x l at = drop_more os i x l ∙ ap (λ z. z ∷ drop (i + 1) os) (sym at)

pub found_here : (key : Key) (to : Moment) (below : ℕ) (os : List OrderEntry) (i : ℕ) (x : OrderEntry) → IsKeyed os → i < length os → x ≡ get_or os i x → is_entry_named to below x ≡ true → AllByRecursion (λ o. is_before_key key o ≡ false) (drop i os) → AllByRecursion (λ o. is_before_key key o ≡ false → is_entry_named to below o ≡ false) (take i os) → IsFound key to below x os
found_here key to below os i x keyed l at named high passed =
    let m = rest_at os i x l at in
    let h = subst (λ (zs : List OrderEntry). AllByRecursion (λ o. is_before_key key o ≡ false) zs) m high in
    let k = subst IsKeyed m (keyed_drop os i keyed) in
    let behind = subst (λ (zs : List OrderEntry). AllByRecursion (λ o. is_before_key key o ≡ false → is_before_key (key_of x) o ≡ true → is_entry_named to below o ≡ false) zs) (sym m) (λ _ b. absurd (true_false _ b (not_itself x)), each_weaker (λ o. is_before_key (key_of o) x ≡ true) (λ o. is_before_key key o ≡ false → is_before_key (key_of x) o ≡ true → is_entry_named to below o ≡ false) (drop (i + 1) os) (λ o b _ c. absurd (true_false _ c (not_back x o b))) k.0) in
    record {
      named = named;
      from_key = h.0;
      place = i;
      within = l;
      at = at;
      passed = each_whole (λ o. is_before_key key o ≡ false → is_before_key (key_of x) o ≡ true → is_entry_named to below o ≡ false) os i (each_weaker (λ o. is_before_key key o ≡ false → is_entry_named to below o ≡ false) (λ o. is_before_key key o ≡ false → is_before_key (key_of x) o ≡ true → is_entry_named to below o ≡ false) (take i os) (λ o f b _. f b) passed) behind;
    }

unnamed_late : (to : Moment) (below : ℕ) (o : OrderEntry) → is_before o.pts to ≡ false → is_entry_named to below o ≡ false
unnamed_late to below o e = ap (λ b. b && nat_lt o.serial below) e

-- no entry is named from one on that does not begin before the moment
pub none_from : (key : Key) (to : Moment) (below : ℕ) (os : List OrderEntry) (i : ℕ) (x : OrderEntry) → IsKeyed os → i < length os → x ≡ get_or os i x → is_before x.pts to ≡ false → AllByRecursion (λ o. is_before_key key o ≡ false → is_entry_named to below o ≡ false) (take i os) → AllByRecursion (λ o. is_before_key key o ≡ false → is_entry_named to below o ≡ false) os
none_from key to below os i x keyed l at e passed =
    let m = rest_at os i x l at in
    let k = subst IsKeyed m (keyed_drop os i keyed) in
    each_whole (λ o. is_before_key key o ≡ false → is_entry_named to below o ≡ false) os i passed
    (subst (λ (zs : List OrderEntry). AllByRecursion (λ o. is_before_key key o ≡ false → is_entry_named to below o ≡ false) zs) (sym m)
    (λ _. unnamed_late to below x e, each_weaker (λ o. is_before_key (key_of o) x ≡ true) (λ o. is_before_key key o ≡ false → is_entry_named to below o ≡ false) (drop (i + 1) os) (λ o b _. unnamed_late to below o (late x.pts o.pts to (later_start x o b) e)) k.0))

pub none_at_end : (key : Key) (to : Moment) (below : ℕ) (os : List OrderEntry) (i : ℕ) → length os ≤ i → AllByRecursion (λ o. is_before_key key o ≡ false → is_entry_named to below o ≡ false) (take i os) → AllByRecursion (λ o. is_before_key key o ≡ false → is_entry_named to below o ≡ false) os
none_at_end key to below os i l h = subst (λ (zs : List OrderEntry). AllByRecursion (λ o. is_before_key key o ≡ false → is_entry_named to below o ≡ false) zs) (take_whole os i l) h

pub rest_next : (key : Key) (os : List OrderEntry) (i : ℕ) (x : OrderEntry) → i < length os → x ≡ get_or os i x → AllByRecursion (λ o. is_before_key key o ≡ false) (drop i os) → AllByRecursion (λ o. is_before_key key o ≡ false) (drop (i + 1) os)
rest_next key os i x l at h = (subst (λ (zs : List OrderEntry). AllByRecursion (λ o. is_before_key key o ≡ false) zs) (rest_at os i x l at) h).1

pub unnamed_serial : (to : Moment) (below : ℕ) (o : OrderEntry) → below ≤ o.serial → is_entry_named to below o ≡ false
unnamed_serial to below o l = no_second (is_before o.pts to) (nat_lt o.serial below) (not_less o.serial below l)

pub is_named_entry : (to : Moment) (below : ℕ) (o : OrderEntry) → is_before o.pts to ≡ true → o.serial < below → is_entry_named to below o ≡ true
is_named_entry to below o e l = ap (λ b. b && nat_lt o.serial below) e ∙ is_less o.serial below l

pub any_rows : (c : OrderEntry → Bool) (rows : List (List OrderEntry)) → list_any c (row_items rows) ≡ true → 0 < length rows
any_rows c [] e = absurd cc
any_rows c (r ∷ rows) e = omega arith

pub put_with : (e : OrderEntry) (os : List OrderEntry) (i : ℕ) (k : Key) → k ≡ record { mark = e.pts +ℤ pos 1; serial = 0 } → AllByRecursion (λ o. is_before_key k o ≡ true) (take i os) → AllByRecursion (λ o. is_before_key k o ≡ false) (drop i os) → insert os i e ≡ entries_with e os
put_with e os i k z h l = put_by_key e os i (e.pts +ℤ pos 1) refl (subst (λ (q : Key). AllByRecursion (λ o. is_before_key q o ≡ true) (take i os)) z h) (subst (λ (q : Key). AllByRecursion (λ o. is_before_key q o ≡ false) (drop i os)) z l)

-- what stands behind an entry begins no earlier
pub later_starts : (os : List OrderEntry) (i : ℕ) (x : OrderEntry) → IsKeyed os → i < length os → x ≡ get_or os i x → AllByRecursion (λ o. x.pts ≤ℤ o.pts) (drop i os)
later_starts os i x keyed l at =
    let m = rest_at os i x l at in
    let k = subst IsKeyed m (keyed_drop os i keyed) in
    subst (λ (zs : List OrderEntry). AllByRecursion (λ o. x.pts ≤ℤ o.pts) zs) (sym m) (omega (arith, ints), each_weaker (λ o. is_before_key (key_of o) x ≡ true) (λ o. x.pts ≤ℤ o.pts) (drop (i + 1) os) (λ o b. later_start x o b) k.0)

-- ---- all before a key

front_before : (k : Key) (o : OrderEntry) (os : List OrderEntry) (b : Bool) → 0 < length os → is_before_key k o ≡ b → AllByRecursion (λ p. is_before_key (key_of p) o ≡ true) os → list_all (is_before_key k) os ≡ (b && list_all (is_before_key k) os)
front_before k o os true l e h = refl
front_before k o [] false l e h = absurd (omega arith)
front_before k o (p ∷ os) false l e h = ap (λ b. b && list_all (is_before_key k) os) (after_key k o p h.0 e)

and_end : (b : Bool) → b ≡ (b && true)
and_end true = refl
and_end false = refl

-- all do where the last one does
pub all_before : (k : Key) (os : List OrderEntry) (m : ℕ) (x : OrderEntry) (b : Bool) → IsKeyed os → m + 1 ≡ length os → x ≡ get_or os m x → b ≡ is_before_key k x → b ≡ list_all (is_before_key k) os
all_before k [] m x b h l e q = absurd (omega arith)
all_before k (o ∷ []) zero x b h l e q = q ∙ ap (is_before_key k) e ∙ and_end (is_before_key k o)
all_before k (o ∷ p ∷ os) zero x b h l e q = absurd (omega arith)
all_before k (o ∷ os) (suc m) x b h l e q = all_before k os m x b h.1 (omega arith) e q ∙ front_before k o os (is_before_key k o) (omega arith) refl h.0

-- then no entry is named that does not
pub none_behind : (key : Key) (to : Moment) (below : ℕ) (os : List OrderEntry) → list_all (is_before_key key) os ≡ true → AllByRecursion (λ o. is_before_key key o ≡ false → is_entry_named to below o ≡ false) os
none_behind key to below [] e = tt
none_behind key to below (o ∷ os) e = let p = and_true (is_before_key key o) (list_all (is_before_key key) os) e in (λ f. absurd (true_false _ p.0 f), none_behind key to below os p.1)
