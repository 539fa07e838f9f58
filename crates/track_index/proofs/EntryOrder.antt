-- Entries in order of presentation, and what the order finds.
use Rattle.std.proofs.Common.{◌≡◌, ◌∙◌, ℕ, zero, suc, ℤ, pos, ◌+◌, ◌-◌, ◌<◌, ◌≤◌, ◌+ℤ◌, ◌≤ℤ◌, ◌<ℤ◌, Bool, true, false, cond, ◌&&◌, List, [], ◌∷◌, length, ◌++◌, get_or, take, drop, insert, Option, Some, None, refl, sym, ap, subst, arith, add-one, fold, filter, int_le, int_lt}
use Rattle.std.specs.Option.{option_map, IfSome}
use Rattle.std.specs.List.{AllByRecursion}
use Rattle.std.proofs.lemmas.Int.{ints}
use Rattle.std.proofs.lemmas.List.{drop_more}
use Rattle.std.proofs.lemmas.List.Sums.{fold-append}
use native.Mathlib.Numerals.{unary_clauses}
use Rattle.mse_base.specs.declared.ticks.Moment.{Moment}
use Rattle.mse_base.specs.declared.ticks.Moment.TheVariants.{Nan, At, Infinite}
use Rattle.track_store.specs.declared.store.Stored.{Stored}
use Rattle.mse_base.specs.Moments.{is_before}
use Rattle.track_store.specs.Frames.{is_in_frame, later_frame, overlapped}
use Rattle.track_index.specs.declared.entry.OrderEntry.{OrderEntry}
use Rattle.track_index.specs.Order.{entries_with, entries_with_all, entry_of, is_in_entry, presentation_order, IsSorted, or_else, last_that}

pub lt_true : (a b : ℤ) → int_lt a b ≡ true → a <ℤ b
lt_true a b e = grind (arith, ints)

pub lt_of : (a b : ℤ) → int_lt a b ≡ true → a <ℤ b
lt_of a b e = grind (arith, ints)

pub ge_of : (a b : ℤ) → int_lt a b ≡ false → b ≤ℤ a
ge_of a b e = grind (arith, ints)

pub is_lt : (a b : ℤ) → a <ℤ b → int_lt a b ≡ true
is_lt a b h = grind (arith, ints)

pub not_lt : (a b : ℤ) → b ≤ℤ a → int_lt a b ≡ false
not_lt a b h = grind (arith, ints)

is_le : (a b : ℤ) → a ≤ℤ b → int_le a b ≡ true
is_le a b h = grind (arith, ints)

pub not_le : (a b : ℤ) → b <ℤ a → int_le a b ≡ false
not_le a b h = grind (arith, ints)

pub each_at : (P : OrderEntry → Type 0) (os : List OrderEntry) (i : ℕ) (d : OrderEntry) → i < length os → AllByRecursion P os → P (get_or os i d)
each_at P [] i d l h = absurd (omega arith)
each_at P (o ∷ os) zero d l h = h.0
each_at P (o ∷ os) (suc i) d l h = each_at P os i d (omega arith) h.1

pub each_weaker : (P Q : OrderEntry → Type 0) (os : List OrderEntry) → ((o : OrderEntry) → P o → Q o) → AllByRecursion P os → AllByRecursion Q os
each_weaker P Q [] f h = h
each_weaker P Q (o ∷ os) f h = (f o h.0, each_weaker P Q os f h.1)

pub each_both : (P Q : OrderEntry → Type 0) (os : List OrderEntry) → AllByRecursion P os → AllByRecursion Q os → AllByRecursion (λ o. P o × Q o) os
each_both P Q [] h k = h
each_both P Q (o ∷ os) h k = ((h.0, k.0), each_both P Q os h.1 k.1)

pub each_whole : (P : OrderEntry → Type 0) (os : List OrderEntry) (i : ℕ) → AllByRecursion P (take i os) → AllByRecursion P (drop i os) → AllByRecursion P os
each_whole P os zero h k = k
each_whole P [] (suc i) h k = h
each_whole P (o ∷ os) (suc i) h k = (h.0, each_whole P os i h.1 k)

pub each_take : (P : OrderEntry → Type 0) (os : List OrderEntry) (i : ℕ) → AllByRecursion P os → AllByRecursion P (take i os)
each_take P os zero h = tt
each_take P [] (suc i) h = h
each_take P (o ∷ os) (suc i) h = (h.0, each_take P os i h.1)

-- ---- binary search

pub below_suc : (os : List OrderEntry) (i : ℕ) (d : OrderEntry) (bound : ℤ) → IsSorted os → i < length os → (get_or os i d).pts <ℤ bound → AllByRecursion (λ o. o.pts <ℤ bound) (take (suc i) os)
below_suc [] i d bound h l e = absurd (omega arith)
below_suc (o ∷ os) zero d bound h l e = (e, tt)
below_suc (o ∷ os) (suc i) d bound h l e =
    let low : i < length os = omega arith in
    let next = each_at (λ p. o.pts ≤ℤ p.pts) os i d low h.0 in
    (omega (arith, ints), below_suc os i d bound h.1 low e)

pub below_more : (os : List OrderEntry) (i : ℕ) (r : OrderEntry) (bound : ℤ) → IsSorted os → i < length os → r ≡ get_or os i r → r.pts <ℤ bound → AllByRecursion (λ o. o.pts <ℤ bound) (take (i + 1) os)
below_more os i r bound h l at e = rw add-one (below_suc os i r bound h l (subst (λ (z : OrderEntry). z.pts <ℤ bound) at e))

from_head : (n bound : ℤ) (os : List OrderEntry) → bound ≤ℤ n → AllByRecursion (λ p. n ≤ℤ p.pts) os → AllByRecursion (λ p. bound ≤ℤ p.pts) os
from_head n bound [] l h = tt
from_head n bound (o ∷ os) l h = (let first = h.0 in omega (arith, ints), from_head n bound os l h.1)

above_at : (os : List OrderEntry) (i : ℕ) (d : OrderEntry) (bound : ℤ) → IsSorted os → i < length os → bound ≤ℤ (get_or os i d).pts → AllByRecursion (λ o. bound ≤ℤ o.pts) (drop i os)
above_at [] i d bound h l e = absurd (omega arith)
above_at (o ∷ os) zero d bound h l e = (e, from_head o.pts bound os e h.0)
above_at (o ∷ os) (suc i) d bound h l e = above_at os i d bound h.1 (omega arith) e

pub above_from : (os : List OrderEntry) (i : ℕ) (r : OrderEntry) (bound : ℤ) → IsSorted os → i < length os → r ≡ get_or os i r → int_lt r.pts bound ≡ false → AllByRecursion (λ o. bound ≤ℤ o.pts) (drop i os)
above_from os i r bound h l at e = above_at os i r bound h l (subst (λ (z : OrderEntry). bound ≤ℤ z.pts) at (ge_of r.pts bound e))

pub none_from_end : (P : OrderEntry → Type 0) (os : List OrderEntry) → AllByRecursion P (drop (length os) os)
none_from_end P [] = tt
none_from_end P (o ∷ os) = none_from_end P os

-- ---- the order

put_cases : (P : List OrderEntry → Type 0) (e o : OrderEntry) (os : List OrderEntry) (t : Bool) → P (e ∷ o ∷ os) → P (o ∷ entries_with e os) → P (cond t (e ∷ o ∷ os) (o ∷ entries_with e os))
put_cases P e o os true p q = p
put_cases P e o os false p q = q

pub each_put : (P : OrderEntry → Type 0) (e : OrderEntry) (os : List OrderEntry) → P e → AllByRecursion P os → AllByRecursion P (entries_with e os)
each_put P e [] p h = (p, tt)
each_put P e (o ∷ os) p h = put_cases (AllByRecursion P) e o os (int_lt e.pts o.pts) (p, h) (h.0, each_put P e os p h.1)

sorted_step : (e o : OrderEntry) (os : List OrderEntry) (t : Bool) → int_lt e.pts o.pts ≡ t → AllByRecursion (λ p. o.pts ≤ℤ p.pts) os → IsSorted os → IsSorted (entries_with e os) → IsSorted (cond t (e ∷ o ∷ os) (o ∷ entries_with e os))
sorted_step e o os true t a h k = let lt = lt_of e.pts o.pts t in ((omega (arith, ints), from_head o.pts e.pts os (omega (arith, ints)) a), (a, h))
sorted_step e o os false t a h k = let le = ge_of e.pts o.pts t in (each_put (λ p. o.pts ≤ℤ p.pts) e os le a, k)

pub sorted_put : (e : OrderEntry) (os : List OrderEntry) → IsSorted os → IsSorted (entries_with e os)
sorted_put e [] h = (tt, tt)
sorted_put e (o ∷ os) h = sorted_step e o os (int_lt e.pts o.pts) refl h.0 h.1 (sorted_put e os h.1)

sorted_all : (os : List OrderEntry) (fs : List Stored) → IsSorted os → IsSorted (entries_with_all os fs)
sorted_all os [] h = h
sorted_all os (f ∷ fs) h = sorted_all (entries_with (entry_of f) os) fs (sorted_put (entry_of f) os h)

pub sorted_ordered : (fs : List Stored) → IsSorted (presentation_order fs)
sorted_ordered fs = sorted_all [] fs tt

pub sorted_of : (os : List OrderEntry) (fs : List Stored) → os ≡ presentation_order fs → IsSorted os
sorted_of os fs e = subst (λ (ps : List OrderEntry). IsSorted ps) (sym e) (sorted_ordered fs)

put_here : (e : OrderEntry) (os : List OrderEntry) → AllByRecursion (λ o. (e.pts +ℤ pos 1) ≤ℤ o.pts) os → entries_with e os ≡ e ∷ os
put_here e [] h = refl
put_here e (o ∷ os) h = let first = h.0 in ap (λ b. cond b (e ∷ o ∷ os) (o ∷ entries_with e os)) (is_lt e.pts o.pts (omega (arith, ints)))

-- where an entry goes
pub put_at : (e : OrderEntry) (os : List OrderEntry) (i : ℕ) → AllByRecursion (λ o. o.pts <ℤ (e.pts +ℤ pos 1)) (take i os) → AllByRecursion (λ o. (e.pts +ℤ pos 1) ≤ℤ o.pts) (drop i os) → insert os i e ≡ entries_with e os
put_at e os zero h k = sym (put_here e os k)
put_at e [] (suc i) h k = refl
put_at e (o ∷ os) (suc i) h k = let first = h.0 in ap (λ ps. o ∷ ps) (put_at e os i h.1 k) ∙ ap (λ b. cond b (e ∷ o ∷ os) (o ∷ entries_with e os)) (sym (not_lt e.pts o.pts (omega (arith, ints))))

-- one more frame
pub ordered_push : (fs : List Stored) (x : Stored) → presentation_order (fs ++ x ∷ []) ≡ entries_with (entry_of x) (presentation_order fs)
ordered_push fs x = fold-append (λ os f. entries_with (entry_of f) os) [] fs (x ∷ [])

length_cond : (b : Bool) (e o : OrderEntry) (os : List OrderEntry) → length (entries_with e os) ≡ length os + 1 → length (cond b (e ∷ o ∷ os) (o ∷ entries_with e os)) ≡ length (o ∷ os) + 1
length_cond true e o os h = omega arith
length_cond false e o os h = omega arith

pub length_put : (e : OrderEntry) (os : List OrderEntry) → length (entries_with e os) ≡ length os + 1
length_put e [] = refl
length_put e (o ∷ os) = length_cond (int_lt e.pts o.pts) e o os (length_put e os)

length_all : (fs : List Stored) (os : List OrderEntry) → length (entries_with_all os fs) ≡ length os + length fs
length_all [] os = omega arith
length_all (f ∷ fs) os = let rest = length_all fs (entries_with (entry_of f) os) in let one = length_put (entry_of f) os in omega arith

pub length_ordered : (fs : List Stored) → length (presentation_order fs) ≡ length fs
length_ordered fs = let h = length_all fs [] in omega arith

-- what holds of each entry holds of each frame
un_put : (P : OrderEntry → Type 0) (e o : OrderEntry) (os : List OrderEntry) (t : Bool) → AllByRecursion P (cond t (e ∷ o ∷ os) (o ∷ entries_with e os)) → (AllByRecursion P (entries_with e os) → P e × AllByRecursion P os) → P e × AllByRecursion P (o ∷ os)
un_put P e o os true h f = h
un_put P e o os false h f = let k = f h.1 in (k.0, (h.0, k.1))

each_of_put : (P : OrderEntry → Type 0) (e : OrderEntry) (os : List OrderEntry) → AllByRecursion P (entries_with e os) → P e × AllByRecursion P os
each_of_put P e [] h = h
each_of_put P e (o ∷ os) h = un_put P e o os (int_lt e.pts o.pts) h (each_of_put P e os)

each_of_all : (P : OrderEntry → Type 0) (os : List OrderEntry) (fs : List Stored) → AllByRecursion P (entries_with_all os fs) → AllByRecursion P os × AllByRecursion (λ f. P (entry_of f)) fs
each_of_all P os [] h = (h, tt)
each_of_all P os (f ∷ fs) h =
    let k = each_of_all P (entries_with (entry_of f) os) fs h in
    let one = each_of_put P (entry_of f) os k.0 in
    (one.1, (one.0, k.1))

pub each_of_ordered : (P : OrderEntry → Type 0) (fs : List Stored) → AllByRecursion P (presentation_order fs) → AllByRecursion (λ f. P (entry_of f)) fs
each_of_ordered P fs h = (each_of_all P [] fs h).1

each_to_all : (P : OrderEntry → Type 0) (os : List OrderEntry) (fs : List Stored) → AllByRecursion P os → AllByRecursion (λ f. P (entry_of f)) fs → AllByRecursion P (entries_with_all os fs)
each_to_all P os [] h k = h
each_to_all P os (f ∷ fs) h k = each_to_all P (entries_with (entry_of f) os) fs (each_put P (entry_of f) os k.0 h) k.1

pub each_to_ordered : (P : OrderEntry → Type 0) (fs : List Stored) → AllByRecursion (λ f. P (entry_of f)) fs → AllByRecursion P (presentation_order fs)
each_to_ordered P fs k = each_to_all P [] fs tt k

-- ---- the entry that begins last of those that hold a time

abbrev later_entry : Option OrderEntry → OrderEntry → Option OrderEntry
later_entry None e = Some e
later_entry (Some o) e = cond (int_le o.pts e.pts) (Some e) (Some o)

abbrev pick : Bool → OrderEntry → Option OrderEntry
pick b e = cond b (Some e) None

or_each : (P : OrderEntry → Type 0) (r : Option OrderEntry) (b : Bool) (o : OrderEntry) → IfSome r P → P o → IfSome (or_else r (pick b o)) P
or_each P (Some x) b o h p = h
or_each P None true o h p = p
or_each P None false o h p = tt

last_each : (P : OrderEntry → Type 0) (c : OrderEntry → Bool) (os : List OrderEntry) → AllByRecursion P os → IfSome (last_that c os) P
last_each P c [] h = tt
last_each P c (o ∷ os) h = or_each P (last_that c os) (c o) o (last_each P c os h.1) h.0

-- a new entry before all that were found
put_first : (r : Option OrderEntry) (b : Bool) (e : OrderEntry) → IfSome r (λ x. e.pts <ℤ x.pts) → or_else r (pick b e) ≡ cond b (later_entry r e) r
put_first (Some x) true e h = ap (λ t. cond t (Some e) (Some x)) (sym (not_le x.pts e.pts h))
put_first (Some x) false e h = refl
put_first None true e h = refl
put_first None false e h = refl

or_cond : (t : Bool) (e x : OrderEntry) (y : Option OrderEntry) → or_else (cond t (Some e) (Some x)) y ≡ cond t (Some e) (Some x)
or_cond true e x y = refl
or_cond false e x y = refl

-- a new entry not before o
put_later : (r : Option OrderEntry) (b d : Bool) (e o : OrderEntry) → o.pts ≤ℤ e.pts → or_else (cond b (later_entry r e) r) (pick d o) ≡ cond b (later_entry (or_else r (pick d o)) e) (or_else r (pick d o))
put_later (Some x) true d e o h = or_cond (int_le x.pts e.pts) e x (pick d o)
put_later (Some x) false d e o h = refl
put_later None true true e o h = ap (λ t. cond t (Some e) (Some o)) (sym (is_le o.pts e.pts h))
put_later None true false e o h = refl
put_later None false d e o h = refl

above_all : (e o : OrderEntry) (os : List OrderEntry) → e.pts <ℤ o.pts → AllByRecursion (λ p. o.pts ≤ℤ p.pts) os → AllByRecursion (λ p. e.pts <ℤ p.pts) os
above_all e o [] l h = tt
above_all e o (p ∷ os) l h = (let first = h.0 in omega (arith, ints), above_all e o os l h.1)

last_step : (c : OrderEntry → Bool) (e o : OrderEntry) (os : List OrderEntry) (t : Bool) → int_lt e.pts o.pts ≡ t → AllByRecursion (λ p. o.pts ≤ℤ p.pts) os → last_that c (entries_with e os) ≡ cond (c e) (later_entry (last_that c os) e) (last_that c os) → last_that c (cond t (e ∷ o ∷ os) (o ∷ entries_with e os)) ≡ cond (c e) (later_entry (last_that c (o ∷ os)) e) (last_that c (o ∷ os))
last_step c e o os true k a ih = let lt = lt_of e.pts o.pts k in put_first (last_that c (o ∷ os)) (c e) e (last_each (λ x. e.pts <ℤ x.pts) c (o ∷ os) (lt, above_all e o os lt a))
last_step c e o os false k a ih = ap (λ r. or_else r (pick (c o) o)) ih ∙ put_later (last_that c os) (c e) (c o) e o (ge_of e.pts o.pts k)

-- what is found after an entry was put
last_put : (c : OrderEntry → Bool) (e : OrderEntry) (os : List OrderEntry) → IsSorted os → last_that c (entries_with e os) ≡ cond (c e) (later_entry (last_that c os) e) (last_that c os)
last_put c e [] h = refl
last_put c e (o ∷ os) h = last_step c e o os (int_lt e.pts o.pts) refl h.0 (last_put c e os h.1)

map_cond : (b : Bool) (x y : Option Stored) → cond b (option_map entry_of x) (option_map entry_of y) ≡ option_map entry_of (cond b x y)
map_cond true x y = refl
map_cond false x y = refl

later_same : (b : Option Stored) (f : Stored) → later_entry (option_map entry_of b) (entry_of f) ≡ option_map entry_of (later_frame b f)
later_same None f = refl
later_same (Some g) f = map_cond (int_le g.frame.pts f.frame.pts) (Some f) (Some g)

found_step : (t : ℤ) (os : List OrderEntry) (b : Option Stored) (f : Stored) (v : Bool) → is_in_frame t f ≡ v → IsSorted os → last_that (is_in_entry t) os ≡ option_map entry_of b → last_that (is_in_entry t) (entries_with (entry_of f) os) ≡ option_map entry_of (cond v (later_frame b f) b)
found_step t os b f true v up h = last_put (is_in_entry t) (entry_of f) os up ∙ ap (λ c. cond c (later_entry (last_that (is_in_entry t) os) (entry_of f)) (last_that (is_in_entry t) os)) v ∙ ap (λ o. later_entry o (entry_of f)) h ∙ later_same b f
found_step t os b f false v up h = last_put (is_in_entry t) (entry_of f) os up ∙ ap (λ c. cond c (later_entry (last_that (is_in_entry t) os) (entry_of f)) (last_that (is_in_entry t) os)) v ∙ h

fold_cond : (b : Option Stored) (v : Bool) (f : Stored) (gs : List Stored) → fold later_frame b (cond v (f ∷ gs) gs) ≡ fold later_frame (cond v (later_frame b f) b) gs
fold_cond b true f gs = refl
fold_cond b false f gs = refl

found_from : (t : ℤ) (fs : List Stored) (os : List OrderEntry) (b : Option Stored) → IsSorted os → last_that (is_in_entry t) os ≡ option_map entry_of b → last_that (is_in_entry t) (entries_with_all os fs) ≡ option_map entry_of (fold later_frame b (filter (is_in_frame t) fs))
found_from t [] os b up h = h
found_from t (f ∷ fs) os b up h =
    found_from t fs (entries_with (entry_of f) os) (cond (is_in_frame t f) (later_frame b f) b) (sorted_put (entry_of f) os up) (found_step t os b f (is_in_frame t f) refl up h)
    ∙ ap (option_map entry_of) (sym (fold_cond b (is_in_frame t f) f (filter (is_in_frame t) fs)))

-- the order's last entry that holds the time is that of the overlapped frame
pub found_ordered : (t : ℤ) (fs : List Stored) → last_that (is_in_entry t) (presentation_order fs) ≡ option_map entry_of (overlapped t fs)
found_ordered t fs = found_from t fs [] None tt refl

-- ---- the walk back from a time

pub last_none : (c : OrderEntry → Bool) (os : List OrderEntry) → AllByRecursion (λ o. c o ≡ false) os → last_that c os ≡ None
last_none c [] h = refl
last_none c (o ∷ os) h = ap (λ r. or_else r (pick (c o) o)) (last_none c os h.1) ∙ ap (λ b. pick b o) h.0

last_at_suc : (c : OrderEntry → Bool) (os : List OrderEntry) (i : ℕ) (d : OrderEntry) → i < length os → c (get_or os i d) ≡ true → AllByRecursion (λ o. c o ≡ false) (drop (suc i) os) → last_that c os ≡ Some (get_or os i d)
last_at_suc c [] i d l e h = absurd (omega arith)
last_at_suc c (o ∷ os) zero d l e h = ap (λ r. or_else r (pick (c o) o)) (last_none c os h) ∙ ap (λ b. pick b o) e
last_at_suc c (o ∷ os) (suc i) d l e h = ap (λ r. or_else r (pick (c o) o)) (last_at_suc c os i d (omega arith) e h)

pub last_at : (c : OrderEntry → Bool) (os : List OrderEntry) (i : ℕ) (r : OrderEntry) → 0 < i → i ≤ length os → r ≡ get_or os (i - 1) r → c r ≡ true → AllByRecursion (λ o. c o ≡ false) (drop i os) → Some r ≡ last_that c os
last_at c os zero r p l at e h = absurd (omega arith)
last_at c os (suc i) r p l at e h =
    let here : r ≡ get_or os i r = simp unary_clauses at at in
    ap (λ z. Some z) here ∙ sym (last_at_suc c os i r (omega arith) (subst (λ (z : OrderEntry). c z ≡ true) here e) h)

pub none_back : (c : OrderEntry → Bool) (os : List OrderEntry) (i : ℕ) (r : OrderEntry) → 0 < i → i ≤ length os → r ≡ get_or os (i - 1) r → c r ≡ false → AllByRecursion (λ o. c o ≡ false) (drop i os) → AllByRecursion (λ o. c o ≡ false) (drop (i - 1) os)
none_back c os zero r p l at e h = absurd (omega arith)
none_back c os (suc i) r p l at e h =
    let here : r ≡ get_or os i r = simp unary_clauses at at in
    let m : drop i os ≡ r ∷ drop (i + 1) os = drop_more os i r (omega arith) ∙ ap (λ z. z ∷ drop (i + 1) os) (sym here) in
    let k : (suc i - 1) ≡ i = omega arith in
    rw (k, m) (e, rw add-one h)

-- no entry from there on holds the time, since all begin after it
pub begin_later : (t : ℤ) (os : List OrderEntry) → AllByRecursion (λ o. (t +ℤ pos 1) ≤ℤ o.pts) os → AllByRecursion (λ o. is_in_entry t o ≡ false) os
begin_later t os h = each_weaker (λ o. (t +ℤ pos 1) ≤ℤ o.pts) (λ o. is_in_entry t o ≡ false) os (λ o k. ap (λ b. b && int_lt t (o.pts +ℤ o.dur)) (not_le o.pts t (omega (arith, ints)))) h

pub and_false : (b : Bool) → (b && false) ≡ false
and_false true = refl
and_false false = refl

pub late : (p q : ℤ) (m : Moment) → p ≤ℤ q → is_before p m ≡ false → is_before q m ≡ false
late p q (At m) l e = grind (arith, ints)
late p q Infinite l e = e
late p q Nan l e = e

true_false : (b : Bool) → b ≡ true → b ≡ false → ⊥
true_false true e f = cc
true_false false e f = cc

suc_each : (P : OrderEntry → Type 0) (os : List OrderEntry) (i : ℕ) (d : OrderEntry) → i < length os → AllByRecursion P (take i os) → P (get_or os i d) → AllByRecursion P (take (suc i) os)
suc_each P [] i d l h p = absurd (omega arith)
suc_each P (o ∷ os) zero d l h p = (p, tt)
suc_each P (o ∷ os) (suc i) d l h p = (h.0, suc_each P os i d (omega arith) h.1 p)

pub each_more : (P : OrderEntry → Type 0) (os : List OrderEntry) (i : ℕ) (r : OrderEntry) → i < length os → r ≡ get_or os i r → AllByRecursion P (take i os) → P r → AllByRecursion P (take (i + 1) os)
each_more P os i r l at h p = rw add-one (suc_each P os i r l h (subst P at p))

-- the last that passes, in two parts
or_assoc : (x y z : Option OrderEntry) → or_else (or_else x y) z ≡ or_else x (or_else y z)
or_assoc (Some x) y z = refl
or_assoc None y z = refl

or_none : (x : Option OrderEntry) → x ≡ or_else x None
or_none (Some x) = refl
or_none None = refl

pub last-append : (c : OrderEntry → Bool) (xs ys : List OrderEntry) → last_that c (xs ++ ys) ≡ or_else (last_that c ys) (last_that c xs)
last-append c [] ys = or_none (last_that c ys)
last-append c (x ∷ xs) ys = ap (λ r. or_else r (pick (c x) x)) (last-append c xs ys) ∙ or_assoc (last_that c ys) (last_that c xs) (pick (c x) x)

pub none_from_start : (c : OrderEntry → Bool) (os : List OrderEntry) (i : ℕ) → i ≤ 0 → AllByRecursion (λ o. c o ≡ false) (drop i os) → AllByRecursion (λ o. c o ≡ false) os
none_from_start c os zero l h = h
none_from_start c os (suc i) l h = absurd (omega arith)
