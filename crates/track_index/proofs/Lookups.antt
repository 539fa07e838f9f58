-- The last start and the random access points, by the order.
use Rattle.std.proofs.Common.{◌≡◌, ◌∙◌, ℕ, zero, suc, ℤ, ◌+◌, ◌-◌, ◌<◌, ◌≤◌, ◌≤ℤ◌, ◌<ℤ◌, Bool, true, false, cond, not, ◌&&◌, List, [], ◌∷◌, length, get_or, take, drop, Option, Some, None, refl, sym, ap, subst, arith, fold, filter, int_lt}
use Rattle.std.specs.Option.{IfSome}
use Rattle.std.specs.List.{AllByRecursion}
use Rattle.std.proofs.lemmas.Int.{ints}
use Rattle.std.proofs.lemmas.List.{drop_more, drop_all}
use Rattle.mse_base.specs.declared.ticks.Moment.{Moment}
use Rattle.mse_base.specs.declared.ticks.Moment.TheVariants.{At, Infinite}
use Rattle.track_store.specs.declared.store.Stored.{Stored}
use Rattle.mse_base.specs.Moments.{is_before, greater_of, lesser_of, greatest, least}
use Rattle.track_store.specs.Frames.{starts, sync_times_from}
use Rattle.track_index.specs.declared.entry.OrderEntry.{OrderEntry}
use Rattle.track_index.specs.Order.{entries_with, entries_with_all, entry_of, presentation_order, IsSorted, start_from, last_start, is_sync_from, first_start}
use Rattle.track_index.proofs.EntryOrder.{sorted_put, lt_true, is_lt, each_weaker}

not_lt : (a b : ℤ) → b ≤ℤ a → int_lt a b ≡ false
not_lt a b h = grind (arith, ints)

ge_of : (a b : ℤ) → int_lt a b ≡ false → b ≤ℤ a
ge_of a b e = grind (arith, ints)

-- ---- the last start

last_get : (o : OrderEntry) (os : List OrderEntry) (d : OrderEntry) → (get_or (o ∷ os) (length os) d).pts ≡ start_from o os
last_get o [] d = refl
last_get o (p ∷ ps) d = last_get p ps d

pub last_at : (os : List OrderEntry) (d : OrderEntry) → 0 < length os → Some (get_or os (length os - 1) d).pts ≡ last_start os
last_at [] d h = absurd (omega arith)
last_at (o ∷ os) d h = let k : length (o ∷ os) - 1 ≡ length os = omega arith in ap (λ n. Some (get_or (o ∷ os) n d).pts) k ∙ ap (λ z. Some z) (last_get o os d)

start_after : (n : ℤ) (o : OrderEntry) (os : List OrderEntry) → n ≤ℤ o.pts → AllByRecursion (λ p. n ≤ℤ p.pts) os → n ≤ℤ start_from o os
start_after n o [] l h = l
start_after n o (p ∷ ps) l h = start_after n p ps h.0 h.1

start_skip : (o : OrderEntry) (e p : OrderEntry) (ps : List OrderEntry) (b : Bool) → last_start (o ∷ cond b (e ∷ p ∷ ps) (p ∷ entries_with e ps)) ≡ last_start (cond b (e ∷ p ∷ ps) (p ∷ entries_with e ps))
start_skip o e p ps true = refl
start_skip o e p ps false = refl

last_step : (e o : OrderEntry) (os : List OrderEntry) (t : Bool) → int_lt e.pts o.pts ≡ t → AllByRecursion (λ p. o.pts ≤ℤ p.pts) os → last_start (entries_with e os) ≡ greater_of (last_start os) e.pts → last_start (cond t (e ∷ o ∷ os) (o ∷ entries_with e os)) ≡ greater_of (last_start (o ∷ os)) e.pts
last_step e o os true k a ih =
    let lt = lt_true e.pts o.pts k in
    let far = start_after o.pts o os (omega (arith, ints)) a in
    ap (λ b. Some (cond b (start_from o os) e.pts)) (sym (is_lt e.pts (start_from o os) (omega (arith, ints))))
last_step e o [] false k a ih = ap (λ b. Some (cond b o.pts e.pts)) (sym k)
last_step e o (p ∷ ps) false k a ih = start_skip o e p ps (int_lt e.pts p.pts) ∙ ih

last_put : (e : OrderEntry) (os : List OrderEntry) → IsSorted os → last_start (entries_with e os) ≡ greater_of (last_start os) e.pts
last_put e [] h = refl
last_put e (o ∷ os) h = last_step e o os (int_lt e.pts o.pts) refl h.0 (last_put e os h.1)

last_all : (os : List OrderEntry) (fs : List Stored) → IsSorted os → last_start (entries_with_all os fs) ≡ fold greater_of (last_start os) (starts fs)
last_all os [] h = refl
last_all os (f ∷ fs) h = last_all (entries_with (entry_of f) os) fs (sorted_put (entry_of f) os h) ∙ ap (λ b. fold greater_of b (starts fs)) (last_put (entry_of f) os h)

pub highest_of : (fs : List Stored) (os : List OrderEntry) → os ≡ presentation_order fs → last_start os ≡ greatest (starts fs)
highest_of fs os e = ap last_start e ∙ last_all [] fs tt

-- ---- the first sync frame from a moment on

pick_each : (P : ℤ → Type 0) (b : Bool) (x : ℤ) (r : Option ℤ) → P x → IfSome r P → IfSome (cond b (Some x) r) P
pick_each P true x r p h = p
pick_each P false x r p h = h

first_each : (P : ℤ → Type 0) (c : OrderEntry → Bool) (os : List OrderEntry) → AllByRecursion (λ o. P o.pts) os → IfSome (first_start c os) P
first_each P c [] h = tt
first_each P c (o ∷ os) h = pick_each P (c o) o.pts (first_start c os) h.0 (first_each P c os h.1)

later_all : (e o : OrderEntry) (os : List OrderEntry) → e.pts <ℤ o.pts → AllByRecursion (λ p. o.pts ≤ℤ p.pts) os → AllByRecursion (λ p. e.pts <ℤ p.pts) os
later_all e o [] l h = tt
later_all e o (p ∷ os) l h = (let first = h.0 in omega (arith, ints), later_all e o os l h.1)

put_first : (b : Bool) (n : ℤ) (r : Option ℤ) → IfSome r (λ s. n <ℤ s) → cond b (Some n) r ≡ cond b (lesser_of r n) r
put_first true n None h = refl
put_first true n (Some s) h = ap (λ c. Some (cond c n s)) (sym (is_lt n s h))
put_first false n r h = refl

put_later : (b c : Bool) (n m : ℤ) (r s : Option ℤ) → int_lt n m ≡ false → r ≡ cond b (lesser_of s n) s → cond c (Some m) r ≡ cond b (lesser_of (cond c (Some m) s) n) (cond c (Some m) s)
put_later true true n m r s k e = ap (λ d. Some (cond d n m)) (sym k)
put_later false true n m r s k e = refl
put_later b false n m r s k e = e

first_step : (c : OrderEntry → Bool) (e o : OrderEntry) (os : List OrderEntry) (t : Bool) → int_lt e.pts o.pts ≡ t → AllByRecursion (λ p. o.pts ≤ℤ p.pts) os → first_start c (entries_with e os) ≡ cond (c e) (lesser_of (first_start c os) e.pts) (first_start c os) → first_start c (cond t (e ∷ o ∷ os) (o ∷ entries_with e os)) ≡ cond (c e) (lesser_of (first_start c (o ∷ os)) e.pts) (first_start c (o ∷ os))
first_step c e o os true k a ih = let lt = lt_true e.pts o.pts k in put_first (c e) e.pts (first_start c (o ∷ os)) (first_each (λ s. e.pts <ℤ s) c (o ∷ os) (lt, later_all e o os lt a))
first_step c e o os false k a ih = put_later (c e) (c o) e.pts o.pts (first_start c (entries_with e os)) (first_start c os) k ih

first_put : (c : OrderEntry → Bool) (e : OrderEntry) (os : List OrderEntry) → IsSorted os → first_start c (entries_with e os) ≡ cond (c e) (lesser_of (first_start c os) e.pts) (first_start c os)
first_put c e [] h = refl
first_put c e (o ∷ os) h = first_step c e o os (int_lt e.pts o.pts) refl h.0 (first_put c e os h.1)

fold_cond : (b : Bool) (a : Option ℤ) (f : Stored) (gs : List Stored) → fold lesser_of (cond b (lesser_of a f.frame.pts) a) (starts gs) ≡ fold lesser_of a (starts (cond b (f ∷ gs) gs))
fold_cond true a f gs = refl
fold_cond false a f gs = refl

first_all : (c : OrderEntry → Bool) (os : List OrderEntry) (fs : List Stored) → IsSorted os → first_start c (entries_with_all os fs) ≡ fold lesser_of (first_start c os) (starts (filter (λ f. c (entry_of f)) fs))
first_all c os [] h = refl
first_all c os (f ∷ fs) h =
    first_all c (entries_with (entry_of f) os) fs (sorted_put (entry_of f) os h) ∙ ap (λ b. fold lesser_of b (starts (filter (λ g. c (entry_of g)) fs))) (first_put c (entry_of f) os h)
    ∙ fold_cond (c (entry_of f)) (first_start c os) f (filter (λ g. c (entry_of g)) fs)

pub first_sync : (t : Moment) (fs : List Stored) (os : List OrderEntry) → os ≡ presentation_order fs → first_start (is_sync_from t) os ≡ least (sync_times_from t fs)
first_sync t fs os e = ap (first_start (is_sync_from t)) e ∙ first_all (is_sync_from t) [] fs tt

and_false : (b : Bool) → (b && false) ≡ false
and_false true = refl
and_false false = refl

pub sync_init : (t : Moment) (os : List OrderEntry) (n : ℕ) → AllByRecursion (λ o. is_before o.pts t ≡ true) (take n os) → first_start (is_sync_from t) (drop n os) ≡ first_start (is_sync_from t) os
sync_init t os zero h = refl
sync_init t [] (suc n) h = refl
sync_init t (o ∷ os) (suc n) h =
    let other : is_sync_from t o ≡ false = ap (λ b. o.sync && not b) h.0 ∙ and_false o.sync in
    sync_init t os n h.1 ∙ sym (ap (λ b. cond b (Some o.pts) (first_start (is_sync_from t) os)) other)

at_drop : (os : List OrderEntry) (i : ℕ) (x : OrderEntry) → i < length os → x ≡ get_or os i x → drop i os ≡ x ∷ drop (i + 1) os
at_drop os i x l at = drop_more os i x l ∙ ap (λ z. z ∷ drop (i + 1) os) (sym at)

pub sync_found : (c : OrderEntry → Bool) (os : List OrderEntry) (i : ℕ) (x : OrderEntry) → i < length os → x ≡ get_or os i x → c x ≡ true → first_start c (drop i os) ≡ first_start c os → Some x.pts ≡ first_start c os
sync_found c os i x l at e inv = sym (ap (λ b. cond b (Some x.pts) (first_start c (drop (i + 1) os))) e) ∙ sym (ap (first_start c) (at_drop os i x l at)) ∙ inv

pub sync_next : (c : OrderEntry → Bool) (os : List OrderEntry) (i : ℕ) (x : OrderEntry) → i < length os → x ≡ get_or os i x → c x ≡ false → first_start c (drop i os) ≡ first_start c os → first_start c (drop (i + 1) os) ≡ first_start c os
sync_next c os i x l at e inv = sym (ap (λ b. cond b (Some x.pts) (first_start c (drop (i + 1) os))) e) ∙ sym (ap (first_start c) (at_drop os i x l at)) ∙ inv

pub sync_none : (c : OrderEntry → Bool) (os : List OrderEntry) (i : ℕ) → length os ≤ i → first_start c (drop i os) ≡ first_start c os → None ≡ first_start c os
sync_none c os i l inv = sym (ap (first_start c) (drop_all i os l)) ∙ inv

pub all_before : (os : List OrderEntry) → AllByRecursion (λ o. is_before o.pts Infinite ≡ true) (take (length os) os)
all_before [] = tt
all_before (o ∷ os) = (refl, all_before os)

pub before_at : (t : ℤ) (m : Moment) (os : List OrderEntry) → m ≡ At t → AllByRecursion (λ o. o.pts <ℤ t) os → AllByRecursion (λ o. is_before o.pts m ≡ true) os
before_at t m os e h = subst (λ (k : Moment). AllByRecursion (λ o. is_before o.pts k ≡ true) os) (sym e) (each_weaker (λ o. o.pts <ℤ t) (λ o. is_before o.pts (At t) ≡ true) os (λ o k. is_lt o.pts t k) h)
