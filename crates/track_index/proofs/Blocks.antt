-- Look-ups over blocks.
use Rattle.std.proofs.Common.{◌≡◌, ◌∙◌, ℕ, zero, suc, ℤ, pos, ◌+◌, ◌-◌, ◌<◌, ◌≤◌, ◌+ℤ◌, ◌≤ℤ◌, ◌<ℤ◌, Bool, true, false, not, cond, ◌&&◌, ◌||◌, List, [], ◌∷◌, ◌++◌, length, get_or, take, drop, insert, filter, Option, Some, None, refl, sym, ap, subst, inl, inr, ◌⊎◌, arith}
use Rattle.std.specs.List.{AllByRecursion, list_any}
use Rattle.std.proofs.lemmas.Int.{ints}
use Rattle.std.proofs.lemmas.List.{drop_all, take-append-drop, append_assoc, append-nil}
use Rattle.mse_base.specs.declared.ticks.Moment.{Moment}
use Rattle.mse_base.specs.Rows.{row_items, row, start}
use Rattle.block_list.specs.Rows.{AreNonEmpty}
use Rattle.block_list.specs.BlockPlaces.{rank, IsPlace}
use Rattle.block_list.specs.declared.block_list.BlockPlace.{BlockPlace}
use Rattle.block_list.proofs.RowItems.{start_more}
use Rattle.block_list.proofs.RemovedStretch.{take_at, row_count}
use Rattle.mse_base.specs.Moments.{is_before, greatest_of_two}
use Rattle.track_index.specs.declared.entry.OrderEntry.{OrderEntry}
use Rattle.track_index.specs.declared.key.Key.{Key}
use Rattle.track_index.specs.Order.{end_of, is_in_entry, or_else, last_that, first_start, is_sync_from, is_ended}
use Rattle.track_index.specs.Keyed.{is_before_key}
use Rattle.track_index.specs.Known.{is_sync, greatest_end}
use Rattle.track_index.specs.Tops.{running_ends, tops_of, AreTopsFrom, AreTopsMendable}
use Rattle.track_index.proofs.EntryOrder.{last-append, last_none, each_take, begin_later}
use Rattle.track_index.proofs.BlockEnds.{length_running_ends, runs_kept, front_kept, greatest-append, greatest_with, top_at, none_covers}
use Rattle.track_index.proofs.Keys.{highs, lows, filter_front}

pub less_cases : (m n : ℕ) → (m < n) ⊎ (n ≤ m)
less_cases m n = grind arith

pub rows_none : {T : Type 0} (rows : List (List T)) → length rows ≡ 0 → rows ≡ []
rows_none [] e = refl
rows_none (r ∷ rows) e = absurd (omega arith)

pub joined_none : {T : Type 0} (rows : List (List T)) → length rows ≡ 0 → row_items rows ≡ []
joined_none rows e = ap row_items (rows_none rows e)

pub some_rows : {T : Type 0} (rows : List (List T)) → 0 < length (row_items rows) → 0 < length rows
some_rows [] l = absurd (omega arith)
some_rows (r ∷ rows) l = omega arith

pub rows_more : {T : Type 0} (rows : List (List T)) (b : ℕ) → b < length rows → row_items (take (suc b) rows) ≡ row_items (take b rows) ++ row rows b
rows_more [] b l = absurd (omega arith)
rows_more (r ∷ rows) zero l = append-nil r
rows_more (r ∷ rows) (suc b) l = ap (λ xs. r ++ xs) (rows_more rows b (omega arith)) ∙ sym (append_assoc r (row_items (take b rows)) (row rows b))

pub rows_rest : {T : Type 0} (rows : List (List T)) (b : ℕ) → b < length rows → row_items (drop b rows) ≡ row rows b ++ row_items (drop (b + 1) rows)
rows_rest [] b l = absurd (omega arith)
rows_rest (r ∷ rows) zero l = refl
rows_rest (r ∷ rows) (suc b) l = let z : suc b + 1 ≡ suc (b + 1) = omega arith in rows_rest rows b (omega arith) ∙ ap (λ n. row rows b ++ row_items (drop n (r ∷ rows))) (sym z)

pub rows_all : {T : Type 0} (rows : List (List T)) (n : ℕ) → n ≡ length rows → take n rows ≡ rows
rows_all [] zero e = refl
rows_all [] (suc n) e = refl
rows_all (r ∷ rows) zero e = absurd (omega arith)
rows_all (r ∷ rows) (suc n) e = ap (λ qs. r ∷ qs) (rows_all rows n (omega arith))

-- what the ends need after a change in blocks
pub ready : (ts : List (Option ℤ)) (old new : List (List OrderEntry)) (b behind cap : ℕ) → ts ≡ tops_of old → b < behind → behind ≤ length old → length new ≤ length old + 1 → b + length old ≤ behind + length new → length new ≤ cap → take b new ≡ take b old → drop ((behind + length new) - length old) new ≡ drop behind old → AreTopsMendable ts new b behind cap
ready ts old new b behind cap e s l m f c front rest =
    let n : length ts ≡ length old = ap length e ∙ length_running_ends None old in
    let z : behind - 1 + 1 ≡ behind = omega arith in
    let runs = runs_kept ts ts old new (behind - 1) ((behind + length new) - length old) e (omega arith) (rest ∙ ap (λ (k : ℕ). drop k old) (sym z)) in
    record {
      within = omega arith;
      some = s;
      at_most_one_behind = omega arith;
      at_most_one_more = omega arith;
      at_most_touched_gone = omega arith;
      gone = λ _. omega arith;
      room = c;
      front = front_kept ts old new b e front;
      rest = subst (λ (k : ℕ). AreTopsFrom behind ts ((behind + length new) - k) new) (sym n) (subst (λ (k : ℕ). AreTopsFrom k ts ((behind + length new) - length old) new) z runs);
    }

-- the last end, made later by that of an entry that came
pub top_with : (ts : List (Option ℤ)) (old new : List (List OrderEntry)) (b k : ℕ) (x : OrderEntry) (end : ℤ) → ts ≡ tops_of old → b + 1 ≡ length old → end ≡ end_of x → row_items new ≡ insert (row_items old) k x → greatest_of_two (get_or ts b None) (Some end) ≡ greatest_end (row_items new)
top_with ts old new b k x end e l z j =
    let os = row_items old in
    let n : b + 1 - 1 ≡ b = omega arith in
    let top : get_or ts b None ≡ greatest_end os = ap (λ i. get_or ts i None) (sym n) ∙ top_at ts old (b + 1) None e (omega arith) (omega arith) ∙ ap (λ rows. greatest_end (row_items rows)) (rows_all old (b + 1) l) in
    ap (λ t. greatest_of_two t (Some end)) top ∙ ap (λ t. greatest_of_two (greatest_end os) (Some t)) z ∙ ap (λ zs. greatest_of_two (greatest_end zs) (Some (end_of x))) (sym (take-append-drop k os)) ∙ greatest_with (take k os) (drop k os) x ∙ ap greatest_end (sym j)

pub first_ready : (ts : List (Option ℤ)) (old new : List (List OrderEntry)) (cap : ℕ) → ts ≡ tops_of old → length old ≡ 0 → length new ≤ 1 → length new ≤ cap → AreTopsMendable ts new 0 1 cap
first_ready ts old new cap e l m c =
    let none : ts ≡ [] = e ∙ ap tops_of (rows_none old l) in
    let n : length ts ≡ 0 = ap length none in
    record {
      within = omega arith;
      some = omega arith;
      at_most_one_behind = omega arith;
      at_most_one_more = omega arith;
      at_most_touched_gone = omega arith;
      gone = λ h. absurd (omega arith);
      room = c;
      front = refl;
      rest = (None, ap (drop 1) none ∙ sym (ap (running_ends None) (drop_all ((1 + length new) - length ts) new (omega arith))));
    }

-- ---- the last that holds a time

pub last_front : (c : OrderEntry → Bool) (os : List OrderEntry) (n : ℕ) → AllByRecursion (λ o. c o ≡ false) (drop n os) → last_that c (take n os) ≡ last_that c os
last_front c os n h = sym (ap (last_that c) (sym (take-append-drop n os)) ∙ last-append c (take n os) (drop n os) ∙ ap (λ r. or_else r (last_that c (take n os))) (last_none c (drop n os) h))

-- where no entry of a block ends after the time
pub passed_over : (t : ℤ) (os : List OrderEntry) (n : ℕ) → is_ended t (greatest_end os) ≡ true → last_that (is_in_entry t) (take n os) ≡ None
passed_over t os n e = last_none (is_in_entry t) (take n os) (each_take (λ o. is_in_entry t o ≡ false) os n (none_covers t os e))

-- in the place's own block and before it
pub last_at_place : (t m : ℤ) (rows : List (List OrderEntry)) (s : BlockPlace) → m ≡ (t +ℤ pos 1) → s.block < length rows → s.index ≤ length (row rows s.block) → AllByRecursion (λ o. is_before_key (record { mark = m; serial = 0 }) o ≡ false) (drop (rank rows s) (row_items rows)) → last_that (is_in_entry t) (row_items rows) ≡ or_else (last_that (is_in_entry t) (take s.index (row rows s.block))) (last_that (is_in_entry t) (row_items (take s.block rows)))
last_at_place t m rows s e l k h =
    let late = begin_later t (drop (rank rows s) (row_items rows)) (subst (λ (n : ℤ). AllByRecursion (λ o. n ≤ℤ o.pts) (drop (rank rows s) (row_items rows))) e (highs m (drop (rank rows s) (row_items rows)) h)) in
    sym (last_front (is_in_entry t) (row_items rows) (rank rows s) late) ∙ ap (last_that (is_in_entry t)) (take_at rows s.block s.index l k) ∙ last-append (is_in_entry t) (row_items (take s.block rows)) (take s.index (row rows s.block))

take_all : (os : List OrderEntry) (n : ℕ) → n ≡ length os → take n os ≡ os
take_all [] zero e = refl
take_all [] (suc n) e = refl
take_all (o ∷ os) zero e = absurd (omega arith)
take_all (o ∷ os) (suc n) e = ap (λ zs. o ∷ zs) (take_all os n (omega arith))

pub last_step : (t : ℤ) (rows : List (List OrderEntry)) (b n : ℕ) → 0 < b → b ≤ length rows → n ≡ length (row rows (b - 1)) → last_that (is_in_entry t) (row_items (take b rows)) ≡ or_else (last_that (is_in_entry t) (take n (row rows (b - 1)))) (last_that (is_in_entry t) (row_items (take (b - 1) rows)))
last_step t rows zero n p l e = absurd (omega arith)
last_step t rows (suc b) n p l e =
    let k : suc b - 1 ≡ b = omega arith in
    let w : take n (row rows b) ≡ row rows b = take_all (row rows b) n (e ∙ ap (λ i. length (row rows i)) k) in
    ap (last_that (is_in_entry t)) (rows_more rows b (omega arith)) ∙ last-append (is_in_entry t) (row_items (take b rows)) (row rows b)
    ∙ ap (λ zs. or_else (last_that (is_in_entry t) zs) (last_that (is_in_entry t) (row_items (take b rows)))) (sym w)
    ∙ ap (λ i. or_else (last_that (is_in_entry t) (take n (row rows i))) (last_that (is_in_entry t) (row_items (take i rows)))) (sym k)

-- ---- the first random access point

some_if : (b : Bool) (x : OrderEntry) (r q : Option ℤ) (v : ℤ) → cond b (Some x.pts) r ≡ Some v → (r ≡ Some v → q ≡ Some v) → cond b (Some x.pts) q ≡ Some v
some_if true x r q v e f = e
some_if false x r q v e f = f e

none_if : (b : Bool) (x : OrderEntry) (r q w : Option ℤ) → cond b (Some x.pts) r ≡ None → (r ≡ None → q ≡ w) → cond b (Some x.pts) q ≡ w
none_if true x r q w e f = absurd cc
none_if false x r q w e f = f e

pub first_some : (c : OrderEntry → Bool) (xs ys : List OrderEntry) (v : ℤ) → first_start c xs ≡ Some v → first_start c (xs ++ ys) ≡ Some v
first_some c [] ys v e = absurd cc
first_some c (x ∷ xs) ys v e = some_if (c x) x (first_start c xs) (first_start c (xs ++ ys)) v e (first_some c xs ys v)

pub first_none : (c : OrderEntry → Bool) (xs ys : List OrderEntry) → first_start c xs ≡ None → first_start c (xs ++ ys) ≡ first_start c ys
first_none c [] ys e = refl
first_none c (x ∷ xs) ys e = none_if (c x) x (first_start c xs) (first_start c (xs ++ ys)) (first_start c ys) e (first_none c xs ys)

or_false : (a b : Bool) → (a || b) ≡ false → (a ≡ false) × (b ≡ false)
or_false true b e = absurd cc
or_false false b e = (refl, e)

pub no_sync : (t : Moment) (os : List OrderEntry) → list_any is_sync os ≡ false → first_start (is_sync_from t) os ≡ None
no_sync t [] e = refl
no_sync t (o ∷ os) e =
    let p = or_false o.sync (list_any is_sync os) e in
    ap (λ b. cond (b && not (is_before o.pts t)) (Some o.pts) (first_start (is_sync_from t) os)) p.0 ∙ no_sync t os p.1

-- ---- the greatest end before a key

pub greatest_before : (key : Key) (rows : List (List OrderEntry)) (s : BlockPlace) (a b : Option ℤ) → s.block < length rows → s.index ≤ length (row rows s.block) → AllByRecursion (λ o. is_before_key key o ≡ true) (take (rank rows s) (row_items rows)) → AllByRecursion (λ o. is_before_key key o ≡ false) (drop (rank rows s) (row_items rows)) → a ≡ greatest_end (row_items (take s.block rows)) → b ≡ greatest_end (take s.index (row rows s.block)) → greatest_of_two a b ≡ greatest_end (filter (is_before_key key) (row_items rows))
greatest_before key rows s a b l k before after x y =
    ap (λ z. greatest_of_two z b) x ∙ ap (greatest_of_two (greatest_end (row_items (take s.block rows)))) y ∙ sym (greatest-append (row_items (take s.block rows)) (take s.index (row rows s.block)))
    ∙ ap greatest_end (sym (take_at rows s.block s.index l k)) ∙ ap greatest_end (sym (filter_front (is_before_key key) (row_items rows) (rank rows s) before after))

-- ---- places

pub item_place : {T : Type 0} (rows : List (List T)) (s : BlockPlace) → IsPlace rows s → rank rows s < length (row_items rows) → (s.block < length rows) × (s.index < length (row rows s.block))
item_place rows s p l = elim (less_cases s.block (length rows)) as (λ _. (s.block < length rows) × (s.index < length (row rows s.block))) [
  | inl a ↦ (a, p.item a)
  | inr b ↦ (let e = p.end b in absurd (omega arith))
]

pub rank_within : {T : Type 0} (rows : List (List T)) (s : BlockPlace) → s.block < length rows → s.index < length (row rows s.block) → rank rows s < length (row_items rows)
rank_within rows s l k = let n = row_count rows s.block l in omega arith

-- of two places with items the one with fewer before it is in no later block, and no further in its own
start_grows : {T : Type 0} (rows : List (List T)) (a b : ℕ) → a ≤ b → b ≤ length rows → start rows a ≤ start rows b
start_grows rows zero b l k = omega arith
start_grows [] (suc a) zero l k = omega arith
start_grows [] (suc a) (suc b) l k = absurd (omega arith)
start_grows (r ∷ rows) (suc a) zero l k = absurd (omega arith)
start_grows (r ∷ rows) (suc a) (suc b) l k = omega (arith, start_grows rows a b (omega arith) (omega arith))

pub block_order : {T : Type 0} (rows : List (List T)) (a b : BlockPlace) → a.block < length rows → b.block < length rows → b.index < length (row rows b.block) → rank rows a ≤ rank rows b → a.block ≤ b.block
block_order rows a b l m k h = elim (less_cases b.block a.block) as (λ _. a.block ≤ b.block) [
  | inr le ↦ le
  | inl lt ↦ (let g = start_grows rows (b.block + 1) a.block (omega arith) (omega arith) in let s = start_more rows b.block m in absurd (omega arith))
]

pub index_order : {T : Type 0} (rows : List (List T)) (a b : BlockPlace) → rank rows a ≤ rank rows b → a.block ≡ b.block → a.index ≤ b.index
index_order rows a b h e = let s = ap (start rows) e in omega arith

take_none : {A : Type 0} (n : ℕ) → take {A = A} n [] ≡ []
take_none zero = refl
take_none (suc n) = refl

take_over : {A : Type 0} (xs : List A) (n : ℕ) → n ≡ length xs → take n xs ≡ xs
take_over [] n e = take_none n
take_over (x ∷ xs) zero e = absurd (omega arith)
take_over (x ∷ xs) (suc n) e = ap (λ zs. x ∷ zs) (take_over xs n (omega arith))

-- the entries from a place on
pub rest_is : {A : Type 0} (xs : List A) (i : ℕ) → take (length xs - i) (drop i xs) ≡ drop i xs
rest_is xs zero = take_over xs (length xs - 0) (omega arith)
rest_is [] (suc i) = take_none (0 - suc i)
rest_is (x ∷ xs) (suc i) = let k : length (x ∷ xs) - suc i ≡ length xs - i = omega arith in ap (λ n. take n (drop i xs)) k ∙ rest_is xs i

pub start_place : {T : Type 0} (rows : List (List T)) → AreNonEmpty rows → IsPlace rows (record { block = 0; index = 0 })
start_place [] k = record { item = λ l. absurd (omega arith); end = λ _. refl }
start_place (r ∷ rows) k = record { item = λ _. k.0; end = λ l. absurd (omega arith) }

-- ---- what begins by a time

-- one block back
pub last_back : (t : ℤ) (rows : List (List OrderEntry)) (b : ℕ) → 0 < b → b ≤ length rows → last_that (is_in_entry t) (row_items (take b rows)) ≡ or_else (last_that (is_in_entry t) (row rows (b - 1))) (last_that (is_in_entry t) (row_items (take (b - 1) rows)))
last_back t rows b p l =
    last_step t rows b (length (row rows (b - 1))) p l refl
    ∙ ap (λ zs. or_else (last_that (is_in_entry t) zs) (last_that (is_in_entry t) (row_items (take (b - 1) rows)))) (take_all (row rows (b - 1)) (length (row rows (b - 1))) refl)

-- one block back that is passed whole
pub last_pass : (t : ℤ) (rows : List (List OrderEntry)) (b : ℕ) → 0 < b → b ≤ length rows → is_ended t (greatest_end (row rows (b - 1))) ≡ true → last_that (is_in_entry t) (row_items (take b rows)) ≡ last_that (is_in_entry t) (row_items (take (b - 1) rows))
last_pass t rows b p l e =
    last_back t rows b p l
    ∙ ap (λ r. or_else r (last_that (is_in_entry t) (row_items (take (b - 1) rows)))) (last_none (is_in_entry t) (row rows (b - 1)) (none_covers t (row rows (b - 1)) e))

each_left : (P : OrderEntry → Type 0) (xs ys : List OrderEntry) → AllByRecursion P (xs ++ ys) → AllByRecursion P xs
each_left P [] ys h = tt
each_left P (x ∷ xs) ys h = (h.0, each_left P xs ys h.1)

each_right : (P : OrderEntry → Type 0) (xs ys : List OrderEntry) → AllByRecursion P (xs ++ ys) → AllByRecursion P ys
each_right P [] ys h = h
each_right P (x ∷ xs) ys h = each_right P xs ys h.1

back_rows : (rows : List (List OrderEntry)) (b : ℕ) → 0 < b → b ≤ length rows → row_items (take b rows) ≡ row_items (take (b - 1) rows) ++ row rows (b - 1)
back_rows rows zero p l = absurd (omega arith)
back_rows rows (suc b) p l =
    let k : suc b - 1 ≡ b = omega arith in
    rows_more rows b (omega arith) ∙ ap (λ i. row_items (take i rows) ++ row rows i) (sym k)

pub begun_row : (t : ℤ) (rows : List (List OrderEntry)) (b : ℕ) → 0 < b → b ≤ length rows → AllByRecursion (λ o. o.pts ≤ℤ t) (row_items (take b rows)) → AllByRecursion (λ o. o.pts ≤ℤ t) (row rows (b - 1))
begun_row t rows b p l h = each_right (λ o. o.pts ≤ℤ t) (row_items (take (b - 1) rows)) (row rows (b - 1)) (subst (AllByRecursion (λ o. o.pts ≤ℤ t)) (back_rows rows b p l) h)

pub begun_less : (t : ℤ) (rows : List (List OrderEntry)) (b : ℕ) → 0 < b → b ≤ length rows → AllByRecursion (λ o. o.pts ≤ℤ t) (row_items (take b rows)) → AllByRecursion (λ o. o.pts ≤ℤ t) (row_items (take (b - 1) rows))
begun_less t rows b p l h = each_left (λ o. o.pts ≤ℤ t) (row_items (take (b - 1) rows)) (row rows (b - 1)) (subst (AllByRecursion (λ o. o.pts ≤ℤ t)) (back_rows rows b p l) h)

begun_by : (t m : ℤ) (o : OrderEntry) → m ≡ (t +ℤ pos 1) → o.pts <ℤ m → o.pts ≤ℤ t
begun_by t m o e h = omega (arith, ints)

begun_all : (t m : ℤ) (os : List OrderEntry) → m ≡ (t +ℤ pos 1) → AllByRecursion (λ o. o.pts <ℤ m) os → AllByRecursion (λ o. o.pts ≤ℤ t) os
begun_all t m [] e h = tt
begun_all t m (o ∷ os) e h = (begun_by t m o e h.0, begun_all t m os e h.1)

-- the blocks before a place before which all begin by a time
pub begun_before : (t m : ℤ) (rows : List (List OrderEntry)) (s : BlockPlace) → m ≡ (t +ℤ pos 1) → s.block < length rows → s.index ≤ length (row rows s.block) → AllByRecursion (λ o. is_before_key (record { mark = m; serial = 0 }) o ≡ true) (take (rank rows s) (row_items rows)) → AllByRecursion (λ o. o.pts ≤ℤ t) (row_items (take s.block rows))
begun_before t m rows s e l k h =
    let each = begun_all t m (take (rank rows s) (row_items rows)) e (lows m (take (rank rows s) (row_items rows)) h) in
    each_left (λ o. o.pts ≤ℤ t) (row_items (take s.block rows)) (take s.index (row rows s.block)) (subst (AllByRecursion (λ o. o.pts ≤ℤ t)) (take_at rows s.block s.index l k) each)
