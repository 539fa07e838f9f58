-- Frames that stand side by side, and their entries.
use Rattle.std.proofs.Common.{◌≡◌, ◌∙◌, ℕ, ℤ, ◌+◌, ◌<◌, ◌≤◌, ◌+ℤ◌, ◌≤ℤ◌, Bool, true, false, not, cond, List, [], ◌∷◌, ◌++◌, length, get_or, take, drop, filter, refl, sym, ap, subst, arith}
use Rattle.std.specs.List.{AllByRecursion}
use Rattle.std.specs.Int.{int_min, int_max}
use Rattle.std.proofs.lemmas.Int.{ints}
use Rattle.std.proofs.lemmas.Bool.Decides.{nat_tests}
use Rattle.std.proofs.lemmas.List.{take_more, take-append-drop, drop_more, drop-drop, drop-take, length-append, length-take-le, length-drop, get_or-drop}
use Rattle.std.proofs.lemmas.List.Elements.{filter-append}
use Rattle.std.proofs.lemmas.List.Sums.{sum_by-append, sum_by_push, sum_by-take-le, sum_by-take-drop}
use Rattle.mse_base.specs.declared.span.Span.{Span}
use Rattle.mse_base.specs.Bridging.{span_round}
use Rattle.mse_base.specs.Rows.{row_items, row}
use Rattle.block_list.specs.BlockPlaces.{rank, IsPlace, IsItemAt, AreBounds}
use Rattle.block_list.specs.declared.block_list.BlockPlace.{BlockPlace}
use Rattle.track_store.specs.declared.store.Stored.{Stored}
use Rattle.track_store.specs.Frames.{IsAscending, bytes_of, interval}
use Rattle.track_index.specs.declared.entry.OrderEntry.{OrderEntry}
use Rattle.track_index.specs.declared.frames.Run.{Run}
use Rattle.track_index.specs.Order.{entry_of, presentation_order}
use Rattle.track_index.specs.Runs.{AreWithin, IsRun, run_of_one, run_with, is_serial_from, IsLastBetween}
use Rattle.track_index.proofs.EntryOrder.{length_ordered, each_more}
use Rattle.track_index.proofs.Blocks.{rank_within, item_place, block_order, index_order}
use Rattle.track_index.proofs.Serials.{filter_ordered, below_more, above_from}
use Rattle.track_index.proofs.RemovedRuns.{each_frame, each_drop, each_take, each_join, lowest, mid_high, three_parts}

-- ---- a stretch of a list whose items alone pass a test

keep_each : {X : Type 0} (q : X → Bool) (xs : List X) → AllByRecursion (λ x. q x ≡ true) xs → filter q xs ≡ xs
keep_each q [] h = refl
keep_each q (x ∷ xs) h = ap (λ b. cond b (x ∷ filter q xs) (filter q xs)) h.0 ∙ ap (λ zs. x ∷ zs) (keep_each q xs h.1)

keep_none : {X : Type 0} (q : X → Bool) (xs : List X) → AllByRecursion (λ x. q x ≡ false) xs → filter q xs ≡ []
keep_none q [] h = refl
keep_none q (x ∷ xs) h = ap (λ b. cond b (x ∷ filter q xs) (filter q xs)) h.0 ∙ keep_none q xs h.1

not_each : {X : Type 0} (q : X → Bool) (b : Bool) (xs : List X) → AllByRecursion (λ x. q x ≡ b) xs → AllByRecursion (λ x. not (q x) ≡ not b) xs
not_each q b [] h = tt
not_each q b (x ∷ xs) h = (ap not h.0, not_each q b xs h.1)

filter_parts : {X : Type 0} (q : X → Bool) (xs ms ys : List X) → filter q (xs ++ (ms ++ ys)) ≡ filter q xs ++ (filter q ms ++ filter q ys)
filter_parts q xs ms ys = filter-append q xs (ms ++ ys) ∙ ap (λ zs. filter q xs ++ zs) (filter-append q ms ys)

-- the items of the middle part alone pass
pub middle_kept : {X : Type 0} (q : X → Bool) (xs ms ys : List X) → AllByRecursion (λ x. q x ≡ false) xs → AllByRecursion (λ x. q x ≡ true) ms → AllByRecursion (λ x. q x ≡ false) ys → length (filter q (xs ++ (ms ++ ys))) ≡ length ms
middle_kept q xs ms ys h m k =
    let a = keep_none q xs h in let b = keep_each q ms m in let c = keep_none q ys k in
    omega (arith, ap length (filter_parts q xs ms ys), length-append (filter q xs) (filter q ms ++ filter q ys), length-append (filter q ms) (filter q ys), ap length a, ap length b, ap length c)

pub middle_out : {X : Type 0} (q : X → Bool) (xs ms ys : List X) → AllByRecursion (λ x. q x ≡ false) xs → AllByRecursion (λ x. q x ≡ true) ms → AllByRecursion (λ x. q x ≡ false) ys → filter (λ x. not (q x)) (xs ++ (ms ++ ys)) ≡ xs ++ ys
middle_out {X = X} q xs ms ys h m k =
    let p : X → Bool = λ x. not (q x) in
    filter_parts p xs ms ys ∙ ap (λ zs. zs ++ (filter p ms ++ filter p ys)) (keep_each p xs (not_each q false xs h))
    ∙ ap (λ zs. xs ++ (zs ++ filter p ys)) (keep_none p ms (not_each q true ms m)) ∙ ap (λ zs. xs ++ zs) (keep_each p ys (not_each q false ys k))

none_if : {X : Type 0} (q : X → Bool) (x : X) (xs : List X) (b : Bool) → q x ≡ b → length (cond b (x ∷ filter q xs) (filter q xs)) ≡ 0 → (length (filter q xs) ≡ 0 → AllByRecursion (λ y. q y ≡ false) xs) → (q x ≡ false) × AllByRecursion (λ y. q y ≡ false) xs
none_if q x xs true e l f = absurd (omega arith)
none_if q x xs false e l f = (e, f l)

none_pass : {X : Type 0} (q : X → Bool) (xs : List X) → length (filter q xs) ≡ 0 → AllByRecursion (λ x. q x ≡ false) xs
none_pass q [] l = tt
none_pass q (x ∷ xs) l = none_if q x xs (q x) refl l (none_pass q xs)

-- where all of a stretch pass, and no more in the list, the others fail
pub stretch_out : {X : Type 0} (q : X → Bool) (xs ms ys : List X) → AllByRecursion (λ x. q x ≡ true) ms → length (filter q (xs ++ (ms ++ ys))) ≡ length ms → filter (λ x. not (q x)) (xs ++ (ms ++ ys)) ≡ xs ++ ys
stretch_out q xs ms ys m e =
    let a = ap length (filter_parts q xs ms ys) in
    let b = length-append (filter q xs) (filter q ms ++ filter q ys) in
    let c = length-append (filter q ms) (filter q ys) in
    let d = ap length (keep_each q ms m) in
    middle_out q xs ms ys (none_pass q xs (omega arith)) m (none_pass q ys (omega arith))

-- ---- the entries of a run

entries_in_parts : (os : List OrderEntry) (i n : ℕ) → os ≡ take i os ++ (take n (drop i os) ++ drop (i + n) os)
entries_in_parts os i n = sym (take-append-drop i os) ∙ ap (λ zs. take i os ++ zs) (sym (take-append-drop n (drop i os)) ∙ ap (λ zs. take n (drop i os) ++ zs) (drop-drop n i os))

-- where n entries side by side have such serials, and no more in the list, they are those that go
pub run_taken : (first last : ℕ) (os : List OrderEntry) (i n : ℕ) → i + n ≤ length os → AllByRecursion (λ o. is_serial_from first last o ≡ true) (take n (drop i os)) → length (filter (is_serial_from first last) os) ≡ n → take i os ++ drop (i + n) os ≡ filter (λ o. not (is_serial_from first last o)) os
run_taken first last os i n l h e =
    let q : OrderEntry → Bool = is_serial_from first last in
    let m = length-take-le n (drop i os) (omega (arith, length-drop i os)) in
    let parts = entries_in_parts os i n in
    sym (stretch_out q (take i os) (take n (drop i os)) (drop (i + n) os) h (ap (λ zs. length (filter q zs)) (sym parts) ∙ e ∙ sym m)) ∙ ap (filter (λ o. not (q o))) (sym parts)

-- from the first of a run up to behind its last
pub run_bounds : (low high : ℕ) (rows : List (List OrderEntry)) (from : BlockPlace) (count : ℕ) (last : BlockPlace) → IsPlace rows from → 0 < count → IsLastBetween low high rows from count last → AreBounds rows from (record { block = last.block; index = last.index + 1 })
run_bounds low high rows from count last p s h =
    let k = rank_within rows last h.place.block h.place.index in
    let e = h.count in
    let q = h.place.index in
    let i = item_place rows from p (omega (arith, e, k)) in
    let up : rank rows from ≤ rank rows last = omega (arith, e) in
    record {
      from = i.0;
      from_index = i.1;
      to = h.place.block;
      to_index = omega (arith, q);
      some = omega arith;
      in_order = block_order rows from last i.0 h.place.block q up;
      in_block = λ j. omega (arith, index_order rows from last up j);
    }

-- ---- the frames of a run by their serials

low : (first last : ℕ) (o : OrderEntry) → o.serial < first → is_serial_from first last o ≡ false
low first last o l = grind (arith, nat_tests)

high : (first last : ℕ) (o : OrderEntry) → last < o.serial → is_serial_from first last o ≡ false
high first last o l = grind (arith, nat_tests)

mid : (first last : ℕ) (o : OrderEntry) → first ≤ o.serial → o.serial < last + 1 → is_serial_from first last o ≡ true
mid first last o l k = grind (arith, nat_tests)

-- one entry more that has such a serial
pub between_more : (first last : ℕ) (os : List OrderEntry) (i n : ℕ) (x : OrderEntry) → i + n < length os → x ≡ get_or os (i + n) x → first ≤ x.serial → x.serial ≤ last → AllByRecursion (λ o. is_serial_from first last o ≡ true) (take n (drop i os)) → AllByRecursion (λ o. is_serial_from first last o ≡ true) (take (n + 1) (drop i os))
between_more first last os i n x l at lo hi h = each_more (λ o. is_serial_from first last o ≡ true) (drop i os) n x (omega (arith, length-drop i os)) (at ∙ sym (get_or-drop i os n x)) h (mid first last x lo (omega arith))

each_mid : (first last : ℕ) (fs : List Stored) → AllByRecursion (λ f. first ≤ f.serial) fs → AllByRecursion (λ f. f.serial < last + 1) fs → AllByRecursion (λ f. is_serial_from first last (entry_of f) ≡ true) fs
each_mid first last [] h k = tt
each_mid first last (f ∷ fs) h k = (mid first last (entry_of f) h.0 k.0, each_mid first last fs h.1 k.1)

-- the serials of a run lie between those of its first and its last frame, and no others do
pub record IsRunBySerials (fs : List Stored) (i n first last : ℕ) : Type 0 where
  pub before : AllByRecursion (λ f. is_serial_from first last (entry_of f) ≡ false) (take i fs)
  pub own : AllByRecursion (λ f. is_serial_from first last (entry_of f) ≡ true) (take n (drop i fs))
  pub behind : AllByRecursion (λ f. is_serial_from first last (entry_of f) ≡ false) (drop (i + n) fs)

pub run_serials : (fs : List Stored) (i n j : ℕ) (x y : Stored) → IsAscending fs → 1 ≤ n → j + 1 ≡ i + n → j < length fs → x ≡ get_or fs i x → y ≡ get_or fs j y → IsRunBySerials fs i n x.serial y.serial
run_serials fs i n j x y u s e l at last =
    let k : i < length fs = omega arith in
    let sx : x.serial ≡ (get_or fs i x).serial = ap (λ (z : Stored). z.serial) at in
    let sy : y.serial ≡ (get_or fs j y).serial = ap (λ (z : Stored). z.serial) last in
    let parts : fs ≡ take j fs ++ y ∷ drop (j + 1) fs = sym (take-append-drop j fs) ∙ ap (λ zs. take j fs ++ zs) (drop_more fs j y l ∙ ap (λ z. z ∷ drop (j + 1) fs) (sym last)) in
    let up = each_take (λ f. x.serial ≤ f.serial) (drop i fs) n (above_from fs i x x.serial u k (omega arith)) in
    let down = each_drop (λ f. f.serial < y.serial + 1) (take (j + 1) fs) i (below_more fs j y (y.serial + 1) u l (omega arith)) in
    let here : drop i (take (j + 1) fs) ≡ take n (drop i fs) = ap (λ m. drop i (take m fs)) e ∙ drop-take i n fs in
    record {
      before = each_frame (λ f. f.serial < x.serial) (λ f. is_serial_from x.serial y.serial (entry_of f) ≡ false) (take i fs) (λ f m. low x.serial y.serial (entry_of f) m) (lowest fs i x u k at);
      own = each_mid x.serial y.serial (take n (drop i fs)) up (subst (AllByRecursion (λ f. f.serial < y.serial + 1)) here down);
      behind = subst (λ (m : ℕ). AllByRecursion (λ f. is_serial_from x.serial y.serial (entry_of f) ≡ false) (drop m fs)) e (each_frame (λ f. y.serial < f.serial) (λ f. is_serial_from x.serial y.serial (entry_of f) ≡ false) (drop (j + 1) fs) (λ f m. high x.serial y.serial (entry_of f) m) (mid_high (take j fs) y (drop (j + 1) fs) (subst IsAscending parts u)));
    }

-- how many entries a run has
pub run_count : (fs : List Stored) (i n first last : ℕ) → i + n ≤ length fs → IsRunBySerials fs i n first last → length (filter (is_serial_from first last) (presentation_order fs)) ≡ n
run_count fs i n first last l h =
    let q : Stored → Bool = λ f. is_serial_from first last (entry_of f) in
    ap length (filter_ordered (is_serial_from first last) fs) ∙ length_ordered (filter q fs) ∙ ap (λ zs. length (filter q zs)) (three_parts fs i n)
    ∙ middle_kept q (take i fs) (take n (drop i fs)) (drop (i + n) fs) h.before h.own h.behind ∙ length-take-le n (drop i fs) (omega (arith, length-drop i fs))

-- the order without a run
pub run_out : (fs : List Stored) (i n first last : ℕ) → IsRunBySerials fs i n first last → filter (λ o. not (is_serial_from first last o)) (presentation_order fs) ≡ presentation_order (take i fs ++ drop (i + n) fs)
run_out fs i n first last h =
    let q : Stored → Bool = λ f. is_serial_from first last (entry_of f) in
    filter_ordered (λ o. not (is_serial_from first last o)) fs
    ∙ ap presentation_order (ap (filter (λ f. not (q f))) (three_parts fs i n) ∙ middle_out q (take i fs) (take n (drop i fs)) (drop (i + n) fs) h.before h.own h.behind)

-- ---- a run that gets longer

run_more : (fs : List Stored) (i n : ℕ) (x : Stored) → i + n < length fs → x ≡ get_or fs (i + n) x → take (n + 1) (drop i fs) ≡ take n (drop i fs) ++ x ∷ []
run_more fs i n x l at =
    take_more (drop i fs) n x (omega (arith, length-drop i fs)) ∙ ap (λ z. take n (drop i fs) ++ z ∷ []) (get_or-drop i fs n x ∙ sym at)

min_first : (a b : ℤ) → int_min a b ≤ℤ a
min_first a b = grind (arith, ints)

min_second : (a b : ℤ) → int_min a b ≤ℤ b
min_second a b = grind (arith, ints)

max_first : (a b : ℤ) → a ≤ℤ int_max a b
max_first a b = grind (arith, ints)

max_second : (a b : ℤ) → b ≤ℤ int_max a b
max_second a b = grind (arith, ints)

wider : (hull s : Span) (fs : List Stored) → AreWithin hull fs → AreWithin (span_round hull s) fs
wider hull s fs h =
    let a = min_first hull.start s.start in
    let b = max_first hull.end s.end in
    each_frame (λ f. (hull.start ≤ℤ f.frame.pts) × ((f.frame.pts +ℤ f.frame.dur) ≤ℤ hull.end)) (λ f. ((span_round hull s).start ≤ℤ f.frame.pts) × ((f.frame.pts +ℤ f.frame.dur) ≤ℤ (span_round hull s).end)) fs (λ f k. let k0 = k.0 in let k1 = k.1 in (omega (arith, ints), omega (arith, ints))) h

pub within_more : (hull : Span) (fs : List Stored) (i n : ℕ) (x : Stored) → i + n < length fs → x ≡ get_or fs (i + n) x → AreWithin hull (take n (drop i fs)) → AreWithin (span_round hull (interval x)) (take (n + 1) (drop i fs))
within_more hull fs i n x l at h =
    let a = min_second hull.start (interval x).start in
    let b = max_second hull.end (interval x).end in
    subst (AreWithin (span_round hull (interval x))) (sym (run_more fs i n x l at)) (each_join _ (take n (drop i fs)) (x ∷ []) (wider hull (interval x) (take n (drop i fs)) h) ((a, b), tt))

pub within_one : (fs : List Stored) (i : ℕ) (x : Stored) → i < length fs → x ≡ get_or fs i x → AreWithin (interval x) (take 1 (drop i fs))
within_one fs i x l at = subst (λ zs. AreWithin (interval x) (take 1 zs)) (sym (drop_more fs i x l ∙ ap (λ z. z ∷ drop (i + 1) fs) (sym at))) ((omega (arith, ints), omega (arith, ints)), tt)

pub bytes_run_more : (fs : List Stored) (i n : ℕ) (x : Stored) → i + n < length fs → x ≡ get_or fs (i + n) x → bytes_of (take (n + 1) (drop i fs)) ≡ bytes_of (take n (drop i fs)) + length x.frame.payload
bytes_run_more fs i n x l at = ap bytes_of (run_more fs i n x l at) ∙ sum_by_push (λ f. length f.frame.payload) (take n (drop i fs)) x

pub bytes_one : (fs : List Stored) (i : ℕ) (x : Stored) → i < length fs → x ≡ get_or fs i x → bytes_of (take 1 (drop i fs)) ≡ length x.frame.payload
bytes_one fs i x l at =
    let a : bytes_of (take 1 (drop i fs)) ≡ bytes_of (x ∷ []) = ap (λ zs. bytes_of (take 1 zs)) (drop_more fs i x l ∙ ap (λ z. z ∷ drop (i + 1) fs) (sym at)) in
    let b = sum_by_push (λ f. length f.frame.payload) [] x in
    omega arith

pub run_begun : (rows : List (List Stored)) (p : BlockPlace) (x : Stored) → p.block < length rows → p.index < length (row rows p.block) → x ≡ get_or (row_items rows) (rank rows p) x → IsRun rows (run_of_one p x)
run_begun rows p x l k at =
    let n = rank_within rows p l k in
    record {
      block = l;
      index = k;
      last_block = l;
      last_index = k;
      some = omega arith;
      count = refl;
      within = within_one (row_items rows) (rank rows p) x n at;
      bytes = sym (bytes_one (row_items rows) (rank rows p) x n at);
    }

pub run_grown : (rows : List (List Stored)) (run : Run) (p : BlockPlace) (x : Stored) → IsRun rows run → p.block < length rows → p.index < length (row rows p.block) → rank rows p ≡ rank rows run.from + run.count → x ≡ get_or (row_items rows) (rank rows p) x → IsRun rows (run_with run p x)
run_grown rows run p x h l k e at =
    let fs = row_items rows in
    let n = rank_within rows p l k in
    let m : rank rows run.from + run.count < length fs = omega arith in
    let here = at ∙ ap (λ (j : ℕ). get_or fs j x) e in
    record {
      block = h.block;
      index = h.index;
      last_block = l;
      last_index = k;
      some = omega arith;
      count = omega arith;
      within = within_more run.hull fs (rank rows run.from) run.count x m here h.within;
      bytes = ap (λ (b : ℕ). b + length x.frame.payload) h.bytes ∙ sym (bytes_run_more fs (rank rows run.from) run.count x m here);
    }

-- a run is within all frames
pub run_within : (rows : List (List Stored)) (run : Run) → IsRun rows run → rank rows run.from + run.count ≤ length (row_items rows)
run_within rows run h = let n = rank_within rows run.last h.last_block h.last_index in let e = h.count in omega arith

pub run_of_serials : (rows : List (List Stored)) (run : Run) (x y : Stored) → IsAscending (row_items rows) → IsRun rows run → IsItemAt rows run.from x → IsItemAt rows run.last y → IsRunBySerials (row_items rows) (rank rows run.from) run.count x.serial y.serial
run_of_serials rows run x y u h at last = run_serials (row_items rows) (rank rows run.from) run.count (rank rows run.last) x y u h.some h.count (rank_within rows run.last h.last_block h.last_index) at last

-- no run has more bytes than all frames
pub bytes_at_most : (fs : List Stored) (i n : ℕ) → bytes_of (take n (drop i fs)) ≤ bytes_of fs
bytes_at_most fs i n =
    let a = sum_by-take-le (λ f. length f.frame.payload) (drop i fs) n in
    let b = sum_by-take-drop (λ f. length f.frame.payload) fs i in
    omega arith

pub bytes_out : (fs : List Stored) (i n : ℕ) → bytes_of (take i fs ++ drop (i + n) fs) + bytes_of (take n (drop i fs)) ≡ bytes_of fs
bytes_out fs i n =
    let p : Stored → ℕ = λ f. length f.frame.payload in
    let a = sum_by-append p (take i fs) (drop (i + n) fs) in
    let b = sum_by-append p (take i fs) (take n (drop i fs) ++ drop (i + n) fs) in
    let c = sum_by-append p (take n (drop i fs)) (drop (i + n) fs) in
    let d = ap bytes_of (three_parts fs i n) in
    omega arith
