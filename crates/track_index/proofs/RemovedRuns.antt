-- A frame that goes, with those appended after it up to the next random access point.
use Rattle.std.proofs.Common.{◌≡◌, ◌∙◌, ℕ, zero, suc, ℤ, pos, ◌+◌, ◌<◌, ◌≤◌, ◌≤ℤ◌, Bool, true, false, not, cond, ◌||◌, List, [], ◌∷◌, ◌++◌, length, get_or, take, drop, map, filter, refl, sym, ap, subst, arith, nat_eq, nat_lt, int_lt}
use Rattle.std.specs.List.{AllByRecursion, list_any}
use Rattle.std.proofs.lemmas.Bool.Decides.{nat_tests}
use Rattle.std.proofs.lemmas.List.{drop_more, drop_all, take-append-drop, drop-drop, map-append, length-append, length-take-le, length-drop, get_or-take, get_or-drop}
use Rattle.std.proofs.lemmas.List.Sums.{sum_by-append, sum_by-cons}
use Rattle.mse_base.specs.declared.span.Span.{Span}
use Rattle.mse_base.specs.Bridging.{is_near_any}
use Rattle.mse_base.proofs.CarvedRanges.{nears-append}
use Rattle.mse_base.proofs.JoinedSpans.{times_bridged}
use Rattle.mse_base.specs.Rows.{row}
use Rattle.block_list.specs.Rows.{IsCut}
use Rattle.block_list.specs.BlockPlaces.{IsPlace}
use Rattle.block_list.specs.declared.block_list.BlockPlace.{BlockPlace}
use Rattle.track_store.specs.declared.store.Stored.{Stored}
use Rattle.track_store.specs.Frames.{IsAscending, has_serial, bytes_of, from_sync, frames_left, interval, intervals, ranges_of}
use Rattle.track_store.proofs.ClearedLists.{cleared-goes}
use Rattle.track_store.proofs.Soundness.{cleared-unnamed, cleared-from_sync, cleared-append}
use Rattle.track_index.specs.declared.entry.OrderEntry.{OrderEntry}
use Rattle.track_index.specs.declared.frames.SerialBelow.{SerialBelow}
use Rattle.track_index.specs.Order.{entries_with, entries_with_all, entry_of, span_of, presentation_order}
use Rattle.track_index.specs.Keyed.{has_entry_serial}
use Rattle.track_index.specs.Frames.{is_serial_below}
use Rattle.track_index.specs.Repair.{AreBetween}
use Rattle.track_index.proofs.EntryOrder.{each_to_ordered}
use Rattle.track_index.proofs.Serials.{filter_ordered}
use Rattle.track_index.proofs.KeptStore.{near_ordered}

pub each_frame : (P Q : Stored → Type 0) (fs : List Stored) → ((f : Stored) → P f → Q f) → AllByRecursion P fs → AllByRecursion Q fs
each_frame P Q [] f h = h
each_frame P Q (x ∷ fs) f h = (f x h.0, each_frame P Q fs f h.1)

pub each_drop : (P : Stored → Type 0) (fs : List Stored) (n : ℕ) → AllByRecursion P fs → AllByRecursion P (drop n fs)
each_drop P fs zero h = h
each_drop P [] (suc n) h = h
each_drop P (f ∷ fs) (suc n) h = each_drop P fs n h.1

ascending_drop : (fs : List Stored) (n : ℕ) → IsAscending fs → IsAscending (drop n fs)
ascending_drop fs zero h = h
ascending_drop [] (suc n) h = h
ascending_drop (f ∷ fs) (suc n) h = ascending_drop fs n h.1

pub each_join : (P : Stored → Type 0) (xs ys : List Stored) → AllByRecursion P xs → AllByRecursion P ys → AllByRecursion P (xs ++ ys)
each_join P [] ys h k = k
each_join P (x ∷ xs) ys h k = (h.0, each_join P xs ys h.1 k)

pub each_take : (P : Stored → Type 0) (fs : List Stored) (n : ℕ) → AllByRecursion P fs → AllByRecursion P (take n fs)
each_take P fs zero h = tt
each_take P [] (suc n) h = h
each_take P (f ∷ fs) (suc n) h = (h.0, each_take P fs n h.1)

-- the frames without those from place i on and before place j
pub each_without : (P : Stored → Type 0) (fs : List Stored) (i j : ℕ) → AllByRecursion P fs → AllByRecursion P (take i fs ++ drop j fs)
each_without P fs i j h = each_join P (take i fs) (drop j fs) (each_take P fs i h) (each_drop P fs j h)

pub ascending_without : (fs : List Stored) (i j : ℕ) → i ≤ j → IsAscending fs → IsAscending (take i fs ++ drop j fs)
ascending_without fs zero j l h = ascending_drop fs j h
ascending_without [] (suc i) zero l h = absurd (omega arith)
ascending_without [] (suc i) (suc j) l h = h
ascending_without (f ∷ fs) (suc i) zero l h = absurd (omega arith)
ascending_without (f ∷ fs) (suc i) (suc j) l h = (each_without (λ g. f.serial < g.serial) fs i j h.0, ascending_without fs i j (omega arith) h.1)

-- one frame more goes
pub without_more : (fs : List Stored) (i n : ℕ) (x : Stored) → i + n < length fs → x ≡ get_or fs (i + n) x → take i fs ++ drop (i + n) fs ≡ take i fs ++ x ∷ drop (i + (n + 1)) fs
without_more fs i n x l at =
    let z : i + n + 1 ≡ i + (n + 1) = omega arith in
    ap (λ zs. take i fs ++ zs) (drop_more fs (i + n) x l ∙ ap (λ y. y ∷ drop (i + n + 1) fs) (sym at) ∙ ap (λ k. x ∷ drop k fs) z)

other : (n m : ℕ) → n < m → nat_eq n m ≡ false
other n m l = grind (arith, nat_tests)

other_high : (n m : ℕ) → m < n → nat_eq n m ≡ false
other_high n m l = grind (arith, nat_tests)

own : (n : ℕ) → nat_eq n n ≡ true
own n = grind (arith, nat_tests)

keep_high : (n : ℕ) (fs : List Stored) → AllByRecursion (λ f. n < f.serial) fs → filter (λ f. not (has_serial n f)) fs ≡ fs
keep_high n [] h = refl
keep_high n (f ∷ fs) h = ap (λ b. cond (not b) (f ∷ filter (λ g. not (has_serial n g)) fs) (filter (λ g. not (has_serial n g)) fs)) (other_high f.serial n h.0) ∙ ap (λ zs. f ∷ zs) (keep_high n fs h.1)

pub mid_high : (xs : List Stored) (x : Stored) (ys : List Stored) → IsAscending (xs ++ x ∷ ys) → AllByRecursion (λ f. x.serial < f.serial) ys
mid_high [] x ys u = u.0
mid_high (f ∷ xs) x ys u = mid_high xs x ys u.1

each_mid : (P : Stored → Type 0) (xs : List Stored) (x : Stored) (ys : List Stored) → AllByRecursion P (xs ++ x ∷ ys) → P x
each_mid P [] x ys h = h.0
each_mid P (f ∷ xs) x ys h = each_mid P xs x ys h.1

filter_mid : (xs : List Stored) (x : Stored) (ys : List Stored) → IsAscending (xs ++ x ∷ ys) → filter (λ f. not (has_serial x.serial f)) (xs ++ x ∷ ys) ≡ xs ++ ys
filter_mid [] x ys u = ap (λ b. cond (not b) (x ∷ filter (λ f. not (has_serial x.serial f)) ys) (filter (λ f. not (has_serial x.serial f)) ys)) (own x.serial) ∙ keep_high x.serial ys u.0
filter_mid (f ∷ xs) x ys u =
    let low = each_mid (λ g. f.serial < g.serial) xs x ys u.0 in
    ap (λ b. cond (not b) (f ∷ filter (λ g. not (has_serial x.serial g)) (xs ++ x ∷ ys)) (filter (λ g. not (has_serial x.serial g)) (xs ++ x ∷ ys))) (other f.serial x.serial low) ∙ ap (λ zs. f ∷ zs) (filter_mid xs x ys u.1)

-- the order without one frame
pub order_without : (xs : List Stored) (x : Stored) (ys : List Stored) → IsAscending (xs ++ x ∷ ys) → filter (λ o. not (has_entry_serial x.serial o)) (presentation_order (xs ++ x ∷ ys)) ≡ presentation_order (xs ++ ys)
order_without xs x ys u = filter_ordered (λ o. not (has_entry_serial x.serial o)) (xs ++ x ∷ ys) ∙ ap presentation_order (filter_mid xs x ys u)

same_low : (xs : List Stored) (x : Stored) (ys : List Stored) → IsAscending (xs ++ x ∷ ys) → AllByRecursion (λ f. f.serial ≡ x.serial → f ≡ x) (xs ++ x ∷ ys)
same_low [] x ys u = (λ e. refl, each_frame (λ f. x.serial < f.serial) (λ f. f.serial ≡ x.serial → f ≡ x) ys (λ f l e. absurd (omega arith)) u.0)
same_low (f ∷ xs) x ys u = let low = each_mid (λ g. f.serial < g.serial) xs x ys u.0 in (λ e. absurd (omega arith), same_low xs x ys u.1)

pub own_pts : (xs : List Stored) (x : Stored) (ys : List Stored) → IsAscending (xs ++ x ∷ ys) → AllByRecursion (λ o. o.serial ≡ x.serial → o.pts ≡ x.frame.pts) (presentation_order (xs ++ x ∷ ys))
own_pts xs x ys u = each_to_ordered (λ o. o.serial ≡ x.serial → o.pts ≡ x.frame.pts) (xs ++ x ∷ ys) (each_frame (λ f. f.serial ≡ x.serial → f ≡ x) (λ f. f.serial ≡ x.serial → f.frame.pts ≡ x.frame.pts) (xs ++ x ∷ ys) (λ f h e. ap (λ (z : Stored). z.frame.pts) (h e)) (same_low xs x ys u))

-- a test of entries and of frames
or_swap : (a b c : Bool) → (a || (b || c)) ≡ (b || (a || c))
or_swap true true c = refl
or_swap true false c = refl
or_swap false b c = refl

any_cond : (p : OrderEntry → Bool) (e o : OrderEntry) (os : List OrderEntry) (b : Bool) → list_any p (entries_with e os) ≡ (p e || list_any p os) → list_any p (cond b (e ∷ o ∷ os) (o ∷ entries_with e os)) ≡ (p e || (p o || list_any p os))
any_cond p e o os true h = refl
any_cond p e o os false h = ap (λ b. p o || b) h ∙ or_swap (p o) (p e) (list_any p os)

any_put : (p : OrderEntry → Bool) (e : OrderEntry) (os : List OrderEntry) → list_any p (entries_with e os) ≡ (p e || list_any p os)
any_put p e [] = refl
any_put p e (o ∷ os) = any_cond p e o os (int_lt e.pts o.pts) (any_put p e os)

or_turn : (a b c : Bool) → (b || (a || c)) ≡ ((a || b) || c)
or_turn true true c = refl
or_turn true false c = refl
or_turn false b c = refl

or_none : (a : Bool) → a ≡ (a || false)
or_none true = refl
or_none false = refl

any_all : (p : OrderEntry → Bool) (os : List OrderEntry) (fs : List Stored) → list_any p (entries_with_all os fs) ≡ (list_any p os || list_any (λ f. p (entry_of f)) fs)
any_all p os [] = or_none (list_any p os)
any_all p os (f ∷ fs) = any_all p (entries_with (entry_of f) os) fs ∙ ap (λ b. b || list_any (λ g. p (entry_of g)) fs) (any_put p (entry_of f) os) ∙ sym (or_turn (p (entry_of f)) (list_any p os) (list_any (λ g. p (entry_of g)) fs))

pub any_ordered : (p : OrderEntry → Bool) (fs : List Stored) → list_any p (presentation_order fs) ≡ list_any (λ f. p (entry_of f)) fs
any_ordered p fs = any_all p [] fs

or_right : (a b : Bool) → b ≡ true → (a || b) ≡ true
or_right true b e = refl
or_right false b e = e

any_mid : (p : Stored → Bool) (xs : List Stored) (x : Stored) (ys : List Stored) → p x ≡ true → list_any p (xs ++ x ∷ ys) ≡ true
any_mid p [] x ys e = ap (λ b. b || list_any p ys) e
any_mid p (f ∷ xs) x ys e = or_right (p f) (list_any p (xs ++ x ∷ ys)) (any_mid p xs x ys e)

pub held_mid : (xs : List Stored) (x : Stored) (ys : List Stored) → list_any (has_entry_serial x.serial) (presentation_order (xs ++ x ∷ ys)) ≡ true
held_mid xs x ys = any_ordered (has_entry_serial x.serial) (xs ++ x ∷ ys) ∙ any_mid (has_serial x.serial) xs x ys (own x.serial)

pub bytes_mid : (xs : List Stored) (x : Stored) (ys : List Stored) → bytes_of (xs ++ x ∷ ys) ≡ length x.frame.payload + bytes_of (xs ++ ys)
bytes_mid xs x ys =
    let a = sum_by-append (λ f. length f.frame.payload) xs (x ∷ ys) in
    let b = sum_by-append (λ f. length f.frame.payload) xs ys in
    let c = sum_by-cons (λ f. length f.frame.payload) x ys in
    omega arith

-- ---- the whole run

each_from_sync : (P : Stored → Type 0) (fs : List Stored) → AllByRecursion P fs → AllByRecursion P (from_sync fs)
each_from_sync P [] h = h
each_from_sync P (f ∷ fs) h = elim f.frame.sync as (λ b. AllByRecursion P (cond b (f ∷ fs) (from_sync fs))) [ true ↦ h | false ↦ each_from_sync P fs h.1 ]

at_later : (n : ℕ) (fs : List Stored) (i : ℕ) (d : Stored) → i < length fs → AllByRecursion (λ g. n < g.serial) fs → n < (get_or fs i d).serial
at_later n [] i d l h = absurd (omega arith)
at_later n (f ∷ fs) zero d l h = h.0
at_later n (f ∷ fs) (suc i) d l h = at_later n fs i d (omega arith) h.1

pub lowest : (fs : List Stored) (i : ℕ) (x : Stored) → IsAscending fs → i < length fs → x ≡ get_or fs i x → AllByRecursion (λ f. f.serial < x.serial) (take i fs)
lowest fs zero x u l at = tt
lowest [] (suc i) x u l at = absurd (omega arith)
lowest (f ∷ fs) (suc i) x u l at = (subst (λ (z : Stored). f.serial < z.serial) (sym at) (at_later f.serial fs i x (omega arith) u.0), lowest fs i x u.1 (omega arith) at)

unnamed_low : (n : ℕ) (fs : List Stored) → AllByRecursion (λ f. f.serial < n) fs → AllByRecursion (λ f. has_serial n f ≡ false) fs
unnamed_low n fs h = each_frame (λ f. f.serial < n) (λ f. has_serial n f ≡ false) fs (λ f l. other f.serial n l) h

unnamed_high : (n : ℕ) (fs : List Stored) → AllByRecursion (λ f. n < f.serial) fs → AllByRecursion (λ f. has_serial n f ≡ false) fs
unnamed_high n fs h = each_frame (λ f. n < f.serial) (λ f. has_serial n f ≡ false) fs (λ f l. other_high f.serial n l) h

-- what a removal of the frame at a place leaves
pub run_gone : (fs : List Stored) (i j : ℕ) (x : Stored) → IsAscending fs → i < length fs → x ≡ get_or fs i x → drop j fs ≡ from_sync (drop (i + 1) fs) → frames_left false (has_serial x.serial) fs ≡ take i fs ++ drop j fs
run_gone fs i j x u l at e =
    let parts : fs ≡ take i fs ++ x ∷ drop (i + 1) fs = sym (take-append-drop i fs) ∙ ap (λ zs. take i fs ++ zs) (drop_more fs i x l ∙ ap (λ y. y ∷ drop (i + 1) fs) (sym at)) in
    let high = mid_high (take i fs) x (drop (i + 1) fs) (subst IsAscending parts u) in
    ap (frames_left false (has_serial x.serial)) parts ∙ cleared-append (has_serial x.serial) (take i fs) (x ∷ drop (i + 1) fs) (unnamed_low x.serial (take i fs) (lowest fs i x u l at))
    ∙ ap (λ zs. take i fs ++ zs) (cleared-goes (has_serial x.serial) false x (drop (i + 1) fs) (ap (λ b. b || false) (own x.serial)) ∙ cleared-from_sync (has_serial x.serial) (drop (i + 1) fs)
    ∙ cleared-unnamed (has_serial x.serial) (from_sync (drop (i + 1) fs)) (unnamed_high x.serial (from_sync (drop (i + 1) fs)) (each_from_sync (λ f. x.serial < f.serial) (drop (i + 1) fs) high)) ∙ sym e)

less_of : (a b : ℕ) → nat_lt a b ≡ true → a < b
less_of a b e = grind (arith, nat_tests)

more_of : (a b : ℕ) → nat_lt a b ≡ false → b ≤ a
more_of a b e = grind (arith, nat_tests)

not_less : (a b : ℕ) → b ≤ a → nat_lt a b ≡ false
not_less a b h = grind (arith, nat_tests)

same_of : (a b : ℕ) → nat_eq a b ≡ true → a ≡ b
same_of a b e = grind (arith, nat_tests)

apart : (a b : ℕ) → nat_eq a b ≡ false → b ≤ a → b < a
apart a b e l = grind (arith, nat_tests)

none_high : (n : ℕ) (fs : List Stored) → AllByRecursion (λ f. n < f.serial) fs → list_any (has_serial n) fs ≡ false
none_high n [] h = refl
none_high n (f ∷ fs) h = ap (λ b. b || list_any (has_serial n) fs) (other_high f.serial n h.0) ∙ none_high n fs h.1

true_false : (b : Bool) → b ≡ true → b ≡ false → ⊥
true_false true e f = cc
true_false false e f = cc

first_of : (n : ℕ) (f : Stored) (fs : List Stored) (b : Bool) → has_serial n f ≡ b → (has_serial n f || list_any (has_serial n) fs) ≡ true → n ≤ f.serial → AllByRecursion (λ g. f.serial < g.serial) fs → f.serial ≡ n
first_of n f fs true e h l u = same_of f.serial n e
first_of n f fs false e h l u =
    let high : n < f.serial = apart f.serial n e l in
    absurd (true_false (list_any (has_serial n) fs) (sym (ap (λ b. b || list_any (has_serial n) fs) e) ∙ h) (none_high n fs (each_frame (λ g. f.serial < g.serial) (λ g. n < g.serial) fs (λ g k. omega arith) u)))

-- the place of a frame that is held
pub held_at : (n : ℕ) (fs : List Stored) (i : ℕ) (d : Stored) → list_any (has_serial n) fs ≡ true → AllByRecursion (λ f. f.serial < n) (take i fs) → AllByRecursion (λ f. n ≤ f.serial) (drop i fs) → IsAscending fs → (i < length fs) × ((get_or fs i d).serial ≡ n)
held_at n [] i d e h k u = absurd cc
held_at n (f ∷ fs) zero d e h k u = (omega arith, first_of n f fs (has_serial n f) refl e k.0 u.0)
held_at n (f ∷ fs) (suc i) d e h k u =
    let r = held_at n fs i d (sym (ap (λ b. b || list_any (has_serial n) fs) (other f.serial n h.0)) ∙ e) h.1 k u.1 in
    let r0 = r.0 in
    (omega arith, r.1)

pub cut_below : (s : SerialBelow) (fs : List Stored) → IsAscending fs → IsCut (is_serial_below s) fs
cut_below s [] u = tt
cut_below s (f ∷ fs) u = (λ e. let low = more_of f.serial s.serial e in each_frame (λ g. f.serial < g.serial) (λ g. is_serial_below s g ≡ false) fs (λ g l. not_less g.serial s.serial (omega arith)) u.0, cut_below s fs u.1)

pub lows_of : (s : SerialBelow) (fs : List Stored) → AllByRecursion (λ f. is_serial_below s f ≡ true) fs → AllByRecursion (λ f. f.serial < s.serial) fs
lows_of s fs h = each_frame (λ f. is_serial_below s f ≡ true) (λ f. f.serial < s.serial) fs (λ f e. less_of f.serial s.serial e) h

pub highs_of : (s : SerialBelow) (fs : List Stored) → AllByRecursion (λ f. is_serial_below s f ≡ false) fs → AllByRecursion (λ f. s.serial ≤ f.serial) fs
highs_of s fs h = each_frame (λ f. is_serial_below s f ≡ false) (λ f. s.serial ≤ f.serial) fs (λ f e. more_of f.serial s.serial e) h

-- ---- the ranges before the repair

or_mid : (a b c : Bool) → (a || (b || c)) ≡ ((a || c) || b)
or_mid true b c = refl
or_mid false true true = refl
or_mid false true false = refl
or_mid false false true = refl
or_mid false false false = refl

or_left : (a b : Bool) → a ≡ true → (a || b) ≡ true
or_left a b e = ap (λ x. x || b) e

pub three_parts : (fs : List Stored) (i n : ℕ) → fs ≡ take i fs ++ (take n (drop i fs) ++ drop (i + n) fs)
three_parts fs i n =
    let z : drop n (drop i fs) ≡ drop (i + n) fs = drop-drop n i fs ∙ ap (λ k. drop k fs) refl in
    sym (take-append-drop i fs) ∙ ap (λ zs. take i fs ++ zs) (sym (take-append-drop n (drop i fs)) ∙ ap (λ zs. take n (drop i fs) ++ zs) z)

parts2 : (gap t : ℤ) (xs ys : List Stored) → is_near_any gap t (intervals (xs ++ ys)) ≡ (is_near_any gap t (intervals xs) || is_near_any gap t (intervals ys))
parts2 gap t xs ys = ap (is_near_any gap t) (map-append interval xs ys) ∙ nears-append gap t (intervals xs) (intervals ys)

parts3 : (gap t : ℤ) (xs ms ys : List Stored) → is_near_any gap t (intervals (xs ++ (ms ++ ys))) ≡ (is_near_any gap t (intervals xs) || (is_near_any gap t (intervals ms) || is_near_any gap t (intervals ys)))
parts3 gap t xs ms ys = parts2 gap t xs (ms ++ ys) ∙ ap (λ b. is_near_any gap t (intervals xs) || b) (parts2 gap t ms ys)

-- the ranges of all frames lie between those of what stays and those of what goes too
pub between_run : (gap : ℤ) (fs : List Stored) (i n : ℕ) (rs : List Span) → pos 0 ≤ℤ gap → rs ≡ ranges_of gap fs → AreBetween gap (map span_of (presentation_order (take i fs ++ drop (i + n) fs))) (intervals (take n (drop i fs))) rs
between_run gap fs i n rs g e = λ t.
    let xs = take i fs in let ms = take n (drop i fs) in let ys = drop (i + n) fs in
    let all : is_near_any gap t rs ≡ (is_near_any gap t (map span_of (presentation_order (take i fs ++ drop (i + n) fs))) || is_near_any gap t (intervals (take n (drop i fs)))) =
    ap (is_near_any gap t) e ∙ times_bridged gap t (intervals fs) g ∙ ap (λ zs. is_near_any gap t (intervals zs)) (three_parts fs i n) ∙ parts3 gap t xs ms ys
    ∙ or_mid (is_near_any gap t (intervals (take i fs))) (is_near_any gap t (intervals (take n (drop i fs)))) (is_near_any gap t (intervals (drop (i + n) fs)))
    ∙ ap (λ b. b || is_near_any gap t (intervals (take n (drop i fs)))) (sym (parts2 gap t xs ys) ∙ sym (near_ordered gap t (take i fs ++ drop (i + n) fs))) in
    ((λ k. all ∙ or_left _ _ k), (λ k. sym all ∙ k))

-- ---- walking over a run

pub each_at : (P : Stored → Type 0) (fs : List Stored) (i : ℕ) (d : Stored) → i < length fs → AllByRecursion P fs → P (get_or fs i d)
each_at P [] i d l h = absurd (omega arith)
each_at P (f ∷ fs) zero d l h = h.0
each_at P (f ∷ fs) (suc i) d l h = each_at P fs i d (omega arith) h.1

pub first_place : {T : Type 0} (rows : List (List T)) (s : BlockPlace) → s.block < length rows → s.index < length (row rows s.block) → IsPlace rows s
first_place rows s l k = record { item = λ _. k; end = λ h. absurd (omega arith) }

pub run_next : (fs : List Stored) (i count n : ℕ) (x : Stored) → i + count ≤ length fs → n < count → x ≡ get_or fs (i + n) x → drop n (take count (drop i fs)) ≡ x ∷ drop (n + 1) (take count (drop i fs))
run_next fs i count n x l k at =
    let long : length (take count (drop i fs)) ≡ count = length-take-le count (drop i fs) (omega (arith, length-drop i fs)) in
    let here : get_or (take count (drop i fs)) n x ≡ x = get_or-take count (drop i fs) n x k ∙ get_or-drop i fs n x ∙ sym at in
    drop_more (take count (drop i fs)) n x (omega arith) ∙ ap (λ z. z ∷ drop (n + 1) (take count (drop i fs))) here

pub run_over : (fs : List Stored) (i count n : ℕ) → i + count ≤ length fs → count ≤ n → drop n (take count (drop i fs)) ≡ []
run_over fs i count n l k = drop_all n (take count (drop i fs)) (omega (arith, length-take-le count (drop i fs) (omega (arith, length-drop i fs))))

pub frame_of : (fs : List Stored) (i : ℕ) → i < length fs → (x : Stored) × (x ≡ get_or fs i x)
frame_of [] i l = absurd (omega arith)
frame_of (f ∷ fs) zero l = (f, refl)
frame_of (f ∷ fs) (suc i) l = let r = frame_of fs i (omega arith) in (r.0, r.1)

pub held_place : (n : ℕ) (fs : List Stored) (i : ℕ) → list_any (has_serial n) fs ≡ true → AllByRecursion (λ f. f.serial < n) (take i fs) → i < length fs
held_place n [] i e h = absurd cc
held_place n (f ∷ fs) zero e h = omega arith
held_place n (f ∷ fs) (suc i) e h = let r = held_place n fs i (sym (ap (λ b. b || list_any (has_serial n) fs) (other f.serial n h.0)) ∙ e) h.1 in omega arith

-- what a removal of the frame of a serial leaves
pub serial_gone : (n : ℕ) (fs : List Stored) (i j : ℕ) → IsAscending fs → list_any (has_serial n) fs ≡ true → AllByRecursion (λ f. f.serial < n) (take i fs) → AllByRecursion (λ f. n ≤ f.serial) (drop i fs) → drop j fs ≡ from_sync (drop (i + 1) fs) → frames_left false (has_serial n) fs ≡ take i fs ++ drop j fs
serial_gone n fs i j u held low high e =
    let l = held_place n fs i held low in
    let x = frame_of fs i l in
    let k = (held_at n fs i x.0 held low high u).1 in
    let same : x.0.serial ≡ n = ap (λ (z : Stored). z.serial) x.1 ∙ k in
    ap (λ m. frames_left false (has_serial m) fs) (sym same) ∙ run_gone fs i j x.0 u l x.1 e

pub length_without : (fs : List Stored) (i n : ℕ) → i + n ≤ length fs → length (take i fs ++ drop (i + n) fs) + n ≡ length fs
length_without fs i n l = omega (arith, length-append (take i fs) (drop (i + n) fs), length-take-le i fs (omega arith), length-drop (i + n) fs)

-- ---- the next that is named

-- the frame at a place is one of a serial that there is
pub any_at : (fs : List Stored) (i : ℕ) (x : Stored) → i < length fs → x ≡ get_or fs i x → list_any (has_serial x.serial) fs ≡ true
any_at [] i x l e = absurd (omega arith)
any_at (f ∷ fs) zero x l e = ap (λ (g : Stored). has_serial x.serial g || list_any (has_serial x.serial) fs) (sym e) ∙ ap (λ b. b || list_any (has_serial x.serial) fs) (own x.serial)
any_at (f ∷ fs) (suc i) x l e = or_right (has_serial x.serial f) (list_any (has_serial x.serial) fs) (any_at fs i x (omega arith) e)

pub held_in : (fs : List Stored) (os : List OrderEntry) (i : ℕ) (x : Stored) → os ≡ presentation_order fs → i < length fs → x ≡ get_or fs i x → list_any (has_entry_serial x.serial) os ≡ true
held_in fs os i x o l e = ap (list_any (has_entry_serial x.serial)) o ∙ any_ordered (has_entry_serial x.serial) fs ∙ any_at fs i x l e
